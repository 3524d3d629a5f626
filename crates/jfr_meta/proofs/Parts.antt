-- What the format of an element gives, part by part.
use Rattle.std.specs.Prelude.{◌≡◌, ℕ, suc, List, Err}
use Rattle.std.proofs.Common.{ap, ◌∙◌}
use Rattle.jfr_base.specs.declared.flaw.Flaw.{Flaw}
use Rattle.jfr_base.specs.declared.flaw.ReadFault.{ReadFault}
use Rattle.jfr_base.specs.declared.flaw.ReadFault.TheVariants.{Flawed, Memory}
use Rattle.jfr_base.specs.declared.reason.Reason.TheVariants.{TreeDeep}
use Rattle.jfr_base.specs.Formats.{Format, Done, ◌>>=◌, Answer, refused, integer, run, times}
use Rattle.jfr_meta.specs.Answers.{IsFault}
use Rattle.jfr_meta.specs.Body.{index, pair, element_format}
use Rattle.jfr_meta.specs.Trees.{Tree, tree}
use Rattle.jfr_meta.proofs.Runs.{ok, bind_ok, bind_err}

-- A fault of a part is the fault of the whole.
pub carried : {A B : Type 0} (a : Answer A) (b : Answer B) (e : ReadFault) → IsFault a e → ((w : Flaw) → a ≡ Err w → b ≡ Err w) → IsFault b e
carried a b (Flawed w) h f = f w h
carried a b Memory h f = tt

-- What follows each part of an element.
abbrev pub after_number : ℕ → ℕ → ℕ → ℕ → List (ℕ × ℕ) → ℕ → Format Tree
after_number levels limit at name pairs m = times m (element_format levels limit) >>= λ children. Done (tree at name pairs children)

abbrev pub after_pairs : ℕ → ℕ → ℕ → ℕ → List (ℕ × ℕ) → Format Tree
after_pairs levels limit at name pairs = integer >>= λ m. after_number levels limit at name pairs m

abbrev pub after_count : ℕ → ℕ → ℕ → ℕ → ℕ → Format Tree
after_count levels limit at name n = times n (pair limit) >>= λ pairs. after_pairs levels limit at name pairs

abbrev pub after_name : ℕ → ℕ → ℕ → ℕ → Format Tree
after_name levels limit at name = integer >>= λ n. after_count levels limit at name n

pub too_deep : (levels limit : ℕ) (x : List ℕ) (end at : ℕ) → levels ≡ 0 → run (element_format levels limit) x end at ≡ refused at TreeDeep
unfolding run element_format
too_deep levels limit x end at e = ap (λ z. run (element_format z limit) x end at) e

-- An element whose first parts have been read: the number of its children starts at an offset.
pub record Begun (levels limit : ℕ) (x : List ℕ) (end at name : ℕ) (p : ℕ) : Type 0 where
  pub same : run (element_format (suc levels) limit) x end at ≡ run (after_name levels limit at name) x end p

pub named_ok : (levels limit : ℕ) (x : List ℕ) (end at name p : ℕ) → run (index limit) x end at ≡ ok name p → Begun levels limit x end at name p
unfolding run element_format
named_ok levels limit x end at name p e = record { same = bind_ok (index limit) (λ name. after_name levels limit at name) x end at name p e }

pub named_err : (levels limit : ℕ) (x : List ℕ) (end at : ℕ) (w : Flaw) → run (index limit) x end at ≡ Err w → run (element_format (suc levels) limit) x end at ≡ Err w
unfolding run element_format
named_err levels limit x end at w e = bind_err (index limit) (λ name. after_name levels limit at name) x end at w e

pub record Counted (levels limit : ℕ) (x : List ℕ) (end at name n : ℕ) (p : ℕ) : Type 0 where
  pub same : run (element_format (suc levels) limit) x end at ≡ run (after_count levels limit at name n) x end p

pub counted_ok : (levels limit : ℕ) (x : List ℕ) (end at name p n q : ℕ) → Begun levels limit x end at name p → run integer x end p ≡ ok n q → Counted levels limit x end at name n q
counted_ok levels limit x end at name p n q b e = record { same = b.same ∙ bind_ok integer (λ n. after_count levels limit at name n) x end p n q e }

pub counted_err : (levels limit : ℕ) (x : List ℕ) (end at name p : ℕ) (w : Flaw) → Begun levels limit x end at name p → run integer x end p ≡ Err w
    → run (element_format (suc levels) limit) x end at ≡ Err w
counted_err levels limit x end at name p w b e = b.same ∙ bind_err integer (λ n. after_count levels limit at name n) x end p w e

pub record Paired (levels limit : ℕ) (x : List ℕ) (end at name : ℕ) (pairs : List (ℕ × ℕ)) (p : ℕ) : Type 0 where
  pub same : run (element_format (suc levels) limit) x end at ≡ run (after_pairs levels limit at name pairs) x end p

pub paired_ok : (levels limit : ℕ) (x : List ℕ) (end at name n p : ℕ) (pairs : List (ℕ × ℕ)) (q : ℕ) → Counted levels limit x end at name n p → run (times n (pair limit)) x end p ≡ ok pairs q
    → Paired levels limit x end at name pairs q
paired_ok levels limit x end at name n p pairs q b e = record { same = b.same ∙ bind_ok (times n (pair limit)) (λ pairs. after_pairs levels limit at name pairs) x end p pairs q e }

pub paired_err : (levels limit : ℕ) (x : List ℕ) (end at name n p : ℕ) (w : Flaw) → Counted levels limit x end at name n p → run (times n (pair limit)) x end p ≡ Err w
    → run (element_format (suc levels) limit) x end at ≡ Err w
paired_err levels limit x end at name n p w b e = b.same ∙ bind_err (times n (pair limit)) (λ pairs. after_pairs levels limit at name pairs) x end p w e

pub record Numbered (levels limit : ℕ) (x : List ℕ) (end at name : ℕ) (pairs : List (ℕ × ℕ)) (m p : ℕ) : Type 0 where
  pub same : run (element_format (suc levels) limit) x end at ≡ run (after_number levels limit at name pairs m) x end p

pub numbered_ok : (levels limit : ℕ) (x : List ℕ) (end at name : ℕ) (pairs : List (ℕ × ℕ)) (p m q : ℕ) → Paired levels limit x end at name pairs p → run integer x end p ≡ ok m q
    → Numbered levels limit x end at name pairs m q
numbered_ok levels limit x end at name pairs p m q b e = record { same = b.same ∙ bind_ok integer (λ m. after_number levels limit at name pairs m) x end p m q e }

pub numbered_err : (levels limit : ℕ) (x : List ℕ) (end at name : ℕ) (pairs : List (ℕ × ℕ)) (p : ℕ) (w : Flaw) → Paired levels limit x end at name pairs p → run integer x end p ≡ Err w
    → run (element_format (suc levels) limit) x end at ≡ Err w
numbered_err levels limit x end at name pairs p w b e = b.same ∙ bind_err integer (λ m. after_number levels limit at name pairs m) x end p w e

pub element_ok : (levels limit : ℕ) (x : List ℕ) (end at name : ℕ) (pairs : List (ℕ × ℕ)) (m p : ℕ) (children : List Tree) (q : ℕ)
    → Numbered levels limit x end at name pairs m p → run (times m (element_format levels limit)) x end p ≡ ok children q
    → run (element_format (suc levels) limit) x end at ≡ ok (tree at name pairs children) q
unfolding run
element_ok levels limit x end at name pairs m p children q b e = b.same ∙ bind_ok (times m (element_format levels limit)) (λ children. Done (tree at name pairs children)) x end p children q e

pub element_err : (levels limit : ℕ) (x : List ℕ) (end at name : ℕ) (pairs : List (ℕ × ℕ)) (m p : ℕ) (w : Flaw)
    → Numbered levels limit x end at name pairs m p → run (times m (element_format levels limit)) x end p ≡ Err w → run (element_format (suc levels) limit) x end at ≡ Err w
element_err levels limit x end at name pairs m p w b e = b.same ∙ bind_err (times m (element_format levels limit)) (λ children. Done (tree at name pairs children)) x end p w e
