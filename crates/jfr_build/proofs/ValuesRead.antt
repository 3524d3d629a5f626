-- Values of a built chunk, by their bytes.
use Rattle.std.specs.Prelude.{◌≡◌, ℕ, ◌+◌, ◌≤◌, ◌==◌, false, List, [], ◌∷◌, length, Option, Some, None, Ok, if◌then◌else◌}
use Rattle.std.specs.Option.{option_map_or}
use Rattle.std.proofs.Common.{ap, arith, refl, subst, sym}
use Rattle.std.proofs.lemmas.Bool.Decides.{nat_tests}
use Rattle.jfr_base.specs.Formats.{Exactly, Reads, run}
use Rattle.jfr_base.proofs.HoldLaws.{Holds}
use Rattle.jfr_base.proofs.RunLaws.{Stands, exact_run}
use Rattle.jfr_layout.specs.Classes.{Classes, Sound}
use Rattle.jfr_value.specs.Values.{Value, bytes_of}
use Rattle.jfr_value.specs.Reading.{value_format}
use Rattle.jfr_value.specs.Nodes.{got_value, node_at, value_of}
use Rattle.jfr_value.specs.Leaves.{leaves_at}
use Rattle.jfr_value.proofs.DepthLaws.{fits_good}
use Rattle.jfr_laws.proofs.Values.{exact_reads}
use Rattle.jfr_pool.specs.Entries.{inline}
use Rattle.jfr_chunk.specs.Parts.{Parts}
use Rattle.jfr_build.specs.LeafWords.{AreWordsOf}
use Rattle.jfr_build.specs.Taking.{Taken, took, value_taken}
use Rattle.jfr_build.specs.LineValues.{all_taken, spelled_value}
use Rattle.jfr_build.specs.Accepted.{HasWords}
use Rattle.jfr_build.proofs.TakenLaws.{taken_exactly}

-- A value for which all words were taken leaves none.
all_took : (o : Option (Taken Value)) (v : Value) → all_taken o ≡ Some v → o ≡ took v []
all_took None v e = cc
all_took (Some t) v e = by_rest t.value t.rest e
  where
    by_rest : (w : Value) (rest : List (List ℕ)) → (if length rest == 0 then Some w else None) ≡ Some v → took w rest ≡ took v []
    by_rest w [] e = let h : w ≡ v = cc in ap (λ z. took z []) h
    by_rest w (x ∷ rest) e = let h : (length (x ∷ rest) == 0) ≡ false = grind (arith, nat_tests) in cc (rw h at e)

-- The words of a class spell this value: it is read from its bytes, and its leaves have these words.
pub record Spelled (k : Classes) (class : ℕ) (words : List (List ℕ)) (v : Value) : Type 0 where
  pub exact : Exactly (value_format k (inline class)) (bytes_of v) v
  pub words_are : (at : ℕ) → AreWordsOf words (leaves_at None at v)

-- The words that are taken as a value spell it.
pub spelled : (k : Classes) (class : ℕ) (words : List (List ℕ)) (v : Value) → Sound k → spelled_value k class words ≡ Some v → Spelled k class words v
spelled k class words v sound e =
    let t = (taken_exactly k (inline class) words v sound).0 (all_took (value_taken k (inline class) words) v e) in
    record { exact = subst (λ z. Exactly (value_format k z) (bytes_of v) v) t.shape (fits_good k v sound t.fits); words_are = t.leaves }

-- The value is read at an offset, and its node there has the words.
pub record ValueThere (p : Parts) (class : ℕ) (words : List (List ℕ)) (v : Value) (end at to : ℕ) : Type 0 where
  pub reads : Reads (value_format p.classes (inline class)) p.bytes end at v to
  pub runs : run (value_format p.classes (inline class)) p.bytes end at ≡ Ok (record { value = v; place = to })
  pub has : HasWords p class words (node_at (inline class) at to)

-- A value that words spell is read wherever its bytes lie.
pub value_there : (p : Parts) (class : ℕ) (words : List (List ℕ)) (v : Value) (end at : ℕ) → Spelled p.classes class words v → Holds p.bytes end at (bytes_of v)
    → ValueThere p class words v end at (at + length (bytes_of v))
unfolding value_of
value_there p class words v end at s h =
    let to : ℕ = at + length (bytes_of v) in
    let w : to ≤ end = h.within in
    let i : end ≤ length p.bytes = h.inside in
    let holds : Stands p.bytes at to (bytes_of v) = record { order = omega arith; within = omega arith; bytes = h.bytes } in
    let found : value_of p.classes p.bytes (node_at (inline class) at to) ≡ Some v =
    ap got_value (exact_run p.bytes to holds.within (value_format p.classes (inline class)) at to (bytes_of v) v s.exact holds (omega arith)) in
    record {
      reads = exact_reads (value_format p.classes (inline class)) p.bytes end at to (bytes_of v) v s.exact holds w i;
      runs = exact_run p.bytes end i (value_format p.classes (inline class)) at to (bytes_of v) v s.exact holds w;
      has = record { shape = refl; leaves = subst (λ o. AreWordsOf words (option_map_or (leaves_at None at) o [])) (sym found) (s.words_are at) };
    }
