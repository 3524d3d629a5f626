-- A metadata record whose bytes are copied is read the same, except for the offsets in its tree, on which no
-- class depends.
use Rattle.std.specs.Prelude.{◌≡◌, ℕ, zero, suc, ◌+◌, ◌-◌, false, List, [], ◌∷◌, length, Ok}
use Rattle.std.proofs.Common.{ap, arith, refl, sym, ◌∙◌, subst}
use Rattle.jfr_base.specs.Formats.{Format, Done, Stop, ◌>>=◌, times, integer, Reads}
use Rattle.jfr_base.proofs.AlikeLaws.{Alike, Each, alike_then, alike_times}
use Rattle.jfr_base.proofs.FreeLaws.{bind_free}
use Rattle.jfr_base.proofs.ReadLaws.{reads_then, reads_parted}
use Rattle.jfr_base.proofs.HoldLaws.{Holds}
use Rattle.jfr_text.proofs.StringLaws.{string_free}
use Rattle.jfr_text.specs.Strings.{string_format}
use Rattle.jfr_layout.specs.Classes.{Classes}
use Rattle.jfr_frame.specs.declared.framed.Framed.{Framed}
use Rattle.jfr_frame.specs.Records.{IsRecord, record_end, record_bytes}
use Rattle.jfr_meta.specs.Trees.{Tree, Node, Trees, Cons, tree, trees_of}
use Rattle.jfr_meta.specs.Body.{Body, table_string, table_text, pair, element_format, body_format, meta_format}
use Rattle.jfr_meta.specs.Described.{described, IsMetadata}
use Rattle.jfr_meta.specs.Written.{bare, bares}
use Rattle.jfr_meta.proofs.Bare.{described_bare}
use Rattle.jfr_laws.proofs.Free.{Same, each_same, free_alike}
use Rattle.jfr_laws.proofs.Copied.{record_length, copied_to, body_copied}

-- Two trees that are the same but for their places.
abbrev SameTree : Tree → Tree → Type 0
SameTree t u = bare t ≡ bare u

-- Two bodies that are.
pub record SameBody (b d : Body) : Type 0 where
  pub start : b.start ≡ d.start
  pub duration : b.duration ≡ d.duration
  pub id : b.id ≡ d.id
  pub strings : b.strings ≡ d.strings
  pub root : bare b.root ≡ bare d.root

same_trees : (ts us : List Tree) → Each SameTree ts us → bares (trees_of ts) ≡ bares (trees_of us)
same_trees [] [] e = refl
same_trees [] (u ∷ us) e = absurd e
same_trees (t ∷ ts) [] e = absurd e
same_trees (t ∷ ts) (u ∷ us) e = λ i. Cons (e.0 i) (same_trees ts us e.1 i)

element_alike : (levels limit : ℕ) → Alike SameTree (element_format levels limit) (element_format levels limit)
unfolding element_format
element_alike zero limit = tt
element_alike (suc levels) limit = λ p q. λ name s. (
  (λ e. e),
  λ n t. (
    (λ e. e),
    alike_then (Each Same) SameTree (times n (pair limit)) (times n (pair limit)) (rest p name) (rest q name) (alike_times Same n (pair limit) (pair limit) (free_alike (pair limit) (λ v s w t. tt)))
        (λ ps qs e. λ m u. (
          (λ e. e),
          alike_then (Each SameTree) SameTree (times m (element_format levels limit)) (times m (element_format levels limit)) (λ ts. Done (tree p name ps ts)) (λ ts. Done (tree q name qs ts))
              (alike_times SameTree m (element_format levels limit) (element_format levels limit) (element_alike levels limit))
              (λ ts us r. same name ps qs (trees_of ts) (trees_of us) (each_same ps qs e) (same_trees ts us r)),
        )),
  ),
)
  where
    rest : ℕ → ℕ → List (ℕ × ℕ) → Format Tree
    rest at name pairs = integer >>= λ m. times m (element_format levels limit) >>= λ children. Done (tree at name pairs children)

    same : (name : ℕ) (ps qs : List (ℕ × ℕ)) (ts us : Trees) → ps ≡ qs → bares ts ≡ bares us → Node 0 name ps (bares ts) ≡ Node 0 name qs (bares us)
    same name ps qs ts us e f = λ i. Node 0 name (e i) (f i)

table_alike : Alike Same table_string table_string
table_alike = free_alike table_string (bind_free (string_format false) (λ s. Done (table_text s)) (string_free false) (λ s. tt))

body_alike : Alike SameBody body_format body_format
unfolding body_format
body_alike = λ start s. (
  (λ e. e),
  λ duration t. (
    (λ e. e),
    λ id u. (
      (λ e. e),
      λ n v. (
        (λ e. e),
        alike_then (Each Same) SameBody (times n table_string) (times n table_string) (rest start duration id n) (rest start duration id n) (alike_times Same n table_string table_string table_alike)
            (λ xs ys e. alike_then SameTree SameBody (element_format 16 n) (element_format 16 n) (done start duration id xs) (done start duration id ys) (element_alike 16 n)
            (λ t u r. record { start = refl; duration = refl; id = refl; strings = each_same xs ys e; root = r })),
      ),
    ),
  ),
)
  where
    done : ℕ → ℕ → ℕ → List (List ℕ) → Tree → Format Body
    done start duration id strings root = Done (record { start = start; duration = duration; id = id; strings = strings; root = root })

    rest : ℕ → ℕ → ℕ → ℕ → List (List ℕ) → Format Body
    rest start duration id n strings = element_format 16 n >>= λ root. Done (record { start = start; duration = duration; id = id; strings = strings; root = root })

-- Such bodies describe the same classes.
described_same : (b d : Body) (k : Classes) → SameBody b d → described b ≡ Ok k → described d ≡ Ok k
described_same b d k s e =
    described_bare d.start d.duration d.id d.strings b.root d.root k s.root
    (sym (λ i. described (record { start = s.start i; duration = s.duration i; id = s.id i; strings = s.strings i; root = b.root })) ∙ e)

-- A metadata record that is copied describes the same classes.
pub metadata_copied : (c b : List ℕ) (r : Framed) (at : ℕ) (d : Body) (k : Classes) → IsRecord c r → Holds b (length b) at (record_bytes c r) → IsMetadata c r d k
    → (m : Body) × IsMetadata b (copied_to c at r) m k × SameBody d m
unfolding meta_format
metadata_copied c b r at d k s h m =
    let p = reads_parted body_format (λ m. Stop (Done m)) c (record_end r) r.body d (record_end r) m.body in
    let e : d ≡ p.value = p.second.1.0 in
    let g : record_end r ≡ p.place = p.second.1.1 in
    let i = body_copied SameBody body_format body_format body_alike c b r at p.value p.place s h p.first in
    let l : length (record_bytes c r) ≡ r.size = record_length c r s in
    let end : ℕ = at + length (record_bytes c r) in
    let t : at + (p.place - r.at) ≡ end = omega arith in
    let read = reads_then body_format (λ m. Stop (Done m)) b end (at + (r.body - r.at)) i.value end i.value end (subst (Reads body_format b end (at + (r.body - r.at)) i.value) t i.reads)
    (omega arith, (refl, refl)) in
    (i.value, record { body = read; classes = described_same p.value i.value k i.related (ap described (sym e) ∙ m.classes) }, subst (λ z. SameBody z i.value) (sym e) i.related)
