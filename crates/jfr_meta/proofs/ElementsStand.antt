-- The bytes spell the element that its format reads; by cases on the tree.
use Rattle.std.specs.Prelude.{◌≡◌, ℕ, zero, suc, ◌-◌, ◌<◌, List, ◌∷◌, length, Some, None, Bool, true, false, nat_lt, if◌then◌else◌}
use Rattle.std.proofs.Common.{ap, arith, refl, sym, ◌∙◌, subst}
use Rattle.std.proofs.lemmas.Bool.{ltb-true}
use Rattle.jfr_base.specs.declared.reason.Reason.TheVariants.{StringIndex}
use Rattle.jfr_base.specs.Integer.{IntAt}
use Rattle.jfr_base.specs.Formats.{Format, Done, Stop, ◌>>=◌, Reads, integer, times}
use Rattle.jfr_base.proofs.ReadLaws.{reads_parted}
use Rattle.jfr_frame.specs.declared.framed.Framed.{Framed}
use Rattle.jfr_frame.specs.Records.{record_end}
use Rattle.jfr_layout.specs.Classes.{Classes}
use Rattle.jfr_meta.specs.Trees.{Tree, tree, trees_of}
use Rattle.jfr_meta.specs.Body.{Body, table_string, index, index_check, pair, element_format, body_format, meta_format, ArePairs, IsElement, AreElements, how_many}
use Rattle.jfr_meta.specs.Described.{IsMetadata}
use Rattle.jfr_meta.specs.Heads.{head_format}
use Rattle.jfr_meta.specs.Laws.{SpellsBody}
use Rattle.jfr_meta.proofs.Bodies.{Four, after_head, after_strings, body_of}
use Rattle.jfr_meta.proofs.Parts.{after_name, after_count, after_pairs, after_number}

module _ (x : List ℕ) (end : ℕ) where
  integer_is : (at v p : ℕ) → Reads integer x end at v p → IntAt x at p v
  integer_is at v p r = let P : ℕ → Type 0 = λ q. IntAt x at q v in subst P (sym r.5.1) (subst (λ w. IntAt x at r.0 w) (sym r.5.0) r.2)

  below : (limit v : ℕ) → index_check limit v ≡ None → v < limit
  below limit v e = by_test (nat_lt v limit) refl e
    where
      by_test : (t : Bool) → nat_lt v limit ≡ t → (if t then None else Some StringIndex) ≡ None → v < limit
      by_test true f g = ltb-true v limit f
      by_test false f g = cc

  index_is : (limit at v p : ℕ) → Reads (index limit) x end at v p → IntAt x at p v × (v < limit)
  index_is limit at v p r =
      let P : ℕ → Type 0 = λ q. IntAt x at q v in
      let n : index_check limit v ≡ None = ap (index_check limit) r.5.0 ∙ r.4 in
      (subst P (sym r.5.1) (subst (λ w. IntAt x at r.0 w) (sym r.5.0) r.2), below limit v n)

  -- So many attributes.
  pairs_are : (n limit at : ℕ) (ps : List (ℕ × ℕ)) (p : ℕ) → Reads (times n (pair limit)) x end at ps p → ArePairs x limit at p ps × (length ps ≡ n)
  pairs_are zero limit at ps p r = subst (λ (z : List (ℕ × ℕ)). ArePairs x limit at p z × (length z ≡ 0)) (sym r.0) (r.1, refl)
  pairs_are (suc n) limit at ps p r =
      let a = reads_parted (pair limit) (λ a. times n (pair limit) >>= λ rest. Done (a ∷ rest)) x end at ps p r in
      let k = reads_parted (index limit) (λ key. index limit >>= λ value. Done (key, value)) x end at a.value a.place a.first in
      let v = reads_parted (index limit) (λ value. Done (k.value, value)) x end k.place a.value a.place k.second in
      let b = reads_parted (times n (pair limit)) (λ rest. Done (a.value ∷ rest)) x end a.place ps p a.second in
      let ik = index_is limit at k.value k.place k.first in
      let iv = index_is limit k.place v.value v.place v.first in
      let rest = pairs_are n limit a.place b.value b.place b.first in
      let e : ps ≡ (k.value, v.value) ∷ b.value = b.second.0 ∙ ap (λ z. z ∷ b.value) v.second.0 in
      let R : ArePairs x limit v.place p b.value = subst (λ z. ArePairs x limit z p b.value) v.second.1 (subst (λ z. ArePairs x limit a.place z b.value) (sym b.second.1) rest.0) in
      subst (λ (z : List (ℕ × ℕ)). ArePairs x limit at p z × (length z ≡ suc n)) (sym e) ((k.place, v.place, ik.0, ik.1, iv.0, iv.1, R), ap (λ m. suc m) rest.1)

  -- So many elements.
  trees_are : (n levels limit : ℕ) → ((at : ℕ) (t : Tree) (p : ℕ) → Reads (element_format levels limit) x end at t p → IsElement x limit levels at p t) → (at : ℕ) (ts : List Tree) (p : ℕ)
      → Reads (times n (element_format levels limit)) x end at ts p → AreElements x limit levels at p (trees_of ts) × (how_many (trees_of ts) ≡ n)
  trees_are zero levels limit one at ts p r = subst (λ (z : List Tree). AreElements x limit levels at p (trees_of z) × (how_many (trees_of z) ≡ 0)) (sym r.0) (r.1, refl)
  trees_are (suc n) levels limit one at ts p r =
      let f : Format Tree = element_format levels limit in
      let a = reads_parted f (λ a. times n f >>= λ rest. Done (a ∷ rest)) x end at ts p r in
      let b = reads_parted (times n f) (λ rest. Done (a.value ∷ rest)) x end a.place ts p a.second in
      let rest = trees_are n levels limit one a.place b.value b.place b.first in
      let R : AreElements x limit levels a.place p (trees_of b.value) = subst (λ z. AreElements x limit levels a.place z (trees_of b.value)) (sym b.second.1) rest.0 in
      subst (λ (z : List Tree). AreElements x limit levels at p (trees_of z) × (how_many (trees_of z) ≡ suc n)) (sym b.second.0) ((a.place, one at a.value a.place a.first, R), ap (λ m. suc m) rest.1)

  element_is : (levels limit at : ℕ) (t : Tree) (p : ℕ) → Reads (element_format levels limit) x end at t p → IsElement x limit levels at p t
  unfolding element_format
  element_is zero limit at t p r = absurd r
  element_is (suc levels) limit at t p r =
      let a = reads_parted (index limit) (after_name levels limit at) x end at t p r in
      let b = reads_parted integer (after_count levels limit at a.value) x end a.place t p a.second in
      let c = reads_parted (times b.value (pair limit)) (after_pairs levels limit at a.value) x end b.place t p b.second in
      let d = reads_parted integer (after_number levels limit at a.value c.value) x end c.place t p c.second in
      let e = reads_parted (times d.value (element_format levels limit)) (λ children. Done (tree at a.value c.value children)) x end d.place t p d.second in
      let ia = index_is limit at a.value a.place a.first in
      let ps = pairs_are b.value limit b.place c.value c.place c.first in
      let ts = trees_are d.value levels limit (element_is levels limit) d.place e.value e.place e.first in
      let ib : IntAt x a.place b.place (length c.value) = subst (λ z. IntAt x a.place b.place z) (sym ps.1) (integer_is a.place b.value b.place b.first) in
      let id : IntAt x c.place d.place (how_many (trees_of e.value)) = subst (λ z. IntAt x c.place d.place z) (sym ts.1) (integer_is c.place d.value d.place d.first) in
      let l : levels ≡ suc levels - 1 = omega arith in
      let es : AreElements x limit (suc levels - 1) d.place p (trees_of e.value) =
      subst (λ z. AreElements x limit z d.place p (trees_of e.value)) l (subst (λ z. AreElements x limit levels d.place z (trees_of e.value)) (sym e.second.1) ts.0) in
      let positive : 0 < suc levels = omega arith in
      subst (λ z. IsElement x limit (suc levels) at p z) (sym e.second.0) (refl, positive, a.place, b.place, c.place, d.place, ia.0, ia.1, ib, ps.0, id, es)

  times_length : {A : Type 0} (n : ℕ) (f : Format A) (at : ℕ) (vs : List A) (p : ℕ) → Reads (times n f) x end at vs p → length vs ≡ n
  times_length zero f at vs p r = ap length r.0
  times_length (suc n) f at vs p r =
      let a = reads_parted f (λ a. times n f >>= λ rest. Done (a ∷ rest)) x end at vs p r in
      let b = reads_parted (times n f) (λ rest. Done (a.value ∷ rest)) x end a.place vs p a.second in
      ap length b.second.0 ∙ ap (λ m. suc m) (times_length n f a.place b.value b.place b.first)

  -- The four integers of a head.
  head_is : (at : ℕ) (h : Four) (q : ℕ) → Reads head_format x end at h q → (a b c : ℕ) × IntAt x at a h.0 × IntAt x a b h.1 × IntAt x b c h.2 × IntAt x c q h.3
  head_is at h q r =
      let d = r.5.5.5 in
      let e = sym d.5.0 in (
        r.0,
        r.5.0,
        r.5.5.0,
        subst (λ (z : Four). IntAt x at r.0 z.0) e r.2,
        subst (λ (z : Four). IntAt x r.0 r.5.0 z.1) e r.5.2,
        subst (λ (z : Four). IntAt x r.5.0 r.5.5.0 z.2) e r.5.5.2,
        subst (λ (z : Four). IntAt x r.5.5.0 q z.3) e (subst (λ p. IntAt x r.5.5.0 p d.1) (sym d.5.1) d.2),
      )

  -- The parts of a body, which ends at the end.
  parts_are : (r : Framed) (b : Body) → record_end r ≡ end → Reads meta_format x end r.body b end → SpellsBody x r b
  unfolding meta_format body_format
  parts_are record_of b ends r =
      let s = reads_parted body_format (λ b. Stop (Done b)) x end record_of.body b end r in
      let h = reads_parted head_format after_head x end record_of.body s.value s.place s.first in
      let c = reads_parted (times h.value.3 table_string) (after_strings h.value) x end h.place s.value s.place h.second in
      let e = reads_parted (element_format 16 h.value.3) (λ root. Done (body_of h.value c.value root)) x end c.place s.value s.place c.second in
      let same : body_of h.value c.value e.value ≡ b = sym (s.second.1.0 ∙ e.second.0) in
      let there : e.place ≡ end = sym (s.second.1.1 ∙ e.second.1) in
      let count : h.value.3 ≡ length c.value = sym (times_length h.value.3 table_string h.place c.value c.place c.first) in
      let i = head_is record_of.body h.value h.place h.first in
      let holds : IsElement x h.value.3 16 c.place e.place e.value = element_is 16 h.value.3 c.place e.value e.place e.first in
      subst (SpellsBody x record_of) same (record {
        after_head = h.place;
        after_strings = c.place;
        head = record { after_start = i.0; after_duration = i.1; after_id = i.2; start = i.3; duration = i.4; id = i.5; count = subst (IntAt x i.2 h.place) count i.6 };
        strings = subst (λ z. Reads (times z table_string) x (record_end record_of) h.place c.value c.place) count
            (subst (λ z. Reads (times h.value.3 table_string) x z h.place c.value c.place) (sym ends) c.first);
        root = subst (λ z. IsElement x z 16 c.place (record_end record_of) e.value) count (subst (λ z. IsElement x h.value.3 16 c.place z e.value) (there ∙ sym ends) holds);
      })

pub root_stands : (x : List ℕ) (r : Framed) (b : Body) (k : Classes) → IsMetadata x r b k → SpellsBody x r b
root_stands x r b k m = parts_are x (record_end r) r b refl m.body
