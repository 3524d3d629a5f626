-- Fields of numbers, which leave a visitor as it is.
use Rattle.std.specs.Prelude.{◌≡◌, ℕ, ◌+◌, ◌≤◌, List, [], ◌∷◌, length, slice_range, Some, Option, Result, Ok, Err}
use Rattle.std.specs.List.{AllByRecursion}
use Rattle.std.proofs.Common.{ap, arith, inl, inr, refl, subst, sym, ◌∙◌}
use Rattle.jfr_base.specs.declared.flaw.Flaw.{Flaw}
use Rattle.jfr_base.specs.Formats.{Answer, Format, end_or_flaw, run}
use Rattle.jfr_base.proofs.Exact.{ReadsOrFails, run_reads_or_fails}
use Rattle.jfr_base.proofs.ReadLaws.{reads_order}
use Rattle.jfr_base.proofs.FormatEnds.{then_at, end_or_flaw-for_each}
use Rattle.jfr_layout.specs.Classes.{Classes, IsFieldLayout}
use Rattle.jfr_layout.specs.declared.field_layout.FieldLayout.{FieldLayout}
use Rattle.jfr_layout.specs.declared.form.Form.TheVariants as forms
use Rattle.jfr_layout.specs.declared.shape.Shape.{Shape}
use Rattle.jfr_value.specs.declared.leaf.Holder.{Holder}
use Rattle.jfr_value.specs.declared.leaf.LeafKind.TheVariants as leaf_kinds
use Rattle.jfr_value.specs.Leaves.{LeafAt}
use Rattle.jfr_value.specs.Reading.{base_format, class_format, shape_format, values_format}
use Rattle.jfr_value.specs.Nodes.{AreValues}
use Rattle.jfr_value.specs.Values.{Value, Values}
use Rattle.jfr_value.specs.Visits.{AreNumbers, AreToVisit, IsNumber, IsNumbers, Visits, shapes_of_layouts}
use Rattle.jfr_value.specs.Walks.{fields_from}
use Rattle.jfr_value.proofs.FormLaws.{inline_there, plain_there}
use Rattle.jfr_value.proofs.LayoutLaws.{layout_class}
use Rattle.jfr_value.proofs.LayoutEnds.{base_ends}
use Rattle.jfr_value.proofs.LeafVisitLaws.{first_to_visit, leaf_admitted, left_to_visit, visits_leaf, visits_first, visits_none, visits_then}
use Rattle.jfr_value.proofs.WalkLaws.{Taken, base_found}

-- A value ends at its start or after it.
end_order : {A : Type 0} (f : Format A) (c : List ℕ) (end at to : ℕ) → at ≤ end → end ≤ length c → end_or_flaw (run f c end at) ≡ Ok to → at ≤ to
end_order {A = A} f c end at to o w e = by_answer (run f c end at) (run_reads_or_fails f c end at o w) e
  where
    by_answer : (r : Answer A) → ReadsOrFails f c end at r → end_or_flaw r ≡ Ok to → at ≤ to
    by_answer (Ok g) h e = let q : g.place ≡ to = cc in subst (λ z. at ≤ z) q (reads_order f c end at g.value g.place h)
    by_answer (Err v) h e = cc

module _ {A : Type 0} (takes : LeafAt → A → A → Type 0) (admits : LeafAt → Type 0) (ready : A → ℕ → Type 0) (k : Classes) (levels : ℕ) (c : List ℕ) (end : ℕ)
    (same : (leaf : LeafAt) (visitor : A) → IsNumber leaf → admits leaf → ready visitor leaf.at → takes leaf visitor visitor)
    (later : (visitor : A) (at to : ℕ) → ready visitor at → at ≤ to → ready visitor to) where
  abbrev one : FieldLayout → Format Value
  one s = shape_format (class_format (levels + 1) k) s.shape

  ends : (s : FieldLayout) (at : ℕ) → IsFieldLayout k s → IsNumbers s → end_or_flaw (run (base_format s.kind) c end at) ≡ end_or_flaw (run (one s) c end at)
  ends s at i (inl e) = base_ends k s levels c end at (record { form = i.form; of_class = λ o. i }) forms.Integer (inline_there s i.form forms.Integer e tt) (λ q. cc)
  ends s at i (inr e) = base_ends k s levels c end at (record { form = i.form; of_class = λ o. i }) (forms.Raw e.0) (inline_there s i.form (forms.Raw e.0) e.1 tt) (λ q. cc)

  -- A field that is a number ends where it is read.
  module _ (s : FieldLayout) (g : Option Holder) (at to before : ℕ) (visitor : A) (i : IsFieldLayout k s) (n : IsNumbers s) (e : end_or_flaw (run (one s) c end at) ≡ Ok to) where
    number_taken : (us : List Shape) (is : List (Option Holder)) (vs : Values) → AreValues k c at end (s.shape ∷ us) vs → Taken k c at end to (leaf_kinds.Base s.kind) s.shape.class us vs g is is
    number_taken us is vs r =
        let p = plain_there s i.form n in
        let d = layout_class k s i in
        let t = base_found k c at end s.shape us g is vs d.class s.kind r p.array p.constant d.found d.kind p.not_composite in
        let q : t.0 ≡ to = (let x : Ok t.0 ≡ Ok to = sym t.1 ∙ (ends s at i n ∙ e) in cc) in
        subst (λ z. Taken k c at end z (leaf_kinds.Base s.kind) s.shape.class us vs g is is) q t.2

    number_visited : AreToVisit admits k c end (g ∷ []) (s.shape ∷ []) at → ready visitor at → Visits takes k c end (g ∷ []) (s.shape ∷ []) at visitor before [] [] to visitor (before + 1)
    number_visited a r =
        let p = plain_there s i.form n in
        visits_leaf takes k c end g [] s.shape [] at to before (before + 1) s.shape.class (leaf_kinds.Base s.kind) visitor visitor
        (λ is us vs r. number_taken us is vs r)
        (same (record { kind = leaf_kinds.Base s.kind; class = s.shape.class; holder = g; at = at; spelled = slice_range c at to }) visitor (s.kind, refl, p.not_text)
        (leaf_admitted admits k c end g s.shape at to s.shape.class (leaf_kinds.Base s.kind) a.other_holders a.other_shapes a (number_taken a.other_shapes a.other_holders a.values a.row)) r) refl

    number_order : AreToVisit admits k c end (g ∷ []) (s.shape ∷ []) at → at ≤ to
    number_order a = end_order (one s) c end at to a.row.order a.row.within e

  pub numbers_visited : (ss : List FieldLayout) (class number at to before : ℕ) (visitor : A) → AllByRecursion (IsFieldLayout k) ss → AreNumbers ss
      → Ok to ≡ end_or_flaw (run (values_format (levels + 1) k ss) c end at)
      → AreToVisit admits k c end (fields_from class number (shapes_of_layouts ss)) (shapes_of_layouts ss) at → ready visitor at
      → Visits takes k c end (fields_from class number (shapes_of_layouts ss)) (shapes_of_layouts ss) at visitor before [] [] to visitor (before + length ss)
  unfolding run
  numbers_visited [] class number at to before visitor i n e a r =
      let q : at ≡ to = (let x : Ok to ≡ Ok at = e in cc) in
      let z : before ≡ before + 0 = omega arith in
      subst (λ x. Visits takes k c end [] [] at visitor before [] [] x visitor (before + 0)) q
      (subst (λ x. Visits takes k c end [] [] at visitor before [] [] at visitor x) z (visits_none takes k c end [] [] at before visitor))
  numbers_visited (s ∷ ss) class number at to before visitor i n e a r =
      by_end (λ mid x b y. numbers_visited ss class (number + 1) mid to (before + 1) visitor i.1 n.1 x b y) (end_or_flaw (run (one s) c end at)) refl
    where
      holder : Option Holder
      holder = Some (record { class = class; field = number })

      shapes : List Shape
      shapes = shapes_of_layouts ss

      holders : List (Option Holder)
      holders = fields_from class (number + 1) shapes

      both : Ok to ≡ then_at (end_or_flaw (run (one s) c end at)) (λ p. end_or_flaw (run (values_format (levels + 1) k ss) c end p))
      both = e ∙ end_or_flaw-for_each s ss one c end at

      first : AreToVisit admits k c end (holder ∷ []) (s.shape ∷ []) at
      first = first_to_visit admits k c end holder holders s.shape shapes at a

      by_end : ((mid : ℕ) → Ok to ≡ end_or_flaw (run (values_format (levels + 1) k ss) c end mid) → AreToVisit admits k c end holders shapes mid → ready visitor mid → Visits takes k c end holders shapes mid visitor (before + 1) [] [] to visitor (before + 1 + length ss))
          → (r : Result ℕ Flaw) → end_or_flaw (run (one s) c end at) ≡ r → Visits takes k c end (holder ∷ holders) (s.shape ∷ shapes) at visitor before [] [] to visitor (before + length (s ∷ ss))
      by_end rest (Err w) f = let x : Ok to ≡ Err w = both ∙ ap (λ r. then_at r (λ p. end_or_flaw (run (values_format (levels + 1) k ss) c end p))) f in cc
      by_end rest (Ok mid) f =
          let x : Ok to ≡ end_or_flaw (run (values_format (levels + 1) k ss) c end mid) = both ∙ ap (λ r. then_at r (λ p. end_or_flaw (run (values_format (levels + 1) k ss) c end p))) f in
          let m : before + 1 + length ss ≡ before + length (s ∷ ss) = omega arith in
          let v : Visits takes k c end (holder ∷ holders) (s.shape ∷ shapes) at visitor before holders shapes mid visitor (before + 1) =
          visits_first takes k c end holder holders s.shape shapes at mid before (before + 1) visitor visitor (number_visited s holder at mid before visitor i.0 n.0 f first r) in
          subst (λ z. Visits takes k c end (holder ∷ holders) (s.shape ∷ shapes) at visitor before [] [] to visitor z) m
          (visits_then takes k c end (holder ∷ holders) holders [] (s.shape ∷ shapes) shapes [] at mid to before (before + 1) (before + 1 + length ss) visitor visitor visitor v
          (rest mid x (left_to_visit takes k c end admits (holder ∷ holders) holders (s.shape ∷ shapes) shapes at mid before (before + 1) visitor visitor v a)
          (later visitor at mid r (number_order s holder at mid before visitor i.0 n.0 f first))))
