-- A layout, and the class of its shape.
use Rattle.std.specs.Prelude.{◌≡◌, ℕ, zero, suc, ◌<◌, ◌≤◌, false, List, [], ◌∷◌, length, map, Some, IfSome, IsSome, option_and_then, option_map, slice_get}
use Rattle.std.specs.List.{AllByRecursion}
use Rattle.std.proofs.Common.{ap, arith, get_or, refl, subst, sym, ◌∙◌}
use Rattle.std.proofs.lemmas.List.{length-map}
use Rattle.std.proofs.lemmas.Option.{slice_get-get_or}
use Rattle.jfr_layout.specs.Classes.{Class, Classes, Field, AreFieldLayouts, IsFieldLayout, class_index, field_at, find_class, kind_of, layout_with}
use Rattle.jfr_layout.specs.declared.form.Form.TheVariants as forms
use Rattle.jfr_layout.specs.declared.kind.Kind.{Kind}
use Rattle.jfr_layout.specs.declared.kind.Kind.TheVariants as kinds
use Rattle.jfr_layout.specs.declared.shape.Shape.{Shape}
use Rattle.jfr_layout.specs.declared.field_layout.FieldLayout.{FieldLayout}
use Rattle.jfr_value.specs.Values.{IsLayoutOrKey}
use Rattle.jfr_value.specs.Visits.{shapes_of_layouts}
use Rattle.jfr_value.proofs.PlaceLaws.{get_within, kind_there, placed_class, placed_some, placed_within}

-- The class of a layout's shape.
pub record LayoutClass (k : Classes) (s : FieldLayout) : Type 0 where
  pub class : Class
  pub found : find_class k s.shape.class ≡ Some class
  pub there : slice_get k s.class_index ≡ Some class
  pub kind : s.kind ≡ kind_of class.name

pub layout_class : (k : Classes) (s : FieldLayout) → IsFieldLayout k s → LayoutClass k s
layout_class k s i =
    let c = placed_some k s.shape.class s.class_index i.class_index in
    let f : find_class k s.shape.class ≡ Some c.0 = placed_class k s.shape.class s.class_index i.class_index ∙ c.1 in
    record {
      class = c.0;
      found = f;
      there = c.1;
      kind = (let e : Some (kind_of c.0.name) ≡ Some s.kind = sym (ap (option_map (λ (d : Class). kind_of d.name)) f) ∙ i.kind in cc);
    }

pub layout_known : (k : Classes) (s : FieldLayout) → IsFieldLayout k s → IsSome (find_class k s.shape.class)
layout_known k s i = subst IsSome (sym (layout_class k s i).found) refl

pub layout_within : (k : Classes) (s : FieldLayout) → IsFieldLayout k s → s.class_index < length k
layout_within k s i = placed_within k s.shape.class s.class_index i.class_index

-- The layout of a shape whose class has an index.
pub layout_made : (k : Classes) (s : Shape) (place : ℕ) (kind : Kind) → class_index k s.class ≡ Some place → IfSome (slice_get k place) (λ c. kind ≡ kind_of c.name)
    → IsFieldLayout k (layout_with s place kind)
layout_made k s place kind p h =
    let c = placed_some k s.class place p in
    record {
      class_index = p;
      kind = ap (option_map (λ (d : Class). kind_of d.name)) (placed_class k s.class place p ∙ c.1) ∙ ap (λ z. Some z) (sym (kind_there k place c.0 kind h c.1));
      form = refl;
    }

-- A layout that is read from a list of them.
abbrev pub no_layout : FieldLayout
no_layout = record { shape = record { class = 0; constant = false; array = false }; class_index = 0; kind = kinds.Boolean; form = forms.Array }

pub layout_there : (ss : List FieldLayout) (i : ℕ) → i < length ss → slice_get ss i ≡ Some (get_or ss i no_layout)
layout_there ss i l = slice_get-get_or ss i no_layout l

pub layouts_at : (k : Classes) (ss : List FieldLayout) (i : ℕ) → AllByRecursion (IsFieldLayout k) ss → i < length ss → IsFieldLayout k (get_or ss i no_layout)
layouts_at k [] i a l = absurd (omega arith)
layouts_at k (s ∷ ss) zero a l = a.0
layouts_at k (s ∷ ss) (suc i) a l = layouts_at k ss i a.1 (omega arith)

pub placed_at : (k : Classes) (ss : List FieldLayout) (i : ℕ) → AllByRecursion (IsFieldLayout k) ss → i < length ss → IsLayoutOrKey k (get_or ss i no_layout)
placed_at k ss i a l = let s : IsFieldLayout k (get_or ss i no_layout) = layouts_at k ss i a l in record { form = s.form; of_class = λ o. s }

-- The layouts of the class at a place.
pub record LayoutsOf (k : Classes) (place : ℕ) (ss : List FieldLayout) : Type 0 where
  pub class : Class
  pub there : slice_get k place ≡ Some class
  pub layouts : AreFieldLayouts k class.fields ss
  pub count : length ss ≡ length class.fields

pub layouts_of : (k : Classes) (place : ℕ) (ss : List FieldLayout) → place < length k → IfSome (slice_get k place) (λ c. AreFieldLayouts k c.fields ss) → LayoutsOf k place ss
layouts_of k place ss l a =
    let c = get_within k place l in
    let h : AreFieldLayouts k c.0.fields ss = subst (λ o. IfSome o (λ c. AreFieldLayouts k c.fields ss)) c.1 a in
    record { class = c.0; there = c.1; layouts = h; count = omega (arith, ap length h.shapes, length-map ss (λ (s : FieldLayout). s.shape), length-map c.0.fields (λ (f : Field). f.shape)) }

-- The field of a layout.
pub record FieldOf (k : Classes) (place number : ℕ) (s : FieldLayout) : Type 0 where
  pub field : Field
  pub there : field_at k place number ≡ Some field
  pub shape : s.shape ≡ field.shape
  pub of_class : IsFieldLayout k s

same_shape : (fs : List Field) (ss : List FieldLayout) (i : ℕ) → map (λ s. s.shape) ss ≡ map (λ f. f.shape) fs → i < length ss
    → (f : Field) × (slice_get fs i ≡ Some f) × ((get_or ss i no_layout).shape ≡ f.shape)
same_shape fs [] i e l = absurd (omega arith)
same_shape [] (s ∷ ss) i e l = cc
same_shape (f ∷ fs) (s ∷ ss) zero e l = (f, refl, (let q : s.shape ∷ map (λ s. s.shape) ss ≡ f.shape ∷ map (λ f. f.shape) fs = e in cc))
same_shape (f ∷ fs) (s ∷ ss) (suc i) e l = same_shape fs ss i (let q : s.shape ∷ map (λ s. s.shape) ss ≡ f.shape ∷ map (λ f. f.shape) fs = e in cc) (omega arith)

pub field_of : (k : Classes) (place number : ℕ) (ss : List FieldLayout) → place < length k → IfSome (slice_get k place) (λ c. AreFieldLayouts k c.fields ss) → number < length ss
    → FieldOf k place number (get_or ss number no_layout)
field_of k place number ss l a n =
    let c = layouts_of k place ss l a in
    let f = same_shape c.class.fields ss number c.layouts.shapes n in
    record { field = f.0; there = ap (option_and_then (λ c. slice_get c.fields number)) c.there ∙ f.1; shape = f.2; of_class = layouts_at k ss number c.layouts.each n }

pub few_fields : (k : Classes) (place number : ℕ) (ss : List FieldLayout) → place < length k → IfSome (slice_get k place) (λ c. AreFieldLayouts k c.fields ss) → length ss ≤ number
    → IfSome (slice_get k place) (λ c. length c.fields ≤ number)
few_fields k place number ss l a n = let c = layouts_of k place ss l a in subst (λ o. IfSome o (λ c. length c.fields ≤ number)) (sym c.there) (omega (arith, c.count))

-- What is known of the layouts of fields, by their shapes.
pub by_shapes : (P : Shape → Type 0) (ss : List FieldLayout) → AllByRecursion P (shapes_of_layouts ss) → AllByRecursion (λ s. P s.shape) ss
by_shapes P [] a = tt
by_shapes P (s ∷ ss) a = (a.0, by_shapes P ss a.1)

pub of_shapes : (P : Shape → Type 0) (ss : List FieldLayout) → AllByRecursion (λ s. P s.shape) ss → AllByRecursion P (shapes_of_layouts ss)
of_shapes P [] a = tt
of_shapes P (s ∷ ss) a = (a.0, of_shapes P ss a.1)
