-- The layouts of fields, kept beside the list.
use Rattle.std.proofs.Common.{◌≡◌, ℕ, ◌<◌, List, [], ◌∷◌, ◌++◌, length, get_or, map, Some, refl, sym, ◌∙◌, ap, arith, subst}
use Rattle.std.specs.Prelude.{IsSome, option_map}
use Rattle.std.specs.List.{slice_get}
use Rattle.std.specs.Option.{IfSome}
use Rattle.std.proofs.lemmas.List.{length-map, map_push}
use Rattle.std.proofs.lemmas.Option.{get_or_from_slice_get, same_Some, slice_get-get_or, slice_get-map, slice_get_within}
use Rattle.jfr_layout.specs.declared.kind.Kind.{Kind}
use Rattle.jfr_layout.specs.declared.shape.Shape.{Shape}
use Rattle.jfr_layout.specs.declared.class_layout.ClassLayout.{ClassLayout}
use Rattle.jfr_layout.specs.declared.field_layout.FieldLayout.{FieldLayout}
use Rattle.jfr_layout.specs.Classes.{Class, Classes, Field, IsFieldLayout, AreFieldLayouts, class_index, field_at, kind_of, layout_with}
use Rattle.jfr_layout.specs.Resolved.{AreClassLayouts, IsClassLayout}
use Rattle.jfr_layout.proofs.Lists.{all_at, all_push, chained, mapped_at, present, value_in, zip_at}
use Rattle.jfr_layout.proofs.Indices.{index_within, holds}

-- The layout of a shape whose class has an index.
pub layout_at : (k : Classes) (kinds : List Kind) (s : Shape) (p : ℕ) (d : Kind) → kinds ≡ map (λ c. kind_of c.name) k → class_index k s.class ≡ Some p
    → IsFieldLayout k (layout_with s p (get_or kinds p d))
layout_at k kinds s p d ks e =
    let c = present k p (index_within k s.class p e) in
    let q : slice_get kinds p ≡ Some (kind_of c.0.name) = ap (λ z. slice_get z p) ks ∙ (slice_get-map (λ (z : Class). kind_of z.name) k p ∙ ap (option_map (λ (z : Class). kind_of z.name)) c.1) in
    record {
      class_index = e;
      kind = ap (option_map (λ (z : Class). kind_of z.name)) (holds k s.class p e ∙ c.1) ∙ ap Some (sym (get_or_from_slice_get kinds p (kind_of c.0.name) d q));
      form = refl;
    }

pub layouts_push : (k : Classes) (fs : List Field) (f : Field) (layouts : List FieldLayout) (s : FieldLayout) → AreFieldLayouts k fs layouts → s.shape ≡ f.shape → IsFieldLayout k s
    → AreFieldLayouts k (fs ++ f ∷ []) (layouts ++ s ∷ [])
layouts_push k fs f layouts s a e i = record {
  shapes = map_push (λ (z : FieldLayout). z.shape) layouts s
      ∙ (ap (λ ss. ss ++ s.shape ∷ []) a.shapes ∙ (ap (λ z. map (λ (g : Field). g.shape) fs ++ z ∷ []) e ∙ sym (map_push (λ (g : Field). g.shape) fs f)));
  each = all_push (IsFieldLayout k) layouts s a.each i;
}

-- The layout of the field with a number.
pub record HasLayout (k : Classes) (index number : ℕ) (s : FieldLayout) : Type 0 where
  pub field : Field
  pub there : field_at k index number ≡ Some field
  pub shape : s.shape ≡ field.shape
  pub of_class : IsFieldLayout k s

pub layout_within : (k : Classes) (index number : ℕ) (class_layout : List FieldLayout) → IsSome (field_at k index number) → IfSome (slice_get k index) (λ c. AreFieldLayouts k c.fields class_layout)
    → number < length class_layout
layout_within k index number class_layout s a =
    let f = value_in (field_at k index number) s in
    let c = chained (λ (c : Class). slice_get c.fields number) (slice_get k index) f.0 f.1 in
    let h : AreFieldLayouts k c.0.fields class_layout = rw c.1 at a in
    omega (arith, slice_get_within c.0.fields number f.0 c.2, ap length h.shapes, length-map class_layout (λ (z : FieldLayout). z.shape), length-map c.0.fields (λ (g : Field). g.shape))

pub has_layout : (k : Classes) (index number : ℕ) (class_layout : List FieldLayout) (d : FieldLayout) → IsSome (field_at k index number)
    → IfSome (slice_get k index) (λ c. AreFieldLayouts k c.fields class_layout) → HasLayout k index number (get_or class_layout number d)
has_layout k index number class_layout d i a =
    let f = value_in (field_at k index number) i in
    let c = chained (λ (c : Class). slice_get c.fields number) (slice_get k index) f.0 f.1 in
    let h : AreFieldLayouts k c.0.fields class_layout = rw c.1 at a in
    let g : slice_get class_layout number ≡ Some (get_or class_layout number d) = slice_get-get_or class_layout number d (layout_within k index number class_layout i a) in
    record {
      field = f.0;
      there = f.1;
      shape = mapped_at (λ (z : FieldLayout). z.shape) (λ (e : Field). e.shape) class_layout c.0.fields number (get_or class_layout number d) f.0 h.shapes c.2
          (sym (get_or_from_slice_get class_layout number (get_or class_layout number d) (get_or class_layout number d) g));
      of_class = all_at (IsFieldLayout k) class_layout number (get_or class_layout number d) h.each g;
    }

-- The layout of the class at an index.
pub class_layouts_within : (k : Classes) (class_layouts : List ClassLayout) (i : ℕ) → AreClassLayouts k k class_layouts → i < length k → i < length class_layouts
class_layouts_within k class_layouts i a l =
    let c = present k i l in
    let y = zip_at (IsClassLayout k) k class_layouts i c.0 a c.1 in
    slice_get_within class_layouts i y.0 y.1

pub class_layout_at : (k : Classes) (class_layouts : List ClassLayout) (i : ℕ) (class_layout : ClassLayout) → AreClassLayouts k k class_layouts → i < length k
    → class_layout ≡ get_or class_layouts i class_layout → IfSome (slice_get k i) (λ c. IsClassLayout k c class_layout)
class_layout_at k class_layouts i class_layout a l r =
    let c = present k i l in
    let y = zip_at (IsClassLayout k) k class_layouts i c.0 a c.1 in
    let e : slice_get class_layouts i ≡ Some class_layout = slice_get-get_or class_layouts i class_layout (class_layouts_within k class_layouts i a l) ∙ ap Some (sym r) in
    rw c.1 (subst (IsClassLayout k c.0) (same_Some y.0 class_layout (sym y.1 ∙ e)) y.2)

-- The index of a field's class is within the list.
pub field_within : (k : Classes) (index number : ℕ) → IsSome (field_at k index number) → index < length k
field_within k index number s =
    let f = value_in (field_at k index number) s in
    slice_get_within k index (chained (λ (c : Class). slice_get c.fields number) (slice_get k index) f.0 f.1).0 (chained (λ (c : Class). slice_get c.fields number) (slice_get k index) f.0 f.1).1
