-- Inline steps by indices.
use Rattle.std.proofs.Common.{◌≡◌, ℕ, ◌<◌, length, List, Option, Some, None, Bool, true, false, ◌&&◌, sym, ◌∙◌, ap, refl}
use Rattle.std.specs.Prelude.{if◌then◌else◌, codes}
use Rattle.std.specs.List.{slice_get}
use Rattle.std.specs.Option.{option_and_then, option_map, option_map_or, IfSome}
use Rattle.std.specs.Str.{bytes_eq}
use Rattle.std.proofs.lemmas.Option.{same_Some}
use Rattle.jfr_layout.specs.declared.kind.Kind.{Kind}
use Rattle.jfr_layout.specs.declared.kind.Kind.TheVariants.{Composite, Boolean, Byte, Char, Short, Int, Long, Float, Double, Text}
use Rattle.jfr_layout.specs.declared.shape.Shape.{Shape}
use Rattle.jfr_layout.specs.declared.field_layout.FieldLayout.{FieldLayout}
use Rattle.jfr_layout.specs.Classes.{Class, Classes, Field, IsFieldLayout, field_at, find_class, step_class, kind_of, is_composite, extends_event}
use Rattle.jfr_layout.proofs.FieldLayouts.{HasLayout}
use Rattle.jfr_layout.proofs.Indices.{index_within, holds}

pub field_of : (k : Classes) (i j : ℕ) (c : Class) (f : Field) → slice_get k i ≡ Some c → slice_get c.fields j ≡ Some f → field_at k i j ≡ Some f
field_of k i j c f e s = ap (option_and_then (λ (d : Class). slice_get d.fields j)) e ∙ s

-- The class of a step, if its kind is known.
by_kind : (o : Option Class) (kind : Kind) → option_map (λ (d : Class). kind_of d.name) o ≡ Some kind
    → option_and_then (λ (d : Class). if is_composite (kind_of d.name) then Some d else None) o ≡ (if is_composite kind then o else None)
by_kind None kind e = cc
by_kind (Some c) kind e = ap (λ z. if is_composite z then Some c else None) (same_Some (kind_of c.name) kind e)

-- An inline step goes to the index of a layout, if its kind is composite.
layout_step : (k : Classes) (f : Field) (s : FieldLayout) → s.shape ≡ f.shape → IsFieldLayout k s
    → step_class k f ≡ (if s.shape.constant then None else if is_composite s.kind then slice_get k s.class_index else None)
layout_step k f s e i =
    ap (λ (z : Shape). if z.constant then None else option_and_then (λ (d : Class). if is_composite (kind_of d.name) then Some d else None) (find_class k z.class)) (sym e)
    ∙ ap (λ o. if s.shape.constant then None else o)
    (ap (option_and_then (λ (d : Class). if is_composite (kind_of d.name) then Some d else None)) (holds k s.shape.class s.class_index i.class_index)
    ∙ by_kind (slice_get k s.class_index) s.kind (ap (option_map (λ (d : Class). kind_of d.name)) (sym (holds k s.shape.class s.class_index i.class_index)) ∙ i.kind))

not_composite : (kind : Kind) → (kind ≡ Composite → ⊥) → is_composite kind ≡ false
not_composite Composite n = absurd (n refl)
not_composite Boolean n = refl
not_composite Byte n = refl
not_composite Char n = refl
not_composite Short n = refl
not_composite Int n = refl
not_composite Long n = refl
not_composite Float n = refl
not_composite Double n = refl
not_composite Text n = refl

-- The three cases of a layout of a field.
pub step_key : (k : Classes) (index number : ℕ) (s : FieldLayout) → HasLayout k index number s → s.shape.constant ≡ true → IfSome (field_at k index number) (λ f. None ≡ step_class k f)
step_key k index number s f t = rw f.there (sym (layout_step k f.field s f.shape f.of_class ∙ ap (λ b. if b then None else if is_composite s.kind then slice_get k s.class_index else None) t))

pub step_to : (k : Classes) (index number : ℕ) (s : FieldLayout) → HasLayout k index number s → s.shape.constant ≡ false → s.kind ≡ Composite
    → IfSome (field_at k index number) (λ f. slice_get k s.class_index ≡ step_class k f) × (s.class_index < length k)
step_to k index number s f t q = (
  rw f.there (sym (layout_step k f.field s f.shape f.of_class
      ∙ (ap (λ b. if b then None else if is_composite s.kind then slice_get k s.class_index else None) t ∙ ap (λ z. if is_composite z then slice_get k s.class_index else None) q))),
  index_within k s.shape.class s.class_index f.of_class.class_index,
)

pub step_nowhere : (k : Classes) (index number : ℕ) (s : FieldLayout) → HasLayout k index number s → s.shape.constant ≡ false → (s.kind ≡ Composite → ⊥)
    → IfSome (field_at k index number) (λ f. None ≡ step_class k f)
step_nowhere k index number s f t n =
    rw f.there (sym (layout_step k f.field s f.shape f.of_class
    ∙ (ap (λ b. if b then None else if is_composite s.kind then slice_get k s.class_index else None) t ∙ ap (λ b. if b then slice_get k s.class_index else None) (not_composite s.kind n))))

-- A composite class with a super type is an event's if that is the super type of events.
pub extends_is : (c : Class) (kind : Kind) (name : List ℕ) (t : Bool) → kind ≡ kind_of c.name → kind ≡ Composite → c.super_name ≡ Some name → t ≡ bytes_eq name (codes "jdk.jfr.Event")
    → t ≡ extends_event c
extends_is c kind name t h q s u = u ∙ (ap (λ o. option_map_or (λ n. bytes_eq n (codes "jdk.jfr.Event")) o false) (sym s)
    ∙ ap (λ z. is_composite z && option_map_or (λ n. bytes_eq n (codes "jdk.jfr.Event")) c.super_name false) (sym q ∙ h))
