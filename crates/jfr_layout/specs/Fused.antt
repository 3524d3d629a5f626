-- Fused fields: fields of a class that a walk passes at once.
use Rattle.std.specs.Prelude.{◌≡◌, ℕ, ◌+◌, ◌<◌, ◌≤◌, List, [], ◌∷◌, length, slice_range, ⊤}
use Rattle.std.specs.List.{AllByRecursion, flat_map}
use Rattle.jfr_layout.specs.declared.form.Form.{Form}
use Rattle.jfr_layout.specs.declared.form.Form.TheVariants as forms
use Rattle.jfr_layout.specs.declared.fused.FusedFields.{FusedFields}
use Rattle.jfr_layout.specs.declared.fused.FusedKind.{FusedKind}
use Rattle.jfr_layout.specs.declared.fused.FusedKind.TheVariants as fused_kinds
use Rattle.jfr_layout.specs.declared.field_layout.FieldLayout.{FieldLayout}

-- The layouts of the fused fields.
abbrev pub passed_by : List FieldLayout → FusedFields → List FieldLayout
passed_by layouts l = slice_range layouts l.first (l.first + l.fields)

-- The layout has this form and this class.
abbrev pub IsOf : Form → ℕ → FieldLayout → Type 0
IsOf form class s = (s.form ≡ form) × (s.shape.class ≡ class)

-- Two integers and two references, of these classes.
pub record IsEventPrelude (thread trace : ℕ) (layouts : List FieldLayout) : Type 0 where
  pub start : FieldLayout
  pub duration : FieldLayout
  pub threads : FieldLayout
  pub traces : FieldLayout
  pub all : layouts ≡ start ∷ duration ∷ threads ∷ traces ∷ []
  pub start_is : start.form ≡ forms.Integer
  pub duration_is : duration.form ≡ forms.Integer
  pub thread_is : IsOf forms.Key thread threads
  pub trace_is : IsOf forms.Key trace traces

-- Raw bytes, `count` in all.
abbrev pub AreRaw : ℕ → List FieldLayout → Type 0
AreRaw count [] = count ≡ 0
AreRaw count (s ∷ ss) = (bytes rest : ℕ) × (s.form ≡ forms.Raw bytes) × (count ≡ bytes + rest) × AreRaw rest ss

-- Integers, `count` of them.
abbrev pub AreIntegers : ℕ → List FieldLayout → Type 0
AreIntegers count layouts = (length layouts ≡ count) × AllByRecursion (λ s. s.form ≡ forms.Integer) layouts

-- The layouts have the forms that the kind says.
abbrev pub Passes : FusedKind → List FieldLayout → Type 0
Passes (fused_kinds.EventPrelude thread trace) layouts = IsEventPrelude thread trace layouts
Passes fused_kinds.OneInteger layouts = AreIntegers 1 layouts
Passes fused_kinds.TwoIntegers layouts = AreIntegers 2 layouts
Passes fused_kinds.ThreeIntegers layouts = AreIntegers 3 layouts
Passes fused_kinds.FourIntegers layouts = AreIntegers 4 layouts
Passes (fused_kinds.Raw count) layouts = AreRaw count layouts
Passes (fused_kinds.Key class) layouts = (s : FieldLayout) × (layouts ≡ s ∷ []) × IsOf forms.Key class s
Passes (fused_kinds.Text class) layouts = (s : FieldLayout) × (layouts ≡ s ∷ []) × IsOf forms.Text class s
Passes fused_kinds.Any layouts = ⊤

-- The fused fields are fields of the class, and have the forms that their kind says.
pub record IsFused (layouts : List FieldLayout) (l : FusedFields) : Type 0 where
  pub within : l.first + l.fields ≤ length layouts
  pub passes : Passes l.kind (passed_by layouts l)

-- Fused fields, at least one, that start with the field with this number.
pub record BeginsAt (layouts : List FieldLayout) (first : ℕ) (l : FusedFields) : Type 0 where
  pub first_is : l.first ≡ first
  pub some : 0 < l.fields
  pub fused : IsFused layouts l

-- Groups of fused fields that together have each field of the class once, in order.
pub record AreFused (layouts : List FieldLayout) (fused_fields : List FusedFields) : Type 0 where
  pub each : AllByRecursion (IsFused layouts) fused_fields
  pub all : flat_map (passed_by layouts) fused_fields ≡ layouts
