-- Classes whose values have no masked string.
use Rattle.std.specs.Prelude.{◌≡◌, ⊤, ℕ, zero, suc, ◌&&◌, Bool, true, false, List, get_or, slice_get, Option, Some}
use Rattle.jfr_layout.specs.Classes.{Class, Classes, Field, class_index, find_class, kind_of}
use Rattle.jfr_layout.specs.declared.field_layout.FieldLayout.{FieldLayout}
use Rattle.jfr_layout.specs.declared.kind.Kind.TheVariants.{Composite, Text}
use Rattle.jfr_value.specs.declared.leaf.Holder.{Holder}
use Rattle.jfr_value.specs.Values.{Value, Values, Single, Group, Nil, Cons}
use Rattle.jfr_value.specs.Leaves.{part_holder}
use Rattle.jfr_mask.specs.Fields.{Masks, is_masked_field}
use Rattle.jfr_mask.specs.Masked.{is_string_leaf}

-- A value has no masked string, given its holder, and which holders' strings are masked.
abbrev mutual
  pub HasNoMasked : (Option Holder → Bool) → Option Holder → Value → Type 0
  HasNoMasked masked h (Single s kind b key) = (masked h && is_string_leaf kind) ≡ false
  HasNoMasked masked h (Group s head vs) = HaveNoMasked masked (part_holder s h) vs

  pub HaveNoMasked : (Option Holder → Bool) → (ℕ → Option Holder) → Values → Type 0
  HaveNoMasked masked f Nil = ⊤
  HaveNoMasked masked f (Cons v vs) = HasNoMasked masked (f zero) v × HaveNoMasked masked (λ n. f (suc n)) vs

-- The class with this index is plain, by a flag for each class.
abbrev pub IsPlain : List Bool → ℕ → Type 0
IsPlain flags index = get_or flags index false ≡ true

-- Field `number` of class `index` isn't masked, and if it is of a composite class, that is plain. A reference to a
-- constant is no string.
abbrev pub FieldIsPlain : Masks → Classes → List Bool → ℕ → ℕ → Field → Type 0
FieldIsPlain masks k flags index number f = f.shape.constant ≡ false
    → (is_masked_field masks index number ≡ false) × ((d : Class) (m : ℕ) → find_class k f.shape.class ≡ Some d → kind_of d.name ≡ Composite → class_index k f.shape.class ≡ Some m → IsPlain flags m)

-- `FieldIsPlain` of the field's layout.
abbrev pub LayoutIsPlain : Masks → List Bool → ℕ → ℕ → FieldLayout → Type 0
LayoutIsPlain masks flags index number s = s.shape.constant ≡ false → (is_masked_field masks index number ≡ false) × (s.kind ≡ Composite → IsPlain flags s.class_index)

-- Each field of a composite class is plain; strings that are in no field aren't masked.
pub record ClassIsPlain (masks : Masks) (k : Classes) (flags : List Bool) (index : ℕ) (c : Class) : Type 0 where
  pub fields : kind_of c.name ≡ Composite → (number : ℕ) (f : Field) → slice_get c.fields number ≡ Some f → FieldIsPlain masks k flags index number f
  pub text : kind_of c.name ≡ Text → masks.constants ≡ false

-- If the class with this index has the flag, it is plain.
abbrev pub IsRightAt : Masks → Classes → List Bool → ℕ → Type 0
IsRightAt masks k flags index = IsPlain flags index → (c : Class) → slice_get k index ≡ Some c → ClassIsPlain masks k flags index c

-- All flags are right.
abbrev pub ArePlain : Masks → Classes → List Bool → Type 0
ArePlain masks k flags = (index : ℕ) → IsRightAt masks k flags index
