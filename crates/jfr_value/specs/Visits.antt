-- A visit of a value: the visitor takes its leaves, or what they refer to, from left to right.
use Rattle.std.specs.Prelude.{◌≡◌, ◌≢◌, ◌⊎◌, ℕ, ◌+◌, List, [], ◌∷◌, ◌++◌, length, IfOk, Option, map, slice_get}
use Rattle.std.specs.List.{AllByRecursion}
use Rattle.std.specs.Option.{option_map_or}
use Rattle.jfr_base.specs.Formats.{Answer}
use Rattle.jfr_layout.specs.Classes.{Classes}
use Rattle.jfr_layout.specs.declared.field_layout.FieldLayout.{FieldLayout}
use Rattle.jfr_layout.specs.declared.form.Form.TheVariants as forms
use Rattle.jfr_layout.specs.declared.kind.Kind.{Kind}
use Rattle.jfr_layout.specs.declared.kind.Kind.TheVariants as kinds
use Rattle.jfr_layout.specs.declared.shape.Shape.{Shape}
use Rattle.jfr_value.specs.declared.leaf.Holder.{Holder}
use Rattle.jfr_value.specs.declared.leaf.KeyAt.{KeyAt}
use Rattle.jfr_value.specs.declared.leaf.LeafKind.TheVariants as leaf_kinds
use Rattle.jfr_value.specs.Values.{Value, Values, values_of}
use Rattle.jfr_value.specs.Nodes.{AreValues}
use Rattle.jfr_value.specs.Leaves.{LeafAt, keys_at, keys_from}
use Rattle.jfr_value.specs.Walks.{leaves_held}

-- The visitor takes the members of a list one after another, which changes it from old to new.
abbrev pub TakesAll : {A X : Type 0} → (X → A → A → Type 0) → List X → A → A → Type 0
TakesAll takes [] old new = old ≡ new
TakesAll {A = A} takes (x ∷ xs) old new = (next : A) × takes x old next × TakesAll takes xs next new

-- If a value was read from an offset on, the visitor takes the keys in it.
abbrev pub TakesRead : {A : Type 0} → (KeyAt → A → A → Type 0) → ℕ → Answer Value → A → A → Type 0
TakesRead takes at answer old new = IfOk answer (λ got. TakesAll takes (keys_at at got.value) old new)

-- If values were read one after another from an offset on, the visitor takes the keys in them.
abbrev pub TakesReadAll : {A : Type 0} → (KeyAt → A → A → Type 0) → ℕ → Answer (List Value) → A → A → Type 0
TakesReadAll takes at answer old new = IfOk answer (λ got. TakesAll takes (keys_from at (values_of got.value)) old new)

-- A leaf that is a value of a base name, but not a string.
abbrev pub IsNumber : LeafAt → Type 0
IsNumber l = (kind : Kind) × (l.kind ≡ leaf_kinds.Base kind) × (kind ≢ kinds.Text)

-- The values of fields with this layout are such leaves.
abbrev pub IsNumbers : FieldLayout → Type 0
IsNumbers s = (s.form ≡ forms.Integer) ⊎ ((count : ℕ) × (s.form ≡ forms.Raw count))

abbrev pub AreNumbers : List FieldLayout → Type 0
AreNumbers = AllByRecursion IsNumbers

-- The shapes of fields with these layouts.
abbrev pub shapes_of_layouts : List FieldLayout → List Shape
shapes_of_layouts ss = map (λ s. s.shape) ss

-- The shapes of the fields of the class with this index.
abbrev pub field_shapes : Classes → ℕ → List Shape
field_shapes k place = option_map_or (λ c. map (λ f. f.shape) c.fields) (slice_get k place) []

-- Values of these shapes and with these holders are at an offset, and maybe others follow up to the end; all of their
-- leaves are admitted.
pub record AreToVisit (admits : LeafAt → Type 0) (k : Classes) (c : List ℕ) (end : ℕ) (gs : List (Option Holder)) (ss : List Shape) (at : ℕ) : Type 0 where
  pub other_holders : List (Option Holder)
  pub other_shapes : List Shape
  pub values : Values
  pub row : AreValues k c at end (ss ++ other_shapes) values
  pub admitted : AllByRecursion admits (leaves_held (gs ++ other_holders) at values)

-- Of these leaves, the first ones were taken, with a step for each. Values of these shapes and with these holders are
-- left from an offset on, and their leaves are the others.
pub record Passed {A : Type 0} (takes : LeafAt → A → A → Type 0) (k : Classes) (c : List ℕ) (end : ℕ) (all : List LeafAt) (old : A) (before : ℕ) (hs : List (Option Holder)) (us : List Shape) (to : ℕ)
    (new : A) (after : ℕ) : Type 0 where
  pub first : List LeafAt
  pub others : Values
  pub row : AreValues k c to end us others
  pub leaves : all ≡ first ++ leaves_held hs to others
  pub taken : TakesAll takes first old new
  pub steps : after ≡ before + length first

-- A visit that begins with values of the first shapes and holders, and has those of the second ones left, whatever
-- follows them.
abbrev pub Visits : {A : Type 0} → (LeafAt → A → A → Type 0) → Classes → List ℕ → ℕ → List (Option Holder) → List Shape → ℕ → A → ℕ → List (Option Holder) → List Shape → ℕ → A → ℕ → Type 0
Visits takes k c end gs ss at old before hs ts to new after =
    (is : List (Option Holder)) (us : List Shape) (vs : Values) → AreValues k c at end (ss ++ us) vs → Passed takes k c end (leaves_held (gs ++ is) at vs) old before (hs ++ is) (ts ++ us) to new after
