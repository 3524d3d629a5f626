-- Taking a value from the words of its leaves, by cases on its shape: as the format of a value is read
-- (jfr_value: Reading), with words in place of bytes.
use Rattle.std.specs.Prelude.{ℕ, zero, suc, List, [], ◌∷◌, Option, Some, None, option_map, if◌then◌else◌}
use Rattle.jfr_base.specs.Integer.{spell}
use Rattle.jfr_layout.specs.Classes.{Class, Classes, find_class, kind_of, item_of}
use Rattle.jfr_layout.specs.declared.kind.Kind.{Kind}
use Rattle.jfr_layout.specs.declared.kind.Kind.TheVariants as kinds
use Rattle.jfr_layout.specs.declared.shape.Shape.{Shape}
use Rattle.jfr_value.specs.declared.leaf.LeafKind.TheVariants as leaf_kinds
use Rattle.jfr_value.specs.Values.{Value, Single, Group, values_of}
use Rattle.jfr_value.specs.Leaves.{leaf_key}
use Rattle.jfr_build.specs.LeafWords.{id_after, base_of}

-- What was taken, and the words that are left.
pub record Taken (A : Type 0) : Type 0 where
  pub value : A
  pub rest : List (List ℕ)

-- Takes words from the start of a list, or fails.
abbrev pub Taker : Type 0 → Type 0
Taker A = List (List ℕ) → Option (Taken A)

-- This was taken, and these words are left.
abbrev pub took : {A : Type 0} → A → List (List ℕ) → Option (Taken A)
took a ws = Some (record { value = a; rest = ws })

-- Goes on with what was taken and the words that are left.
abbrev pub then_take : {A B : Type 0} → Option (Taken A) → (A → Taker B) → Option (Taken B)
then_take None f = None
then_take (Some t) f = f t.value t.rest

-- Takes the first word, as what it spells.
abbrev pub word_taken : {A : Type 0} → (List ℕ → Option A) → Taker A
word_taken f [] = None
word_taken f (w ∷ ws) = option_map (λ a. record { value = a; rest = ws }) (f w)

-- Takes n values.
abbrev pub times_taken : {A : Type 0} → ℕ → Taker A → Taker (List A)
times_taken zero f ws = took [] ws
times_taken (suc n) f ws = then_take (f ws) λ a us. then_take (times_taken n f us) λ bs vs. took (a ∷ bs) vs

-- Takes one value for each member of a list.
abbrev pub each_taken : {X A : Type 0} → List X → (X → Taker A) → Taker (List A)
each_taken [] f ws = took [] ws
each_taken (x ∷ xs) f ws = then_take (f x ws) λ a us. then_take (each_taken xs f us) λ bs vs. took (a ∷ bs) vs

-- A reference: its key.
abbrev pub reference_taken : Shape → Taker Value
reference_taken s ws = then_take (word_taken (id_after 35) ws) λ key us. took (Single s (leaf_kinds.Key key) (spell key) (Some key)) us

-- A value that isn't an array: a reference, or an inline value.
abbrev pub item_taken : (Shape → Taker Value) → Shape → Taker Value
item_taken inline s ws = if s.constant then reference_taken s ws else inline s ws

-- An array: its count, and this many items.
abbrev pub array_taken : Taker Value → Shape → Taker Value
array_taken item s ws = then_take (word_taken (id_after 91) ws) λ n us. then_take (times_taken n item us) λ vs rest. took (Group s (spell n) (values_of vs)) rest

-- A value of a shape.
abbrev pub shape_taken : (Shape → Taker Value) → Shape → Taker Value
shape_taken inline s ws = if s.array then array_taken (item_taken inline (item_of s)) s ws else item_taken inline s ws

-- A value of a base name.
abbrev pub base_taken : Kind → Shape → Taker Value
base_taken kind s ws = then_take (word_taken (base_of kind) ws) λ b us. took (Single s (leaf_kinds.Base kind) b (leaf_key (leaf_kinds.Base kind) b)) us

-- An inline value of a class of this kind. `fields` takes the fields of a composite one.
abbrev pub kind_taken : Kind → Shape → Taker (List Value) → Taker Value
kind_taken kinds.Composite s fields ws = then_take (fields ws) λ vs us. took (Group s [] (values_of vs)) us
kind_taken kind s fields ws = base_taken kind s ws

-- An inline value of a class, if there is one.
abbrev pub inline_taken : (Shape → Taker Value) → Shape → Option Class → Taker Value
inline_taken inline s None ws = None
inline_taken inline s (Some c) ws = kind_taken (kind_of c.name) s (each_taken c.fields (λ f. shape_taken inline f.shape)) ws

-- An inline value of a class, with at most n classes nested.
unfoldable pub class_taken : ℕ → Classes → Shape → Taker Value
class_taken zero k s ws = None
class_taken (suc n) k s ws = inline_taken (class_taken n k) s (find_class k s.class) ws

-- A value of a shape.
unfoldable pub value_taken : Classes → Shape → Taker Value
value_taken k s ws = shape_taken (class_taken 34 k) s ws
