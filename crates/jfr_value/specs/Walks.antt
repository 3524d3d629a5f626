-- What a walk over a value from left to right has left.
use Rattle.std.specs.Prelude.{◌≡◌, ℕ, zero, suc, ◌+◌, ◌*◌, ◌<◌, ◌≤◌, ⊤, false, true, List, [], ◌∷◌, ◌++◌, drop, length, map, replicate, slice_get, Option, Some, None, IsSome, Ok, Err, if◌then◌else◌}
use Rattle.std.specs.Option.{option_map_or}
use Rattle.std.specs.List.{AllByRecursion}
use Rattle.jfr_base.specs.Formats.{Answer, for_each, run}
use Rattle.jfr_layout.specs.Classes.{Class, Classes, IsFieldLayout, Sound, find_class, class_index, form_of, begins_chain, is_composite, kind_of}
use Rattle.jfr_layout.specs.declared.shape.Shape.{Shape}
use Rattle.jfr_layout.specs.declared.field_layout.FieldLayout.{FieldLayout}
use Rattle.jfr_value.specs.declared.leaf.Holder.{Holder}
use Rattle.jfr_value.specs.declared.stack.Frame.{Frame}
use Rattle.jfr_value.specs.declared.stack.Frame.TheVariants.{Fields, Items}
use Rattle.jfr_value.specs.declared.cursor.Progress.{Progress}
use Rattle.jfr_value.specs.declared.cursor.Progress.TheVariants.{Ended, Onward, Found}
use Rattle.jfr_value.specs.declared.cursor.Cursor.{Cursor}
use Rattle.jfr_value.specs.Values.{Value, Values, Single, Group, Nil, Cons, values_of}
use Rattle.jfr_value.specs.Reading.{value_format}
use Rattle.jfr_value.specs.Nodes.{AreValues}
use Rattle.jfr_value.specs.Leaves.{LeafAt, leaf_of, leaves_from}

-- No chain of n inline steps begins with an inline value of the shape.
abbrev pub DepthBound : Classes → ℕ → Shape → Type 0
DepthBound k n s = s.constant ≡ false → (c : Class) → find_class k s.class ≡ Some c → is_composite (kind_of c.name) ≡ true → begins_chain n k c ≡ false

-- The shapes of the values that a frame still has.
abbrev pub frame_shapes : Classes → Frame → List Shape
frame_shapes k (Fields f) = option_map_or (λ c. map (λ f. f.shape) (drop f.number c.fields)) (slice_get k f.place) []
frame_shapes k (Items value remaining) = replicate remaining value.shape

-- The shapes of the values that a stack still has; those of its last frame come first.
abbrev pub remaining_shapes : Classes → List Frame → List Shape
remaining_shapes k [] = []
remaining_shapes k (f ∷ fs) = remaining_shapes k fs ++ frame_shapes k f

-- The fields of a class from a number on, of which each shape is one.
abbrev pub fields_from : ℕ → ℕ → List Shape → List (Option Holder)
fields_from class number [] = []
fields_from class number (s ∷ ss) = Some (record { class = class; field = number }) ∷ fields_from class (number + 1) ss

-- The holders of the values that a frame still has.
abbrev pub frame_holders : Classes → Frame → List (Option Holder)
frame_holders k (Fields f) = fields_from f.class f.number (frame_shapes k (Fields f))
frame_holders k (Items value remaining) = replicate remaining value.holder

-- The holders of the values that a stack still has, in the order of their shapes.
abbrev pub remaining_holders : Classes → List Frame → List (Option Holder)
remaining_holders k [] = []
remaining_holders k (f ∷ fs) = remaining_holders k fs ++ frame_holders k f

-- The holder with this number.
abbrev pub holder_at : List (Option Holder) → ℕ → Option Holder
holder_at [] n = None
holder_at (h ∷ hs) zero = h
holder_at (h ∷ hs) (suc n) = holder_at hs n

-- The leaves of values one after another, with these holders.
abbrev pub leaves_held : List (Option Holder) → ℕ → Values → List LeafAt
leaves_held holders at vs = leaves_from (holder_at holders) at vs

-- This is the index of the class of the shape, if the class is known.
abbrev pub IsClassIndexIfKnown : Classes → Shape → ℕ → Type 0
IsClassIndexIfKnown k s place = s.constant ≡ false → IsSome (find_class k s.class) → class_index k s.class ≡ Some place

-- The layout has the form of its shape and kind, and is that of its class, if the class is known.
pub record IsLayoutIfKnown (k : Classes) (s : FieldLayout) : Type 0 where
  pub form : s.form ≡ form_of s.shape s.kind
  pub of_class : s.shape.constant ≡ false → IsSome (find_class k s.shape.class) → IsFieldLayout k s

-- A frame at a height of the stack: at most `levels` inline steps can follow, each with at most two frames.
abbrev pub IsFrame : Classes → ℕ → Frame → Type 0
IsFrame k height (Fields f) = (height + 2 * f.levels ≤ 67) × (f.place < length k) × ((c : Class) → slice_get k f.place ≡ Some c → AllByRecursion (λ d. DepthBound k f.levels d.shape) c.fields)
IsFrame k height (Items value remaining) = (height + 2 * value.levels ≤ (if value.shape.array then 67 else 68)) × IsClassIndexIfKnown k value.shape value.place × DepthBound k value.levels value.shape

-- Each frame of a stack is a frame at its height, counted from the bottom.
abbrev pub AreFrames : Classes → ℕ → List Frame → Type 0
AreFrames k height [] = ⊤
AreFrames k height (f ∷ fs) = IsFrame k (suc height) f × AreFrames k (suc height) fs

-- These values are left, up to `end`.
abbrev pub AreRemaining : Classes → List ℕ → ℕ → Cursor → Values → Type 0
AreRemaining k c end cursor vs = AreValues k c cursor.at end (remaining_shapes k cursor.stack) vs

-- The values that were read; none if one was refused.
abbrev pub got_values : Answer (List Value) → Values
got_values (Ok g) = values_of g.value
got_values (Err e) = Nil

-- The values that are left, by computing.
unfoldable pub remaining_values : Classes → List ℕ → ℕ → Cursor → Values
remaining_values k c end cursor = got_values (run (for_each (remaining_shapes k cursor.stack) (value_format k)) c end cursor.at)

-- The leaves that are left.
abbrev pub remaining_leaves : Classes → List ℕ → ℕ → Cursor → List LeafAt
remaining_leaves k c end cursor = leaves_held (remaining_holders k cursor.stack) cursor.at (remaining_values k c end cursor)

-- The number of values, where each with parts counts twice, so that every step of a walk makes the number
-- smaller.
abbrev mutual
  pub size_of : Value → ℕ
  size_of (Single s kind b key) = 1
  size_of (Group s h vs) = 2 + size_of_all vs

  pub size_of_all : Values → ℕ
  size_of_all Nil = 0
  size_of_all (Cons v vs) = size_of v + size_of_all vs

-- What one step of a walk over values with these holders does: it ends, gives the first leaf, or comes closer
-- to it.
abbrev pub GoesOn : Classes → List ℕ → ℕ → List (Option Holder) → ℕ → Values → ℕ → Cursor → Progress → Type 0
GoesOn k c end holders at vs size cursor Ended = (ws : Values) × AreRemaining k c end cursor ws × (leaves_held holders at vs ≡ []) × (leaves_held (remaining_holders k cursor.stack) cursor.at ws ≡ [])
GoesOn k c end holders at vs size cursor (Found leaf) =
    (ws : Values) × AreRemaining k c end cursor ws × (leaves_held holders at vs ≡ leaf_of leaf ∷ leaves_held (remaining_holders k cursor.stack) cursor.at ws)
GoesOn k c end holders at vs size cursor Onward =
    (ws : Values) × AreRemaining k c end cursor ws × (leaves_held holders at vs ≡ leaves_held (remaining_holders k cursor.stack) cursor.at ws) × (size_of_all ws + length cursor.stack < size)

-- The cursor of a walk: the classes are sound, each frame fits its height, and the remaining values exist.
pub record IsWalk (k : Classes) (c : List ℕ) (end : ℕ) (cursor : Cursor) : Type 0 where
  pub sound : Sound k
  pub frames : AreFrames k 0 cursor.stack
  pub remaining : AreRemaining k c end cursor (remaining_values k c end cursor)
