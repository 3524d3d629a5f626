-- Nodes: values in the bytes of a chunk.
use Rattle.std.specs.Prelude.{◌≡◌, ◌⊎◌, ℕ, ◌+◌, ◌≤◌, List, [], ◌∷◌, length, slice_get, slice_range, Option, Some, None, Ok, Err, ⊤, if◌then◌else◌}
use Rattle.std.specs.Option.{option_map_or, option_and_then}
use Rattle.jfr_base.specs.declared.flaw.Flaw.{Flaw}
use Rattle.jfr_base.specs.declared.reason.Reason.{Reason}
use Rattle.jfr_base.specs.declared.reason.Reason.TheVariants.{Short, StringKind}
use Rattle.jfr_base.specs.Formats.{Answer, Fails, run}
use Rattle.jfr_layout.specs.Classes.{Classes}
use Rattle.jfr_layout.specs.declared.shape.Shape.{Shape}
use Rattle.jfr_value.specs.declared.node.Node.{Node}
use Rattle.jfr_value.specs.declared.node.Step.{Step}
use Rattle.jfr_value.specs.declared.node.Step.TheVariants as steps
use Rattle.jfr_value.specs.Values.{Value, Values, bytes_of_all, AllFit, shapes_of, shape_of, head_of, parts_of, bytes_of, own_target, targets_of, Fits}
use Rattle.jfr_value.specs.Reading.{value_format}

-- A shape, and the range of a value's bytes in the chunk.
pub record NodeAt : Type 0 where
  pub shape : Shape
  pub at : ℕ
  pub end : ℕ

-- The node of a shape from one offset to another.
abbrev pub node_at : Shape → ℕ → ℕ → NodeAt
node_at s at end = record { shape = s; at = at; end = end }

-- The bytes of a node.
abbrev pub node_bytes : List ℕ → NodeAt → List ℕ
node_bytes c n = slice_range c n.at n.end

-- This is the node of this value.
pub record IsNode (k : Classes) (c : List ℕ) (n : NodeAt) (v : Value) : Type 0 where
  pub shape : n.shape ≡ shape_of v
  pub order : n.at ≤ n.end
  pub within : n.end ≤ length c
  pub bytes : node_bytes c n ≡ bytes_of v
  pub fits : Fits k v

-- A node of the code, as a node in the chunk.
abbrev pub node_of : Node → NodeAt
node_of n = node_at n.shape n.at n.end

-- This is the node of some value.
abbrev pub IsValue : Classes → Node → Type 0
IsValue k n = (v : Value) × IsNode k n.bytes.now (node_of n) v

-- There is a value of the shape from one offset up to the other.
abbrev pub EndsAt : Classes → List ℕ → Shape → ℕ → ℕ → Type 0
EndsAt k c s at to = (v : Value) × IsNode k c (node_at s at to) v

-- There are values of these shapes, one after another, from one offset up to the other.
pub record AreValues (k : Classes) (c : List ℕ) (at to : ℕ) (shapes : List Shape) (vs : Values) : Type 0 where
  pub order : at ≤ to
  pub within : to ≤ length c
  pub bytes : slice_range c at to ≡ bytes_of_all vs
  pub fit : AllFit k vs
  pub of_shapes : shapes_of vs ≡ shapes

-- What starts at an offset is refused as a value of the shape: the units of its format before the flaw's
-- offset are good and end by `end`, and the one at that offset is faulty.
abbrev pub IsRefused : Classes → List ℕ → Shape → ℕ → ℕ → Flaw → Type 0
IsRefused k c s at end flaw = Fails (value_format k s) c end at flaw.offset flaw.reason

-- The reason is that a part doesn't end by the limit, or that a string's kind isn't known.
abbrev pub IsValueReason : Reason → Type 0
IsValueReason why = (why ≡ Short) ⊎ (why ≡ StringKind)

-- The value that was read, if it wasn't refused.
abbrev pub got_value : Answer Value → Option Value
got_value (Ok g) = Some g.value
got_value (Err e) = None

-- The value of a node, by computing.
unfoldable pub value_of : Classes → List ℕ → NodeAt → Option Value
value_of k c n = got_value (run (value_format k n.shape) c n.end n.at)

-- The nodes of values that lie one after another from an offset on.
abbrev pub laid : ℕ → List Value → List NodeAt
laid at [] = []
laid at (v ∷ vs) = record { shape = shape_of v; at = at; end = at + length (bytes_of v) } ∷ laid (at + length (bytes_of v)) vs

-- The nodes of the parts of a value that starts at an offset.
abbrev pub laid_in : ℕ → Value → List NodeAt
laid_in at v = laid (at + length (head_of v)) (parts_of v)

-- The fields of a composite node, or the items of an array.
abbrev pub children : Classes → List ℕ → NodeAt → List NodeAt
children k c n = option_map_or (laid_in n.at) (value_of k c n) []

-- The member of the fields or items to which a step leads.
abbrev pub picked : {A : Type 0} → Shape → List A → Step → Option A
picked s xs (steps.Field i) = if s.array then None else slice_get xs i
picked s xs (steps.Item i) = if s.array then slice_get xs i else None
picked s xs steps.Follow = None

-- The field or the item to which a step leads.
abbrev pub child : Classes → List ℕ → NodeAt → Step → Option NodeAt
child k c n step = picked n.shape (children k c n) step

-- The class and the key to which the node itself refers, if it does.
abbrev pub target : Classes → List ℕ → NodeAt → Option (ℕ × ℕ)
target k c n = option_and_then own_target (value_of k c n)

-- The classes and keys to which the node refers at any depth, from left to right.
abbrev pub targets : Classes → List ℕ → NodeAt → List (ℕ × ℕ)
targets k c n = option_map_or targets_of (value_of k c n) []

-- The node to which a path of fields and items leads; Follow leads nowhere here.
abbrev pub inside : Classes → List ℕ → NodeAt → List Step → Option NodeAt
inside k c n [] = Some n
inside k c n (step ∷ path) = option_and_then (λ m. inside k c m path) (child k c n step)

-- Both exist and are related, or neither exists.
abbrev pub Both : {A B : Type 0} → (A → B → Type 0) → Option A → Option B → Type 0
Both R None None = ⊤
Both R (Some a) (Some b) = R a b
Both R None (Some b) = ⊥
Both R (Some a) None = ⊥
