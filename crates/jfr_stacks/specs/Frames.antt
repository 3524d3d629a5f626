-- The frames of an event's call stack.
use Rattle.std.specs.Prelude.{◌≡◌, ℕ, List, [], ◌∷◌, codes, map, Option, Some, None, option_and_then, if◌then◌else◌}
use Rattle.std.specs.Option.{option_map}
use Rattle.jfr_layout.specs.Classes.{Classes, field_number}
use Rattle.jfr_value.specs.declared.node.Node.{Node}
use Rattle.jfr_value.specs.Nodes.{IsValue, NodeAt, children, target}
use Rattle.jfr_pool.specs.Entries.{number_in_force}
use Rattle.jfr_chunk.specs.Parts.{Parts}
use Rattle.jfr_chunk.specs.Paths.{follow_while, is_reference, named_field}
use Rattle.jfr_path.specs.Places.{node_at}

-- The value after following references, at most n in a row.
abbrev pub after_references : ℕ → Parts → NodeAt → NodeAt
after_references n p node = follow_while n is_reference p node

-- The items of a node, if it is an array.
abbrev pub items_of : Parts → NodeAt → Option (List NodeAt)
items_of p n = if n.shape.array then Some (children p.classes p.bytes n) else None

-- The frames of the event with these fields: the items of stackTrace.frames. If this isn't an array, the event
-- has no stack.
unfoldable pub frames_of : Parts → NodeAt → Option (List NodeAt)
frames_of p n = option_and_then (items_of p) (node_at p n (codes "stackTrace" ∷ codes "frames" ∷ []))

-- For each class, the number of its field with this name, if it has one.
abbrev pub field_numbers : List ℕ → Classes → List (Option ℕ)
field_numbers name k = map (λ c. field_number c.fields name) k

-- The field with the stack trace, in an event with these fields.
abbrev pub trace_of : Parts → NodeAt → Option NodeAt
trace_of p n = named_field p (codes "stackTrace") (after_references 16 p n)

-- The frames of a stack trace.
abbrev pub frames_in : Parts → NodeAt → Option (List NodeAt)
frames_in p n = option_and_then (items_of p) (option_map (after_references 16 p) (named_field p (codes "frames") n))

-- The number of the entry in force to which a value refers, if there is one.
abbrev pub entry_number : Parts → NodeAt → Option ℕ
entry_number p n = option_and_then (number_in_force p.entries) (target p.classes p.bytes n)

-- The code's `Node` is a value of the chunk.
pub record IsChunkValue (p : Parts) (n : Node) : Type 0 where
  pub bytes : n.bytes.now ≡ p.bytes
  pub value : IsValue p.classes n
