-- What a walk visits, and how many leaves that has.
use Rattle.std.specs.Prelude.{ℕ, ◌+◌, List, [], ◌∷◌, length, slice_get}
use Rattle.std.specs.Option.{option_map_or}
use Rattle.jfr_value.specs.Nodes.{NodeAt}
use Rattle.jfr_value.specs.Leaves.{leaves}
use Rattle.jfr_pool.specs.Entries.{entry_node}
use Rattle.jfr_chunk.specs.Parts.{Parts, EventAt}

-- The number of leaves of a node.
abbrev pub node_leaves : Parts → NodeAt → ℕ
node_leaves p n = length (leaves p.classes p.bytes n)

-- The number of leaves of all these events together.
abbrev pub event_leaves : Parts → List EventAt → ℕ
event_leaves p [] = 0
event_leaves p (e ∷ es) = node_leaves p e.node + event_leaves p es

-- The number of leaves of the entry with this number; 0 if there is no such entry.
abbrev pub entry_leaves : Parts → ℕ → ℕ
entry_leaves p i = option_map_or (λ e. node_leaves p (entry_node e)) (slice_get p.entries i) 0
