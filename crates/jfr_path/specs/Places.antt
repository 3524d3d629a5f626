-- The values to which the names of fields lead.
use Rattle.std.specs.Prelude.{ℕ, List, Option, option_map}
use Rattle.jfr_value.specs.Nodes.{NodeAt}
use Rattle.jfr_chunk.specs.Parts.{Parts}
use Rattle.jfr_chunk.specs.Paths.{follow_while, is_reference, named_node}

-- The value to which names lead from a node. For each name references are followed, at most 16 in a row, and
-- then the field with this name is taken; after the last name references are followed again.
abbrev pub node_at : Parts → NodeAt → List (List ℕ) → Option NodeAt
node_at p n names = option_map (follow_while 16 is_reference p) (named_node p n names)
