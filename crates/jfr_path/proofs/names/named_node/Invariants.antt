use Rattle.std.proofs.Common.{◌≡◌}
use Rattle.std.specs.Prelude.{drop}
use Rattle.jfr_chunk.specs.Paths.{named_node}
use Rattle.jfr_value.specs.Nodes.{IsValue, node_of}
use Rattle.jfr_path.proofs.names.named_node.Given as goal

-- The node is the one that the names so far lead to.
abbrev pub invariant-loop-name : goal.invariant-loop-name
invariant-loop-name l = record {
  value : IsValue l.chunk.classes l.place;
  bytes : l.place.bytes.now ≡ l.chunk.bytes;
  left : named_node l.chunk (node_of l.node) l.names ≡ named_node l.chunk (node_of l.place) (drop l.name-index l.names);
}
