use Rattle.std.proofs.Common.{◌≡◌}
use Rattle.std.specs.Prelude.{drop}
use Rattle.jfr_chunk.specs.Paths.{leads}
use Rattle.jfr_value.specs.Nodes.{IsValue, node_of}
use Rattle.jfr_path.proofs.steps.leads.Given as goal

-- The node is the one that the steps so far lead to.
abbrev pub invariant-loop-next : goal.invariant-loop-next
invariant-loop-next l = record {
  value : IsValue l.chunk.classes l.place;
  bytes : l.place.bytes.now ≡ l.chunk.bytes;
  left : leads l.chunk (node_of l.node) l.fn.path ≡ leads l.chunk (node_of l.place) (drop l.next-index l.fn.path);
}
