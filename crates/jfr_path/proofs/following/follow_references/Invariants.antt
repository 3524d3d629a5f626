use Rattle.std.proofs.Common.{◌≡◌, ◌-◌}
use Rattle.jfr_chunk.specs.Paths.{is_reference, follow_while}
use Rattle.jfr_value.specs.Nodes.{IsValue, node_of}
use Rattle.jfr_path.proofs.following.follow_references.Given as goal

-- The node is the one reached after the steps followed so far.
abbrev pub invariant-loop : goal.invariant-loop
invariant-loop l = record {
  value : IsValue l.chunk.classes l.value;
  bytes : l.value.bytes.now ≡ l.chunk.bytes;
  left : follow_while l.most is_reference l.chunk (node_of l.node) ≡ follow_while (l.most - l.counter) is_reference l.chunk (node_of l.value);
}
