use Rattle.std.proofs.Common.{◌-◌}
use Rattle.jfr_value.specs.Nodes.{children, node_of}
use Rattle.jfr_stacks.proofs.ItemLaws.{Going}
use Rattle.jfr_stacks.proofs.frames.items_of.Given as goal

abbrev pub invariant-items : goal.invariant-items
invariant-items l = Going l.chunk l.shape l.array.end (children l.chunk.classes l.chunk.bytes (node_of l.array)) (l.end - l.counter) l.at l.items.items
