use Rattle.std.proofs.Common.{◌≡◌}
use Rattle.std.specs.Prelude.{replicate}
use Rattle.jfr_value.specs.Values.{Values}
use Rattle.jfr_value.specs.Nodes.{AreValues}
use Rattle.jfr_value.proofs.RowLaws.{start_of}
use Rattle.jfr_value.proofs.part.nth_item.Given as goal

abbrev pub invariant-loop : goal.invariant-loop
invariant-loop l = (vs : Values) → AreValues l.classes l.node.bytes.now l.fn.count.end l.node.end (replicate l.fn.count.value l.layout.shape) vs → l.at ≡ start_of l.fn.count.end vs l.counter
