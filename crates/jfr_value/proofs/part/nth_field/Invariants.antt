use Rattle.std.proofs.Common.{◌≡◌}
use Rattle.std.specs.Prelude.{map}
use Rattle.jfr_value.specs.Values.{Values}
use Rattle.jfr_value.specs.Nodes.{AreValues}
use Rattle.jfr_value.proofs.RowLaws.{start_of}
use Rattle.jfr_value.proofs.part.nth_field.Given as goal

abbrev pub invariant-loop-i : goal.invariant-loop-i
invariant-loop-i l = (vs : Values) → AreValues l.classes l.node.bytes.now l.node.at l.node.end (map (λ s. s.shape) l.layouts) vs → l.at ≡ start_of l.node.at vs l.i
