use Rattle.std.proofs.Common.{◌-◌, length}
use Rattle.jfr_layout.proofs.FusedLaws.{PassedTo}
use Rattle.jfr_layout.proofs.fused.fused_of.Given as goal

abbrev pub invariant-fused_fields : goal.invariant-fused_fields
invariant-fused_fields l = PassedTo l.layouts l.first l.fused_fields.items

abbrev pub decreases-fused_fields : goal.decreases-fused_fields
decreases-fused_fields l = length l.layouts - l.first
