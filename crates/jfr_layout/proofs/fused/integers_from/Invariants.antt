use Rattle.std.proofs.Common.{◌-◌, ◌<◌, ◌≤◌}
use Rattle.jfr_layout.proofs.FusedLaws.{IntegersTo}
use Rattle.jfr_layout.proofs.fused.integers_from.Given as goal

abbrev pub invariant-fields : goal.invariant-fields
invariant-fields l = record { some : 0 < l.fields; upto : l.fields ≤ l.most; integers : IntegersTo l.layouts l.first l.fields }

abbrev pub decreases-fields : goal.decreases-fields
decreases-fields l = l.most - l.fields
