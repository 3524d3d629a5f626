use Rattle.std.proofs.Common.{◌-◌, ◌<◌, ◌≤◌, ◌+◌}
use Rattle.std.specs.Prelude.{slice_range}
use Rattle.jfr_layout.specs.Fused.{AreRaw}
use Rattle.jfr_layout.proofs.fused.raw_from.Given as goal

abbrev pub invariant-fields : goal.invariant-fields
invariant-fields l = record { some : 0 < l.fields; upto : l.fields ≤ l.most; raw : AreRaw l.count (slice_range l.layouts l.first (l.first + l.fields)) }

abbrev pub decreases-fields : goal.decreases-fields
decreases-fields l = l.most - l.fields
