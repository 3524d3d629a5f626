use Rattle.std.proofs.Common.{length}
use Rattle.jfr_scrub.proofs.MeasureLaws.{Measuring}
use Rattle.jfr_scrub.proofs.measure.measured.Given as goal

abbrev pub invariant-pools : goal.invariant-pools
invariant-pools l = Measuring l.entries l.rest l.count l.bytes

abbrev pub decreases-pools : goal.decreases-pools
decreases-pools l = length l.rest
