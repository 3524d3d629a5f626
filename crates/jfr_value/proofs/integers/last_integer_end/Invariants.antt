use Rattle.jfr_value.proofs.SkipLaws.{Skipping}
use Rattle.jfr_value.proofs.integers.last_integer_end.Given as goal

abbrev pub invariant-loop-passed : goal.invariant-loop-passed
invariant-loop-passed l = Skipping l.bytes l.at l.end l.passed
