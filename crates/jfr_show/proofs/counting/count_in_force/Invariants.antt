use Rattle.jfr_show.proofs.ForceCounts.{IsCount}
use Rattle.jfr_show.proofs.counting.count_in_force.Given as goal

abbrev pub invariant-loop-number : goal.invariant-loop-number
invariant-loop-number l = IsCount l.pools l.number l.count
