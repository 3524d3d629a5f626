use Rattle.std.proofs.Common.{◌≡◌, ◌++◌, drop}
use Rattle.jfr_chunk.specs.Reach.{marked}
use Rattle.jfr_output.proofs.remaining.reached.Given as goal

abbrev pub invariant-loop-at : goal.invariant-loop-at
invariant-loop-at l = l.remaining.items ++ marked (drop l.at l.marks) (drop l.at l.pools) ≡ marked l.marks l.pools
