use Rattle.std.proofs.Common.{◌≡◌, ◌++◌, take, drop}
use Rattle.jfr_chunk.specs.Reach.{marked}
use Rattle.jfr_output.proofs.remaining.are_all_reached.Given as goal

abbrev pub invariant-loop-at : goal.invariant-loop-at
invariant-loop-at l = take l.at l.pools ++ marked (drop l.at l.marks) (drop l.at l.pools) ≡ marked l.marks l.pools
