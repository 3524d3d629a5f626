use Rattle.std.proofs.Common.{take}
use Rattle.jfr_chunk.specs.Reach.{marked}
use Rattle.jfr_renumber.proofs.FirstsLaws.{SoFar}
use Rattle.jfr_renumber.proofs.firsts.collected.Given as goal

abbrev pub invariant-loop-at : goal.invariant-loop-at
invariant-loop-at g l = SoFar (g.N.NewKeys.keys l.new) (marked (take l.at l.marks) l.pools) l.firsts
