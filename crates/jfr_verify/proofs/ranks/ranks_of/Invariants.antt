use Rattle.jfr_verify.proofs.RankingLaws.{Ranking}
use Rattle.jfr_verify.proofs.ranks.ranks_of.Given as goal

abbrev pub invariant-loop-mark : goal.invariant-loop-mark
invariant-loop-mark l = Ranking l.marks l.mark-index l.rank l.ranks.items
