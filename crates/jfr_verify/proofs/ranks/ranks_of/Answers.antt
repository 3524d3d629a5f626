use Rattle.std.proofs.Common.{◌≡◌, ◌+◌, slice_index_or, false, arith, ap}
use Rattle.jfr_verify.proofs.RankingLaws.{count_few, one_if, one_most, ranking_next}
use Rattle.jfr_verify.proofs.ranks.ranks_of.Goals as goal

pub overflow_add-rank : goal.overflow_add-rank
overflow_add-rank c =
    let one : c.from-rank.result ≡ one_if (slice_index_or c.args.marks.now c.loop-mark.mark-index false) = c.from-rank.ensures in
    omega (
      arith,
      one,
      one_most (slice_index_or c.args.marks.now c.loop-mark.mark-index false),
      count_few c.args.marks.now c.loop-mark.mark-index,
      c.loop-mark.invariant.count,
      c.loop-mark-test.true,
      c.requires.few,
    )

pub loop-mark-preserved : goal.loop-mark-preserved
loop-mark-preserved c =
    ranking_next c.args.marks.now c.loop-mark.mark-index c.loop-mark.rank (c.loop-mark.rank + c.from-rank.result) c.loop-mark.ranks.items c.push.new.self.items c.loop-mark-test.true
    c.loop-mark.invariant c.in_ok-push.ensures.items
    (ap (λ z. c.loop-mark.rank + z) c.from-rank.ensures)
