use Rattle.std.proofs.Common.{arith}
use Rattle.jfr_mask.proofs.MarkedRest.{collected_next}
use Rattle.jfr_mask.proofs.left.marked_entries.Goals as goal

pub loop-number-preserved : goal.loop-number-preserved
loop-number-preserved c =
    collected_next c.args.list.now.flags.items c.args.pools.now c.loop-number.entries.items c.push_if_marked.new.entries.items c.loop-number.number
    (omega (arith, c.loop-number-test.true, c.len-number-end.ensures, c.requires)) c.loop-number.invariant
    c.in_ok-push_if_marked.ensures.ok
