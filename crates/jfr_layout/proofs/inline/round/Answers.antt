use Rattle.std.proofs.Common.{arith}
use Rattle.jfr_layout.proofs.Depth.{round_next}
use Rattle.jfr_layout.proofs.inline.round.Goals as goal

pub loop-at-preserved : goal.loop-at-preserved
loop-at-preserved c = round_next c.args.classes.now c.args.goes.now c.loop-at.at c.loop-at.next.items c.push.new.self.items c.goes_on.result
    c.loop-at.invariant (omega arith) c.goes_on.ensures c.in_ok-push.ensures.items
