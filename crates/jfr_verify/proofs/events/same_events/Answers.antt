use Rattle.std.proofs.Common.{sym, arith}
use Rattle.jfr_verify.proofs.EventLaws.{same_next, same_differs}
use Rattle.jfr_verify.proofs.events.same_events.Goals as goal

pub returns-in_default : goal.returns-in_default
returns-in_default c = same_differs c.args.a.now c.args.b.now c.args.kept.now c.loop-number.number c.loop-number.at (omega (arith, c.len-number-end.ensures)) c.requires c.loop-number.invariant
    (sym c.in_default.ensures)

pub loop-number-preserved : goal.loop-number-preserved
loop-number-preserved c = same_next c.args.a.now c.args.b.now c.args.kept.now c.loop-number.number c.loop-number.at c.in-Some.next
    (omega (arith, c.len-number-end.ensures)) c.requires c.loop-number.invariant (sym c.in-Some.ensures)
