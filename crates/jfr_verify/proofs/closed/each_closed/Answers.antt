use Rattle.std.proofs.Common.{◌<◌, length, arith, sym, ◌∙◌}
use Rattle.jfr_verify.proofs.ClosedLaws.{kept_false, kept_true}
use Rattle.jfr_verify.proofs.closed.each_closed.Goals as goal

pub returns-then-not-event_closed : goal.returns-then-not-event_closed
returns-then-not-event_closed c =
    let h : c.loop-number.number < length c.args.kept.now = omega arith in
    sym (kept_false c.args.chunk.now c.args.kept.now c.args.marks.now c.loop-number.number c.requires h (sym c.event_closed.ensures ∙ c.if-not-event_closed.true))

pub loop-number-preserved : goal.loop-number-preserved
loop-number-preserved c =
    let h : c.loop-number.number < length c.args.kept.now = omega arith in
    kept_true c.args.chunk.now c.args.kept.now c.args.marks.now c.loop-number.number c.requires h c.loop-number.invariant (sym c.event_closed.ensures ∙ c.if-not-event_closed.false)
