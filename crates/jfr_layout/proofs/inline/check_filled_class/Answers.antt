use Rattle.std.proofs.Common.{arith}
use Rattle.jfr_layout.proofs.Filled.{filled_next, filled_tell}
use Rattle.jfr_layout.proofs.inline.check_filled_class.Goals as goal

pub returns-then-is_empty : goal.returns-then-is_empty
returns-then-is_empty c = rw c.class_at.ensures (filled_tell c.args.classes.now c.args.class c.loop-number.number c.class_at.result.now c.is_empty.result
    c.class_at.ensures c.loop-number.invariant (omega arith) c.is_empty.ensures c.if-is_empty.true)

pub loop-number-preserved : goal.loop-number-preserved
loop-number-preserved c = filled_next c.args.classes.now c.args.class c.loop-number.number c.class_at.result.now c.is_empty.result
    c.class_at.ensures c.loop-number.invariant (omega arith) c.is_empty.ensures c.if-is_empty.false
