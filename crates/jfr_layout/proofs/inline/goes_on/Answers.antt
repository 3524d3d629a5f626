use Rattle.std.proofs.Common.{arith}
use Rattle.jfr_layout.proofs.Depth.{goes_next, goes_tell}
use Rattle.jfr_layout.proofs.inline.goes_on.Goals as goal

pub returns-then-goes_by : goal.returns-then-goes_by
returns-then-goes_by c = goes_tell c.args.classes.now c.args.class c.class_at.result.now c.kind_at.result c.args.goes.now c.loop-number.number c.goes_by.result
    c.class_at.ensures c.kind_at.ensures c.in-Composite.is (omega arith) c.goes_by.ensures c.if-goes_by.true

pub loop-number-preserved : goal.loop-number-preserved
loop-number-preserved c = goes_next c.args.classes.now c.args.class c.class_at.result.now c.args.goes.now c.loop-number.number c.goes_by.result
    c.class_at.ensures c.loop-number.invariant (omega arith) c.goes_by.ensures c.if-goes_by.false
