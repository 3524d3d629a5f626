use Rattle.std.proofs.Common.{arith}
use Rattle.std.proofs.lemmas.Result.{err_from_is_err_and}
use Rattle.jfr_layout.proofs.FieldsKnown.{classes_next, classes_tell}
use Rattle.jfr_layout.proofs.resolved.class_layouts_of.Goals as goal

pub returns-in_err-class_layout_of-clause-judged : goal.returns-in_err-class_layout_of-clause-judged
returns-in_err-class_layout_of-clause-judged c = let p =
    err_from_is_err_and c.from_residual.result c.from_residual.ensures.1 in rw (p.1, p.2) (classes_tell c.args.list.now c.loop-at.at c.loop-at.class_layouts.items c.in_err-class_layout_of.field-0.0
    c.loop-at.invariant (omega arith) c.in_err-class_layout_of.ensures.judged)

pub loop-at-preserved : goal.loop-at-preserved
loop-at-preserved c = classes_next c.args.list.now c.loop-at.at c.loop-at.class_layouts.items c.push.new.self.items c.in_ok-class_layout_of.field-0
    c.loop-at.invariant (omega arith) c.in_ok-class_layout_of.ensures.judged c.in_ok-class_layout_of.ensures.exact c.in_ok-push.ensures.items
