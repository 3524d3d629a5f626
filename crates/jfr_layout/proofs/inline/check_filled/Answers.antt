use Rattle.std.proofs.Common.{arith}
use Rattle.std.proofs.lemmas.Result.{err_from_is_err_and}
use Rattle.jfr_layout.proofs.Filled.{empties_next, empties_tell}
use Rattle.jfr_layout.proofs.inline.check_filled.Goals as goal

pub returns-in_err-check_filled_class : goal.returns-in_err-check_filled_class
returns-in_err-check_filled_class c = let p =
    err_from_is_err_and c.from_residual.result c.from_residual.ensures.1 in rw (p.1, p.2) (empties_tell c.args.classes.now c.loop-at.at c.in_err-check_filled_class.field-0.0
    c.loop-at.invariant (omega arith) c.in_err-check_filled_class.ensures)

pub loop-at-preserved : goal.loop-at-preserved
loop-at-preserved c = empties_next c.args.classes.now c.loop-at.at c.loop-at.invariant (omega arith) c.in_ok-check_filled_class.ensures
