use Rattle.std.proofs.lemmas.Result.{err_from_is_err_and}
use Rattle.jfr_layout.proofs.Soundness.{told_names, told_empty, told_deep, sound_from}
use Rattle.jfr_layout.proofs.classes.Classes.make_numbered.Goals as goal

pub returns-in_err-resolved-clause-refused : goal.returns-in_err-resolved-clause-refused
returns-in_err-resolved-clause-refused c = let p =
    err_from_is_err_and c.from_residual.result c.from_residual.ensures.1 in rw (p.1, p.2) (told_names c.args.list c.in_err-resolved.field-0.0 c.in_err-resolved.ensures.judged)

pub returns-in_err-check_filled-clause-refused : goal.returns-in_err-check_filled-clause-refused
returns-in_err-check_filled-clause-refused c = let p = err_from_is_err_and c.from_residual-in_err-check_filled.result c.from_residual-in_err-check_filled.ensures.1 in rw (p.1, p.2)
    (told_empty c.args.list c.in_err-check_filled.field-0.0 c.in_ok-resolved.ensures.judged (rw c.in_ok-resolved.ensures.exact at c.in_err-check_filled.ensures))

pub returns-in_err-check_depth-clause-refused : goal.returns-in_err-check_depth-clause-refused
returns-in_err-check_depth-clause-refused c = let p = err_from_is_err_and c.from_residual-in_err-check_depth.result c.from_residual-in_err-check_depth.ensures.1 in rw (p.1, p.2)
    (told_deep c.args.list c.in_err-check_depth.field-0.0 c.in_ok-resolved.ensures.judged (rw c.in_ok-resolved.ensures.exact at c.in_ok-check_filled.ensures)
    (rw c.in_ok-resolved.ensures.exact at c.in_err-check_depth.ensures))

pub invariant_of-result : goal.invariant_of-result
invariant_of-result c = rw c.in_ok-resolved.ensures.exact (
  sound_from c.args.list c.in_ok-resolved.ensures.judged (rw c.in_ok-resolved.ensures.exact at c.in_ok-check_filled.ensures) (rw c.in_ok-resolved.ensures.exact at c.in_ok-check_depth.ensures),
  rw c.in_ok-resolved.ensures.exact at c.in_ok-events.ensures.exact,
)

pub returns-clause-ok : goal.returns-clause-ok
returns-clause-ok c = sound_from c.args.list c.in_ok-resolved.ensures.judged (rw c.in_ok-resolved.ensures.exact at c.in_ok-check_filled.ensures)
    (rw c.in_ok-resolved.ensures.exact at c.in_ok-check_depth.ensures)
