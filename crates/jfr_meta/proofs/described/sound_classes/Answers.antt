use Rattle.std.proofs.Common.{map}
use Rattle.std.specs.List.{flat_map}
use Rattle.std.proofs.lemmas.Result.{err_from_is_err_and}
use Rattle.jfr_meta.specs.Described.{class_flaws, list_flaws}
use Rattle.jfr_meta.proofs.Told.{append_tells, then_tells, no_flaws}
use Rattle.jfr_meta.proofs.described.sound_classes.Goals as goal

pub returns-in_err-list-clause-judged : goal.returns-in_err-list-clause-judged
returns-in_err-list-clause-judged c =
    let p = err_from_is_err_and c.from_residual.result c.from_residual.ensures.1 in
    let ts = map (λ e. e.now) c.args.elements.now in
    rw (p.1, p.2) (append_tells (flat_map (class_flaws c.args.strings.now) ts) (list_flaws c.args.strings.now ts) c.in_err-list.field-0.0 c.in_err-list.ensures.judged)

pub returns-in-Ok-clause-judged : goal.returns-in-Ok-clause-judged
returns-in-Ok-clause-judged c =
    no_flaws c.args.strings.now (map (λ e. e.now) c.args.elements.now) c.in_ok-list.list c.in_ok-list.ensures.judged c.in_ok-list.ensures.ok c.in-Ok.ensures.ok

pub returns-in-Err-clause-judged : goal.returns-in-Err-clause-judged
returns-in-Err-clause-judged c =
    let ts = map (λ e. e.now) c.args.elements.now in
    then_tells (flat_map (class_flaws c.args.strings.now) ts) (list_flaws c.args.strings.now ts) c.placed.result c.in_ok-list.ensures.judged c.placed.ensures
