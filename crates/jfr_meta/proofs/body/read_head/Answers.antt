use Rattle.std.proofs.Common.{sym}
use Rattle.std.proofs.lemmas.Result.{err_from_is_err_and}
use Rattle.jfr_meta.proofs.Runs.{integer_ok, integer_none}
use Rattle.jfr_meta.proofs.Bodies.{no_start, no_duration, no_id, no_count, whole_head}
use Rattle.jfr_meta.proofs.body.read_head.Goals as goal

pub returns-in_err-start-clause-exact : goal.returns-in_err-start-clause-exact
returns-in_err-start-clause-exact c =
    let p = err_from_is_err_and c.from_residual.result c.from_residual.ensures.1 in
    rw (p.1, p.2) (sym (no_start c.args.bytes.now c.args.end c.args.at c.in_err-start.field-0.0
    (integer_none c.args.bytes.now c.args.end c.args.at c.in_err-start.field-0.0 c.in_err-start.ensures.exact)))

pub returns-in_err-duration-clause-exact : goal.returns-in_err-duration-clause-exact
returns-in_err-duration-clause-exact c =
    let p = err_from_is_err_and c.from_residual-in_err-duration.result c.from_residual-in_err-duration.ensures.1 in
    rw (p.1, p.2) (sym (no_duration c.args.bytes.now c.args.end c.args.at c.in_ok-start.start.value c.in_ok-start.start.end c.in_err-duration.field-0.0
    (integer_ok c.args.bytes.now c.args.end c.args.at c.in_ok-start.start c.in_ok-start.ensures.exact)
    (integer_none c.args.bytes.now c.args.end c.in_ok-start.start.end c.in_err-duration.field-0.0 c.in_err-duration.ensures.exact)))

pub returns-in_err-id-clause-exact : goal.returns-in_err-id-clause-exact
returns-in_err-id-clause-exact c =
    let p = err_from_is_err_and c.from_residual-in_err-id.result c.from_residual-in_err-id.ensures.1 in
    rw (p.1, p.2) (sym (no_id c.args.bytes.now c.args.end c.args.at c.in_ok-start.start.value c.in_ok-start.start.end c.in_ok-duration.duration.value c.in_ok-duration.duration.end
    c.in_err-id.field-0.0 (integer_ok c.args.bytes.now c.args.end c.args.at c.in_ok-start.start c.in_ok-start.ensures.exact)
    (integer_ok c.args.bytes.now c.args.end c.in_ok-start.start.end c.in_ok-duration.duration c.in_ok-duration.ensures.exact)
    (integer_none c.args.bytes.now c.args.end c.in_ok-duration.duration.end c.in_err-id.field-0.0 c.in_err-id.ensures.exact)))

pub returns-in_err-count-clause-exact : goal.returns-in_err-count-clause-exact
returns-in_err-count-clause-exact c =
    let p = err_from_is_err_and c.from_residual-in_err-count.result c.from_residual-in_err-count.ensures.1 in
    rw (p.1, p.2) (sym (no_count c.args.bytes.now c.args.end c.args.at c.in_ok-start.start.value c.in_ok-start.start.end c.in_ok-duration.duration.value c.in_ok-duration.duration.end
    c.in_ok-id.id.value c.in_ok-id.id.end c.in_err-count.field-0.0 (integer_ok c.args.bytes.now c.args.end c.args.at c.in_ok-start.start c.in_ok-start.ensures.exact)
    (integer_ok c.args.bytes.now c.args.end c.in_ok-start.start.end c.in_ok-duration.duration c.in_ok-duration.ensures.exact)
    (integer_ok c.args.bytes.now c.args.end c.in_ok-duration.duration.end c.in_ok-id.id c.in_ok-id.ensures.exact)
    (integer_none c.args.bytes.now c.args.end c.in_ok-id.id.end c.in_err-count.field-0.0 c.in_err-count.ensures.exact)))

pub returns-clause-exact : goal.returns-clause-exact
returns-clause-exact c = sym (whole_head c.args.bytes.now c.args.end c.args.at c.in_ok-start.start.value c.in_ok-start.start.end c.in_ok-duration.duration.value c.in_ok-duration.duration.end
    c.in_ok-id.id.value c.in_ok-id.id.end c.in_ok-count.count.value c.in_ok-count.count.end (integer_ok c.args.bytes.now c.args.end c.args.at c.in_ok-start.start c.in_ok-start.ensures.exact)
    (integer_ok c.args.bytes.now c.args.end c.in_ok-start.start.end c.in_ok-duration.duration c.in_ok-duration.ensures.exact)
    (integer_ok c.args.bytes.now c.args.end c.in_ok-duration.duration.end c.in_ok-id.id c.in_ok-id.ensures.exact)
    (integer_ok c.args.bytes.now c.args.end c.in_ok-id.id.end c.in_ok-count.count c.in_ok-count.ensures.exact))
