use Rattle.std.proofs.Common.{Err, ap, sym, ◌+◌, slice_range, ◌∙◌, arith}
use Rattle.std.proofs.lemmas.Result.{err_from_is_err_and}
use Rattle.jfr_text.proofs.ReadSteps.{int_missing, int_there, run_missing, run_there, done_there}
use Rattle.jfr_text.proofs.read.read_bytes.Goals as goal

pub returns-in_err-count-clause-exact : goal.returns-in_err-count-clause-exact
returns-in_err-count-clause-exact c =
    let p = err_from_is_err_and c.from_residual.result c.from_residual.ensures.1 in
    rw (p.1, p.2) (int_missing _ _ _ _ _ c.in_err-count.ensures.exact)

pub returns-then-count-end-clause-exact : goal.returns-then-count-end-clause-exact
returns-then-count-end-clause-exact c =
    let v = c.in_ok-count.count in
    int_there _ _ _ _ v c.in_ok-count.ensures.exact ∙ (run_missing _ _ _ v.value _ (omega (arith, c.in_ok-count.ensures.range))
    ∙ ap (λ flaw. Err flaw) (sym c.short.ensures))

pub returns-clause-exact : goal.returns-clause-exact
returns-clause-exact c =
    let v = c.in_ok-count.count in
    int_there _ _ _ _ v c.in_ok-count.ensures.exact ∙ (run_there _ _ v.end v.value _ (omega (arith, c.in_ok-count.ensures.range))
    ∙ done_there _ _ _ (slice_range c.args.bytes.now v.end (v.end + v.value)))
