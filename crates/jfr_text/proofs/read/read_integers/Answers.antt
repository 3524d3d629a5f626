use Rattle.std.proofs.Common.{sym, ◌∙◌, arith}
use Rattle.std.proofs.lemmas.Result.{err_from_is_err_and}
use Rattle.jfr_text.proofs.ReadSteps.{int_missing, int_there}
use Rattle.jfr_text.proofs.SpellLaws.{ReadsAll, read_all, read_fault}
use Rattle.jfr_text.proofs.read.read_integers.Goals as goal

pub returns-in_err-count-clause-exact : goal.returns-in_err-count-clause-exact
returns-in_err-count-clause-exact c =
    let p = err_from_is_err_and c.from_residual.result c.from_residual.ensures.1 in
    rw (p.1, p.2) (int_missing _ _ _ _ _ c.in_err-count.ensures.exact)

pub returns-in_err-to-clause-exact : goal.returns-in_err-to-clause-exact
returns-in_err-to-clause-exact c =
    let p = err_from_is_err_and c.from_residual-in_err-to.result c.from_residual-in_err-to.ensures.1 in
    let v = c.in_ok-count.count in
    rw (p.1, p.2) (int_there _ _ _ _ v c.in_ok-count.ensures.exact
    ∙ read_fault v.value c.args.bytes.now c.args.end v.end (omega (arith, c.in_ok-count.ensures.range)) c.requires.within _ (sym c.in_err-to.ensures.exact))

pub returns-clause-counted : goal.returns-clause-counted
returns-clause-counted c =
    let v = c.in_ok-count.count in
    let all : ReadsAll v.value c.args.bytes.now c.args.end v.end c.in_ok-to.to =
    read_all v.value c.args.bytes.now c.args.end v.end (omega (arith, c.in_ok-count.ensures.range)) c.requires.within c.in_ok-to.to (sym c.in_ok-to.ensures.exact) in
    (all.spelled, all.count)

pub returns-clause-exact : goal.returns-clause-exact
returns-clause-exact c =
    let v = c.in_ok-count.count in
    let all : ReadsAll v.value c.args.bytes.now c.args.end v.end c.in_ok-to.to =
    read_all v.value c.args.bytes.now c.args.end v.end (omega (arith, c.in_ok-count.ensures.range)) c.requires.within c.in_ok-to.to (sym c.in_ok-to.ensures.exact) in
    int_there _ _ _ _ v c.in_ok-count.ensures.exact ∙ all.gives
