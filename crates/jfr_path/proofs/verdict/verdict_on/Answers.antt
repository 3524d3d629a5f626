use Rattle.std.proofs.Common.{◌∙◌, subst, sym, Some}
use Rattle.jfr_path.specs.Verdicts.{AllowsThreads, AllowsTimes}
use Rattle.jfr_path.proofs.VerdictLaws.{kept}
use Rattle.jfr_path.proofs.verdict.verdict_on.Goals as goal

pub returns-in-None-None : goal.returns-in-None-None
returns-in-None-None c =
    let g = c.args.filter.now in
    let class = c.args.class.now in
    kept g class (sym c.requires.allowed ∙ c.if-not-allowed.false)
    (subst (λ z. AllowsTimes g class (Some z)) c.in-None-None.is-0 (c.in-Some.ensures g c.requires.untimed))
    (subst (λ z. AllowsThreads g class (Some z)) c.in-None-None.is-1 c.in-Some-thread_to_ask.ensures)
