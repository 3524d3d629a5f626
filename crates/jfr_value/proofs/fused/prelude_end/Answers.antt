use Rattle.std.proofs.Common.{sym, ◌∙◌}
use Rattle.std.proofs.lemmas.Result.{err_from_is_err_and}
use Rattle.jfr_value.proofs.FusedLaws.{begun_fails, front_ends, front_taken, thread_fails}
use Rattle.jfr_value.proofs.TakingLaws.{no_value}
use Rattle.jfr_value.proofs.fused.prelude_end.Goals as goal

pub returns-in_err-times-clause-exact : goal.returns-in_err-times-clause-exact
returns-in_err-times-clause-exact g c =
    let p = err_from_is_err_and c.from_residual.result c.from_residual.ensures.1 in
    rw (p.1, p.2) (λ k levels layouts i f. begun_fails k levels c.args.walk.bytes.now c.args.walk.end c.args.thread c.args.trace layouts i f c.args.at _
    (sym c.in_err-times.was ∙ c.integers_end.ensures.exact))

pub returns-in_err-times-clause-visited : goal.returns-in_err-times-clause-visited
returns-in_err-times-clause-visited g c = λ k levels layouts i f. no_value _ _ _
    (begun_fails k levels c.args.walk.bytes.now c.args.walk.end c.args.thread c.args.trace layouts i f c.args.at _ (sym c.in_err-times.was ∙ c.integers_end.ensures.exact))

pub returns-in_err-threads-clause-exact : goal.returns-in_err-threads-clause-exact
returns-in_err-threads-clause-exact g c =
    let p = err_from_is_err_and c.from_residual-in_err-threads.result c.from_residual-in_err-threads.ensures.1 in
    rw (p.1, p.2) (λ k levels layouts i f. thread_fails k levels c.args.walk.bytes.now c.args.walk.end c.args.thread c.args.trace layouts i f c.args.at c.in_ok-times.times _
    (sym c.in_ok-times.was ∙ c.integers_end.ensures.exact) (sym c.in_err-threads.was ∙ c.key_end.ensures.exact))

pub returns-in_err-threads-clause-visited : goal.returns-in_err-threads-clause-visited
returns-in_err-threads-clause-visited g c =
    λ k levels layouts i f. no_value _ _ _ (thread_fails k levels c.args.walk.bytes.now c.args.walk.end c.args.thread c.args.trace layouts i f c.args.at c.in_ok-times.times _
    (sym c.in_ok-times.was ∙ c.integers_end.ensures.exact) (sym c.in_err-threads.was ∙ c.key_end.ensures.exact))

pub returns-in_err-traces-clause-exact : goal.returns-in_err-traces-clause-exact
returns-in_err-traces-clause-exact g c =
    let p = err_from_is_err_and c.from_residual-in_err-traces.result c.from_residual-in_err-traces.ensures.1 in
    rw (p.1, p.2) (λ k levels layouts i f. front_ends k levels c.args.walk.bytes.now c.args.walk.end c.args.thread c.args.trace layouts i f c.args.at c.in_ok-times.times c.in_ok-threads.threads _
    (sym c.in_ok-times.was ∙ c.integers_end.ensures.exact) (sym c.in_ok-threads.was ∙ c.key_end.ensures.exact) (sym c.in_err-traces.was ∙ c.key_end-2.ensures.exact))

pub returns-in_err-traces-clause-visited : goal.returns-in_err-traces-clause-visited
returns-in_err-traces-clause-visited g c =
    λ k levels layouts i f. no_value _ _ _ (front_ends k levels c.args.walk.bytes.now c.args.walk.end c.args.thread c.args.trace layouts i f c.args.at c.in_ok-times.times c.in_ok-threads.threads _
    (sym c.in_ok-times.was ∙ c.integers_end.ensures.exact) (sym c.in_ok-threads.was ∙ c.key_end.ensures.exact) (sym c.in_err-traces.was ∙ c.key_end-2.ensures.exact))

pub returns-clause-exact : goal.returns-clause-exact
returns-clause-exact g c = λ k levels layouts i f. front_ends k levels c.args.walk.bytes.now c.args.walk.end c.args.thread c.args.trace layouts i f c.args.at c.in_ok-times.times
    c.in_ok-threads.threads _
    (sym c.in_ok-times.was ∙ c.integers_end.ensures.exact) (sym c.in_ok-threads.was ∙ c.key_end.ensures.exact) (sym c.in_ok-traces.was ∙ c.key_end-2.ensures.exact)

pub returns-clause-visited : goal.returns-clause-visited
returns-clause-visited g c = λ k levels layouts i f. front_taken k levels c.args.walk.bytes.now c.args.walk.end c.args.thread c.args.trace layouts i f
    (g.V.VisitKey.takes c.args.walk.with.now) c.args.walk.within c.args.at c.in_ok-times.times c.in_ok-threads.threads c.args.visitor.now c.key_end.new.visitor c.key_end-2.new.visitor
    c.requires.order c.in_ok-times.ensures.range.1 c.in_ok-threads.ensures.range.1
    (sym c.in_ok-times.was ∙ c.integers_end.ensures.exact) (sym c.in_ok-threads.was ∙ c.key_end.ensures.exact) c.key_end.ensures.visited c.key_end-2.ensures.visited
