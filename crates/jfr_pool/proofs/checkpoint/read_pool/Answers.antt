use Rattle.std.proofs.Common.{ap, sym, ◌∙◌, Err}
use Rattle.std.proofs.lemmas.Result.{err_from_is_err_and}
use Rattle.jfr_pool.proofs.Listings.{adds_same, class_short, class_unknown, count_short, pool_counted}
use Rattle.jfr_pool.proofs.checkpoint.read_pool.Goals as goal

pub returns-in_err-class-clause-exact : goal.returns-in_err-class-clause-exact
returns-in_err-class-clause-exact c =
    let p = err_from_is_err_and c.from_residual.result c.from_residual.ensures.1 in
    rw (p.1, p.2) (class_short c.args.checkpoint c.args.number c.args.body.classes.now c.args.body.chunk.now c.args.body.limit c.args.at c.in_err-class.ensures.exact.0
    ∙ ap (λ f. Err f) (sym c.in_err-class.ensures.exact.1))

pub returns-then-not-is_known-clause-exact : goal.returns-then-not-is_known-clause-exact
returns-then-not-is_known-clause-exact c =
    class_unknown c.args.checkpoint c.args.number c.args.body.classes.now c.args.body.chunk.now c.args.body.limit c.args.at c.in_ok-class.class c.in_ok-class.ensures.exact
    (sym c.is_known.ensures ∙ c.if-not-is_known.true)

pub returns-in_err-count-clause-exact : goal.returns-in_err-count-clause-exact
returns-in_err-count-clause-exact c =
    let p = err_from_is_err_and c.from_residual-in_err-count.result c.from_residual-in_err-count.ensures.1 in
    rw (p.1, p.2) (count_short c.args.checkpoint c.args.number c.args.body.classes.now c.args.body.chunk.now c.args.body.limit c.args.at c.in_ok-class.class c.in_ok-class.ensures.exact
    (sym c.is_known.ensures ∙ c.if-not-is_known.false) c.in_err-count.ensures.exact.0 ∙ ap (λ f. Err f) (sym c.in_err-count.ensures.exact.1))

pub returns-clause-exact : goal.returns-clause-exact
returns-clause-exact c =
    adds_same _ _ _ _ _ (pool_counted c.args.checkpoint c.args.number c.args.body.classes.now c.args.body.chunk.now c.args.body.limit c.args.at c.in_ok-class.class c.in_ok-count.count
    c.in_ok-class.ensures.exact (sym c.is_known.ensures ∙ c.if-not-is_known.false) c.in_ok-count.ensures.exact) c.read_entries.ensures.exact
