use Rattle.std.proofs.Common.{ap, sym, ◌∙◌, Err}
use Rattle.std.proofs.lemmas.Result.{err_from_is_err_and}
use Rattle.jfr_pool.proofs.Listings.{entry_short, entry_valued, valued}
use Rattle.jfr_pool.proofs.checkpoint.read_entry.Goals as goal

pub returns-in_err-key-clause-exact : goal.returns-in_err-key-clause-exact
returns-in_err-key-clause-exact c =
    let p = err_from_is_err_and c.from_residual.result c.from_residual.ensures.1 in
    rw (p.1, p.2) (entry_short c.args.pool c.args.body.classes.now c.args.body.chunk.now c.args.body.limit c.args.at c.in_err-key.ensures.exact.0 ∙ ap (λ f. Err f) (sym c.in_err-key.ensures.exact.1))

pub returns-in_err-end-clause-exact : goal.returns-in_err-end-clause-exact
returns-in_err-end-clause-exact c =
    let p = err_from_is_err_and c.from_residual-in_err-end.result c.from_residual-in_err-end.ensures.1 in
    rw (p.1, p.2) (entry_valued c.args.pool c.args.body.classes.now c.args.body.chunk.now c.args.body.limit c.args.at c.in_ok-key.key c.in_ok-key.ensures.exact
    ∙ ap (valued c.args.pool c.args.at c.in_ok-key.key) (sym (rw c.requires.shape at c.end_by_layout.ensures.exact) ∙ c.in_err-end.was))

pub returns-clause-exact : goal.returns-clause-exact
returns-clause-exact c =
    entry_valued c.args.pool c.args.body.classes.now c.args.body.chunk.now c.args.body.limit c.args.at c.in_ok-key.key c.in_ok-key.ensures.exact
    ∙ ap (valued c.args.pool c.args.at c.in_ok-key.key) (sym (rw c.requires.shape at c.end_by_layout.ensures.exact) ∙ c.in_ok-end.was)
