use Rattle.std.proofs.Common.{sym, ◌∙◌, ap}
use Rattle.std.proofs.lemmas.Result.{err_from_is_err_and}
use Rattle.jfr_text.specs.Spans.{content_of}
use Rattle.jfr_meta.proofs.Runs.{ok}
use Rattle.jfr_meta.proofs.Table.{text_ok, text_err}
use Rattle.jfr_meta.proofs.strings.read_text.Goals as goal

pub returns-in_err-string-clause-exact : goal.returns-in_err-string-clause-exact
returns-in_err-string-clause-exact c =
    let p = err_from_is_err_and c.from_residual.result c.from_residual.ensures.1 in
    rw (p.1, p.2) (text_err c.args.bytes.now c.args.end c.args.at c.in_err-string.field-0.0 (sym c.in_err-string.ensures.exact))

pub returns-clause-exact : goal.returns-clause-exact
returns-clause-exact c =
    text_ok c.args.bytes.now c.args.end c.args.at (content_of c.in_ok-string.string) c.in_ok-string.string.end (sym c.in_ok-string.ensures.exact)
    ∙ sym (ap (λ z. ok z c.in_ok-string.string.end) c.in_ok-text.ensures.ok)
