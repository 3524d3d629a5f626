use Rattle.std.proofs.lemmas.Result.{err_from_is_err_and}
use Rattle.jfr_value.proofs.EndLaws.{text_seen}
use Rattle.jfr_value.proofs.extent.string_end.Goals as goal

pub returns-clause-exact : goal.returns-clause-exact
returns-clause-exact c = text_seen c.args.bytes.now c.args.end c.args.at _ c.in_ok-read_string.ensures.exact

pub returns-in_err-read_string-clause-exact : goal.returns-in_err-read_string-clause-exact
returns-in_err-read_string-clause-exact c =
    let p = err_from_is_err_and c.from_residual.result c.from_residual.ensures.1 in
    rw (p.1, p.2) (text_seen c.args.bytes.now c.args.end c.args.at _ c.in_err-read_string.ensures.exact)
