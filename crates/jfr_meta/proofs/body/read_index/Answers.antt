use Rattle.std.proofs.Common.{sym, arith}
use Rattle.std.proofs.lemmas.Result.{err_from_is_err_and}
use Rattle.jfr_meta.proofs.Runs.{index_ok, index_over, index_none}
use Rattle.jfr_meta.proofs.body.read_index.Goals as goal

pub returns-in_err-index-clause-exact : goal.returns-in_err-index-clause-exact
returns-in_err-index-clause-exact c =
    let p = err_from_is_err_and c.from_residual.result c.from_residual.ensures.1 in
    rw (p.1, p.2) (sym (index_none c.args.reader.strings c.args.reader.bytes.now c.args.reader.end c.args.at c.in_err-index.field-0.0 c.in_err-index.ensures.exact))

pub returns-then-index-reader-clause-exact : goal.returns-then-index-reader-clause-exact
returns-then-index-reader-clause-exact c = sym (index_ok c.args.reader.strings c.args.reader.bytes.now c.args.reader.end c.args.at c.in_ok-index.index c.in_ok-index.ensures.exact (omega arith))

pub returns-else-index-reader-clause-exact : goal.returns-else-index-reader-clause-exact
returns-else-index-reader-clause-exact c = sym (index_over c.args.reader.strings c.args.reader.bytes.now c.args.reader.end c.args.at c.in_ok-index.index c.in_ok-index.ensures.exact (omega arith))
