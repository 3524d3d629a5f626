use Rattle.std.proofs.Common.{sym, arith}
use Rattle.std.proofs.lemmas.Result.{err_from_is_err_and}
use Rattle.jfr_meta.specs.Body.{pair}
use Rattle.jfr_meta.proofs.Runs.{pair_ok, pair_no_key, pair_no_value, reading_next, reading_err, reading_end}
use Rattle.jfr_meta.proofs.body.read_pairs.Goals as goal

pub returns-in_err-key-clause-exact : goal.returns-in_err-key-clause-exact
returns-in_err-key-clause-exact c =
    let p = err_from_is_err_and c.from_residual-in_err-key.result c.from_residual-in_err-key.ensures.1 in
    let l = c.loop in
    rw (p.1, p.2) (reading_err (pair c.args.reader.strings) c.args.reader.bytes.now c.args.reader.end c.args.at c.args.count l.counter l.place l.pairs c.in_err-key.field-0.0 l.invariant
    c.loop-test.true
    (pair_no_key c.args.reader.strings c.args.reader.bytes.now c.args.reader.end l.place c.in_err-key.field-0.0 (sym c.in_err-key.ensures.exact)))

pub returns-in_err-value-clause-exact : goal.returns-in_err-value-clause-exact
returns-in_err-value-clause-exact c =
    let p = err_from_is_err_and c.from_residual-in_err-value.result c.from_residual-in_err-value.ensures.1 in
    let l = c.loop in
    rw (p.1, p.2) (reading_err (pair c.args.reader.strings) c.args.reader.bytes.now c.args.reader.end c.args.at c.args.count l.counter l.place l.pairs c.in_err-value.field-0.0 l.invariant
    c.loop-test.true
    (pair_no_value c.args.reader.strings c.args.reader.bytes.now c.args.reader.end l.place c.in_ok-key.key.value c.in_ok-key.key.end c.in_err-value.field-0.0 (sym c.in_ok-key.ensures.exact)
    (sym c.in_err-value.ensures.exact)))

pub loop-preserved : goal.loop-preserved
loop-preserved c =
    let l = c.loop in
    rw c.in_ok-push.ensures.ok (reading_next (pair c.args.reader.strings) c.args.reader.bytes.now c.args.reader.end c.args.at c.args.count l.counter l.place l.pairs
    (c.in_ok-key.key.value, c.in_ok-value.value.value) c.in_ok-value.value.end l.invariant c.loop-test.true
    (pair_ok c.args.reader.strings c.args.reader.bytes.now c.args.reader.end l.place c.in_ok-key.key.value c.in_ok-key.key.end c.in_ok-value.value.value c.in_ok-value.value.end
    (sym c.in_ok-key.ensures.exact) (sym c.in_ok-value.ensures.exact))
    (omega (arith, c.in_ok-key.ensures.range, c.in_ok-value.ensures.range)) (omega (arith, c.in_ok-value.ensures.range)))

pub returns-clause-exact : goal.returns-clause-exact
returns-clause-exact c = reading_end (pair c.args.reader.strings) c.args.reader.bytes.now c.args.reader.end c.args.at c.args.count c.loop.counter c.loop.place c.loop.pairs c.loop.invariant
    c.loop-test.false
