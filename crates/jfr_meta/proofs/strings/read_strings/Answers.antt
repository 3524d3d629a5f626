use Rattle.std.proofs.Common.{arith}
use Rattle.std.proofs.lemmas.Result.{err_from_is_err_and}
use Rattle.jfr_base.specs.Formats.{run, times}
use Rattle.jfr_meta.specs.Body.{table_string}
use Rattle.jfr_meta.proofs.Runs.{reading_start, reading_next, reading_err, reading_end}
use Rattle.jfr_meta.proofs.Parts.{carried}
use Rattle.jfr_meta.proofs.strings.read_strings.Goals as goal

pub loop-init : goal.loop-init
loop-init c = rw c.in_ok-strings.ensures.ok (reading_start table_string c.args.bytes.now c.args.end c.args.at c.args.count c.requires.order)

pub returns-in_err-text-clause-exact : goal.returns-in_err-text-clause-exact
returns-in_err-text-clause-exact c =
    let p = err_from_is_err_and c.from_residual-in_err-text.result c.from_residual-in_err-text.ensures.1 in
    rw (p.1, p.2) (carried (run table_string c.args.bytes.now c.args.end c.loop.place) (run (times c.args.count table_string) c.args.bytes.now c.args.end c.args.at) c.in_err-text.field-0.0
    c.in_err-text.ensures.exact
    (λ w e. reading_err table_string c.args.bytes.now c.args.end c.args.at c.args.count c.loop.counter c.loop.place c.loop.strings w c.loop.invariant c.loop-test.true e))

pub loop-preserved : goal.loop-preserved
loop-preserved c =
    rw c.in_ok-push_text.ensures.ok (reading_next table_string c.args.bytes.now c.args.end c.args.at c.args.count c.loop.counter c.loop.place c.loop.strings c.in_ok-text.text c.in_ok-text.next
    c.loop.invariant c.loop-test.true c.in_ok-text.ensures.exact
    (omega (arith, c.in_ok-text.ensures.range)) (omega (arith, c.in_ok-text.ensures.range)))

pub returns-clause-exact : goal.returns-clause-exact
returns-clause-exact c = reading_end table_string c.args.bytes.now c.args.end c.args.at c.args.count c.loop.counter c.loop.place c.loop.strings c.loop.invariant c.loop-test.false
