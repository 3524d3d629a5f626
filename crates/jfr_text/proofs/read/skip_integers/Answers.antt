use Rattle.std.proofs.Common.{◌-◌, arith, ◌∙◌}
use Rattle.jfr_text.proofs.IntegerSteps.{short_passed}
use Rattle.jfr_text.proofs.read.skip_integers.Goals as goal

pub returns-clause-exact : goal.returns-clause-exact
returns-clause-exact c =
    let from = c.skip_short_integers-from in
    c.skip_each_integer.ensures.exact
    ∙ short_passed (from.result - c.args.at) c.args.count c.args.bytes.now c.args.at from.result c.args.end (omega (arith, from.ensures.range)) (omega (arith, from.ensures.range))
    (omega (arith, from.ensures.range)) c.requires.within from.ensures.short
