use Rattle.std.proofs.Common.{arith}
use Rattle.jfr_mask.proofs.StringTexts.{next_added, next_in}
use Rattle.jfr_mask.proofs.numbering.Numbering.add_strings.Goals as goal

pub add_string_at-requires-clause-string : goal.add_string_at-requires-clause-string
add_string_at-requires-clause-string c =
    next_in c.args.self.now c.args.numbers.start c.args.numbers.end c.loop-number.number c.args.growing.now c.loop-number.growing c.loop-number.invariant (omega (arith, c.loop-number-test.true))

pub loop-number-preserved : goal.loop-number-preserved
loop-number-preserved c =
    next_added c.args.self.now c.args.numbers.start c.args.numbers.end c.loop-number.number c.args.growing.now c.loop-number.growing c.loop-number.invariant (omega (arith, c.loop-number-test.true))
    c.requires.within c.add_string_at.new.growing c.in_ok-add_string_at.ensures.noted c.in_ok-add_string_at.ensures.ok
