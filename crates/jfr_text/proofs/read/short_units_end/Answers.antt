use Rattle.jfr_text.specs.Strings.{Units}
use Rattle.jfr_text.proofs.AnswerLaws.{computed}
use Rattle.std.proofs.Common.{◌≡◌, ◌+◌, ◌<◌, slice_index, arith}
use Rattle.jfr_text.proofs.ShortUnits.{short_units}
use Rattle.jfr_text.proofs.read.short_units_end.Goals as goal

pub returns-then-are_short-clause-units : goal.returns-then-are_short-clause-units
returns-then-are_short-clause-units c =
    let x = c.args.bytes.now in
    let at = c.args.at in
    let kind : slice_index x at ≡ 4 = omega arith in
    let small : slice_index x (at + 1) < 128 = omega arith in
    short_units x at c.args.end c.requires.within kind small (omega arith) (c.are_short.ensures.0 c.if-are_short.true)

pub returns-then-are_short-clause-spelled : goal.returns-then-are_short-clause-spelled
returns-then-are_short-clause-spelled c =
    let u = returns-then-are_short-clause-units c in
    (u.0, computed c.args.bytes.now c.args.end c.args.at c.requires.order c.requires.within (Units u.0) _ u.1)
