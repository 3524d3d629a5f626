use Rattle.std.proofs.Common.{arith, ◌∙◌}
use Rattle.std.specs.Prelude.{◌+◌}
use Rattle.jfr_text.specs.Strings.{Key}
use Rattle.jfr_text.proofs.AnswerLaws.{computed, key_computed}
use Rattle.std.proofs.lemmas.Bool.{eqb-true}
use Rattle.jfr_text.proofs.ReadSteps.{key_there}
use Rattle.jfr_text.proofs.read.is_key.Goals as goal

pub returns-then-at-end-clause-key : goal.returns-then-at-end-clause-key
returns-then-at-end-clause-key c = λ is. key_there c.args.bytes.now c.args.end c.args.at c.if-at-end.true (eqb-true _ 2 is)

pub returns-then-at-end-clause-spelled : goal.returns-then-at-end-clause-spelled
returns-then-at-end-clause-spelled c = λ is to key holds within.
    let k = key_computed c.args.bytes.now c.args.end (c.args.at + 1) to key (omega (arith, c.if-at-end.true)) c.requires.within holds within in
    computed c.args.bytes.now c.args.end c.args.at c.requires.order c.requires.within (Key key) to (returns-then-at-end-clause-key c is ∙ k)
