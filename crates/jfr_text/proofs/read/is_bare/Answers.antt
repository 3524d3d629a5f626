use Rattle.jfr_text.proofs.AnswerLaws.{computed}
use Rattle.std.specs.Prelude.{◌+◌}
use Rattle.std.proofs.lemmas.Bool.{ltb-true}
use Rattle.jfr_text.proofs.ReadSteps.{bare_there}
use Rattle.jfr_text.proofs.read.is_bare.Goals as goal

pub returns-then-at-end-clause-bare : goal.returns-then-at-end-clause-bare
returns-then-at-end-clause-bare c = λ is. bare_there c.args.bytes.now c.args.end c.args.at c.if-at-end.true (ltb-true _ 2 is)

pub returns-then-at-end-clause-spelled : goal.returns-then-at-end-clause-spelled
returns-then-at-end-clause-spelled c = λ is. computed c.args.bytes.now c.args.end c.args.at c.requires.order c.requires.within _ (c.args.at + 1) (returns-then-at-end-clause-bare c is)
