use Rattle.std.proofs.Common.{Err, ap, sym, ◌∙◌, arith}
use Rattle.jfr_text.proofs.AnswerLaws.{reads, fails, spells, ranges}
use Rattle.jfr_text.proofs.ReadSteps.{kind_missing, kind_there}
use Rattle.jfr_text.proofs.read.read_string.Goals as goal

missing : goal.returns-then-at-end-clause-exact
missing c = ap (λ flaw. Err flaw) c.short.ensures ∙ sym (kind_missing c.args.bytes.now c.args.end c.args.at (omega arith))

there : goal.returns-clause-exact
there c = c.read_kind.ensures.exact ∙ sym (kind_there c.args.bytes.now c.args.end c.args.at (omega arith))

pub returns-then-at-end-clause-exact : goal.returns-then-at-end-clause-exact
returns-then-at-end-clause-exact c = missing c

pub returns-then-at-end-clause-refused : goal.returns-then-at-end-clause-refused
returns-then-at-end-clause-refused c = fails c.args.bytes.now c.args.end c.args.at c.requires.order c.requires.within (Err _) (missing c)

pub returns-clause-ok : goal.returns-clause-ok
returns-clause-ok c = reads c.args.bytes.now c.args.end c.args.at c.requires.order c.requires.within c.read_kind.result (there c)

pub returns-clause-spelled : goal.returns-clause-spelled
returns-clause-spelled c = spells c.args.bytes.now c.args.end c.args.at c.requires.order c.requires.within c.read_kind.result (there c)

pub returns-clause-range : goal.returns-clause-range
returns-clause-range c = ranges c.args.bytes.now c.args.end c.args.at c.requires.order c.requires.within c.read_kind.result (there c)

pub returns-clause-refused : goal.returns-clause-refused
returns-clause-refused c = fails c.args.bytes.now c.args.end c.args.at c.requires.order c.requires.within c.read_kind.result (there c)

pub returns-clause-exact : goal.returns-clause-exact
returns-clause-exact c = there c
