use Rattle.std.proofs.Common.{Err, ap, arith, ◌∙◌}
use Rattle.jfr_value.proofs.SkipLaws.{by_end, past_end}
use Rattle.jfr_value.proofs.integers.integer_end.Goals as goal

pub returns-then-to-end-clause-exact : goal.returns-then-to-end-clause-exact
returns-then-to-end-clause-exact c =
    ap (λ flaw. Err flaw) c.short.ensures ∙ past_end c.args.bytes.now c.args.at c.args.end c.groups_end-to.result c.requires.order c.requires.within c.groups_end-to.ensures.exact c.if-to-end.true

pub returns-clause-exact : goal.returns-clause-exact
returns-clause-exact c = by_end c.args.bytes.now c.args.at c.args.end c.groups_end-to.result c.requires.order c.requires.within c.groups_end-to.ensures.exact (omega arith)
