use Rattle.std.proofs.Common.{arith, length}
use Rattle.jfr_base.proofs.Ends.{ends_by, ends_past}
use Rattle.jfr_base.proofs.integer.var_within.Goals as goal

pub returns-then-var-end-clause-exact : goal.returns-then-var-end-clause-exact
returns-then-var-end-clause-exact c = (
  ends_past c.args.bytes.now c.args.at c.args.end (length c.args.bytes.now) c.read_groups-var.result c.requires.order c.requires.within (omega arith)
      (omega arith) c.read_groups-var.ensures.exact c.if-var-end.true,
  c.short.ensures,
)

pub returns-clause-exact : goal.returns-clause-exact
returns-clause-exact c =
    ends_by c.args.bytes.now c.args.at c.args.end (length c.args.bytes.now) c.read_groups-var.result c.requires.order c.requires.within (omega arith) (omega arith) c.read_groups-var.ensures.exact
    (omega (arith, c.if-var-end.false))
