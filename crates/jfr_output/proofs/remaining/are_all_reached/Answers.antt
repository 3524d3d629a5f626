use Rattle.std.proofs.Common.{arith, sym, ◌∙◌}
use Rattle.jfr_output.proofs.RemainingLaws.{whole_next, whole_all}
use Rattle.jfr_output.proofs.remaining.are_all_reached.Goals as goal

pub loop-at-preserved : goal.loop-at-preserved
loop-at-preserved c = whole_next c.args.marks.now c.args.pools.now c.loop-at.at (omega arith) c.requires (sym c.is_reached.ensures ∙ c.if-not-is_reached.false) c.loop-at.invariant

pub returns : goal.returns
returns c = λ t. whole_all c.args.marks.now c.args.pools.now c.loop-at.at (omega arith) c.requires c.loop-at.invariant
