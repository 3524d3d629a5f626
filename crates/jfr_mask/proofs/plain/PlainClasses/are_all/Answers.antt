use Rattle.std.proofs.Common.{arith, sym, ◌∙◌}
use Rattle.jfr_mask.specs.Plain.{IsPlain}
use Rattle.jfr_mask.proofs.PlainLaws.{below_next}
use Rattle.jfr_mask.proofs.plain.PlainClasses.are_all.Goals as goal

pub loop-index-preserved : goal.loop-index-preserved
loop-index-preserved c = below_next (IsPlain c.args.self.now.flags.items) c.loop-index.index c.loop-index.invariant (sym c.is_plain.ensures ∙ c.if-not-is_plain.false)

pub returns : goal.returns
returns c = λ t i l. c.loop-index.invariant i (omega (arith, l, c.loop-index-test.false, c.len-index-end.ensures.exact))
