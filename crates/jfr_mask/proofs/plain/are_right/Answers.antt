use Rattle.std.proofs.Common.{arith}
use Rattle.std.proofs.lemmas.Option.{slice_get_within}
use Rattle.jfr_mask.specs.Plain.{IsRightAt}
use Rattle.jfr_mask.proofs.PlainLaws.{below_next}
use Rattle.jfr_mask.proofs.plain.are_right.Goals as goal

pub loop-index-preserved : goal.loop-index-preserved
loop-index-preserved c =
    below_next (IsRightAt c.args.masked.now c.args.classes.now c.args.flags.now) c.loop-index.index c.loop-index.invariant (c.is_right_at.ensures c.if-not-is_right_at.false)

pub returns : goal.returns
returns c = λ t i p d e.
    c.loop-index.invariant i (let w = slice_get_within c.args.classes.now i d e in omega (arith, w, c.loop-index-test.false, c.len-index-end.ensures.exact)) p d e
