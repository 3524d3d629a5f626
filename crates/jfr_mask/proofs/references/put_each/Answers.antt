use Rattle.std.proofs.Common.{arith, drop}
use Rattle.jfr_mask.proofs.PuttingRest.{rests_size}
use Rattle.jfr_mask.proofs.references.put_each.Goals as goal

pub put-requires : goal.put-requires
put-requires c =
    let size = rests_size c.args.numbers.now (drop c.loop-number.number-index c.args.numbers.now) c.args.list.now c.loop-number.list c.loop-number.invariant in
    omega (arith, size, c.requires c.loop-number.number-index 0 c.loop-number-test.true)
