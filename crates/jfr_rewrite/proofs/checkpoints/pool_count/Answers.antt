use Rattle.std.proofs.Common.{arith, sym}
use Rattle.jfr_output.proofs.PoolLaws.{rest_smaller}
use Rattle.jfr_rewrite.proofs.CheckpointWriting.{counted}
use Rattle.jfr_rewrite.proofs.checkpoints.pool_count.Goals as goal

pub pools-preserved : goal.pools-preserved
pools-preserved c =
    let g = sym c.in-Some.ensures.value in
    let n = counted c.pools.rest.now c.split_at.result.1.now c.in-Some.first.now c.pool_len.result g c.pool_len.ensures.exact c.split_at.ensures.back in
    let m = rest_smaller c.pools.rest.now c.split_at.result.1.now c.in-Some.first.now c.pool_len.result g c.pool_len.ensures.exact c.split_at.ensures.back in
    (omega (arith, n, c.pools.invariant.0), omega (arith, m, c.pools.invariant.1))
