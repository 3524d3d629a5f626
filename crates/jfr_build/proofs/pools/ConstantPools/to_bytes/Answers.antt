use Rattle.jfr_build.proofs.PoolLaws.{pool_listed}
use Rattle.jfr_build.proofs.pools.ConstantPools.to_bytes.Goals as goal

pub push_pool-requires : goal.push_pool-requires
push_pool-requires c = pool_listed c.args.self.now c.deref-class-items.result.now c.loop-class.class-index c.deref-class-items.ensures.value c.requires c.loop-class-test.true
