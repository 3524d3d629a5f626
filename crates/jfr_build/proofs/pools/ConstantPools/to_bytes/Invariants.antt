use Rattle.std.proofs.Common.{◌≡◌, ◌++◌, drop}
use Rattle.std.specs.List.{flat_map}
use Rattle.jfr_build.specs.Pooled.{pool_bytes, pools_bytes}
use Rattle.jfr_build.proofs.pools.ConstantPools.to_bytes.Given as goal

abbrev pub invariant-loop-class : goal.invariant-loop-class
invariant-loop-class l = pools_bytes l.self ≡ l.bytes.items ++ flat_map (pool_bytes l.self) (drop l.class-index l.self.classes.items)
