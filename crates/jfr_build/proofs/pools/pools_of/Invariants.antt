use Rattle.std.proofs.Common.{drop}
use Rattle.jfr_build.proofs.PoolLaws.{Pooled}
use Rattle.jfr_build.proofs.pools.pools_of.Given as goal

abbrev pub invariant-loop-line : goal.invariant-loop-line
invariant-loop-line l = Pooled l.classes l.lines (drop l.line-index l.lines) l.pools
