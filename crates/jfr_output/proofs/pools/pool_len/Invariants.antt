use Rattle.std.proofs.Common.{◌≡◌, ◌+◌, drop}
use Rattle.jfr_output.specs.Pools.{leading}
use Rattle.jfr_output.proofs.pools.pool_len.Given as goal

abbrev pub invariant-loop-number : goal.invariant-loop-number
invariant-loop-number l = leading l.first l.entries ≡ l.number + leading l.first (drop l.number l.entries)
