use Rattle.std.proofs.Common.{◌≡◌, ◌≤◌, ◌+◌, length}
use Rattle.jfr_chunk.specs.Written.{by_pool}
use Rattle.jfr_rewrite.proofs.checkpoints.pool_count.Given as goal

abbrev pub invariant-pools : goal.invariant-pools
invariant-pools l = (l.count + length (by_pool l.rest) ≡ length (by_pool l.entries)) × (l.count + length l.rest ≤ length l.entries)

abbrev pub decreases-pools : goal.decreases-pools
decreases-pools l = length l.rest
