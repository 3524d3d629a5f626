use Rattle.std.proofs.Common.{◌≡◌, ◌++◌, length}
use Rattle.std.specs.List.{AllByRecursion, flat_map}
use Rattle.jfr_chunk.specs.Written.{by_pool}
use Rattle.jfr_laws.specs.InChunk.{IsEntryIn}
use Rattle.jfr_rewrite.specs.Rewrite.{group_bytes}
use Rattle.jfr_rewrite.proofs.checkpoints.put_pools.Given as goal

abbrev pub invariant-pools : goal.invariant-pools
invariant-pools g l =
    AllByRecursion (IsEntryIn l.chunk.bytes l.chunk.classes) l.rest
    × (l.out.items ++ flat_map (group_bytes (g.R.Rewriter.rewrite l.rewriting) l.chunk) (by_pool l.rest) ≡ l.fn.out.items ++ flat_map (group_bytes (g.R.Rewriter.rewrite l.rewriting) l.chunk)
    (by_pool l.entries))

abbrev pub decreases-pools : goal.decreases-pools
decreases-pools g l = length l.rest
