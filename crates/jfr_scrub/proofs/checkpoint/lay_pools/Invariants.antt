use Rattle.std.proofs.Common.{length}
use Rattle.std.specs.List.{flat_map}
use Rattle.jfr_chunk.specs.Written.{by_pool}
use Rattle.jfr_scrub.specs.Bodies.{pool_parts}
use Rattle.jfr_scrub.specs.Pieces.{EntryIsCopied, output_so_far}
use Rattle.jfr_scrub.proofs.CheckpointLaws.{LayingPools}
use Rattle.jfr_scrub.proofs.CopiedLaws.{MakingParts, SoFar}
use Rattle.jfr_scrub.proofs.checkpoint.lay_pools.Given as goal

abbrev pub invariant-pools : goal.invariant-pools
invariant-pools l = record {
  pools : LayingPools (output_so_far l.fn.output) (output_so_far l.output) l.entries l.rest;
  copied : SoFar EntryIsCopied l.output.pieces l.rest l.entries;
  made : MakingParts l.fn.output.pieces l.output.pieces (flat_map pool_parts (by_pool l.rest)) (flat_map pool_parts (by_pool l.entries));
}

abbrev pub decreases-pools : goal.decreases-pools
decreases-pools l = length l.rest
