use Rattle.std.proofs.Common.{◌≡◌, ◌++◌}
use Rattle.std.specs.Prelude.{drop}
use Rattle.jfr_chunk.specs.Reach.{marked}
use Rattle.jfr_mask.proofs.left.marked_entries.Given as goal

-- Those so far and the rest are all.
abbrev pub invariant-loop-number : goal.invariant-loop-number
invariant-loop-number l = l.entries.items ++ marked (drop l.number l.list.flags.items) (drop l.number l.pools) ≡ marked l.list.flags.items l.pools
