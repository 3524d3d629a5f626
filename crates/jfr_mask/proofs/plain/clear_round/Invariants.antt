use Rattle.std.proofs.Common.{◌≡◌, length}
use Rattle.jfr_mask.proofs.plain.clear_round.Given as goal

abbrev pub invariant-loop-index : goal.invariant-loop-index
invariant-loop-index l = length l.flags.items ≡ length l.fn.flags.items
