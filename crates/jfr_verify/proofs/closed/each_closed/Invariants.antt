use Rattle.std.proofs.Common.{◌≡◌, true}
use Rattle.jfr_chunk.specs.Reach.{roots}
use Rattle.jfr_verify.specs.Closed.{are_marked}
use Rattle.jfr_verify.proofs.ClosedLaws.{first_kept}
use Rattle.jfr_verify.proofs.closed.each_closed.Given as goal

abbrev pub invariant-loop-number : goal.invariant-loop-number
invariant-loop-number l = are_marked l.marks (roots l.chunk (first_kept l.chunk l.kept l.number)) ≡ true
