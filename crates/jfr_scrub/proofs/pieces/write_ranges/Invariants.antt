use Rattle.jfr_scrub.proofs.PieceLaws.{Writing}
use Rattle.jfr_scrub.proofs.pieces.write_ranges.Given as goal

abbrev pub invariant-loop-range : goal.invariant-loop-range
invariant-loop-range l = Writing l.chunk l.made l.ranges l.fn.out.items l.range-index l.out
