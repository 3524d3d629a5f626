use Rattle.jfr_layout.proofs.Depth.{Round}
use Rattle.jfr_layout.proofs.inline.round.Given as goal

abbrev pub invariant-loop-at : goal.invariant-loop-at
invariant-loop-at l = Round l.classes l.goes l.at l.next.items
