use Rattle.jfr_layout.proofs.Depth.{Shallow}
use Rattle.jfr_layout.proofs.inline.check_depth.Given as goal

abbrev pub invariant-loop-at : goal.invariant-loop-at
invariant-loop-at l = Shallow l.classes l.at
