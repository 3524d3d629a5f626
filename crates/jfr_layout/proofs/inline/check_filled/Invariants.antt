use Rattle.jfr_layout.proofs.Filled.{ClassesFilled}
use Rattle.jfr_layout.proofs.inline.check_filled.Given as goal

abbrev pub invariant-loop-at : goal.invariant-loop-at
invariant-loop-at l = ClassesFilled l.classes l.at
