use Rattle.jfr_layout.proofs.Filled.{FieldsFilled}
use Rattle.jfr_layout.proofs.inline.check_filled_class.Given as goal

abbrev pub invariant-loop-number : goal.invariant-loop-number
invariant-loop-number l = FieldsFilled l.classes l.class l.number
