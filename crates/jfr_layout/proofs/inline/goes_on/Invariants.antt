use Rattle.jfr_layout.proofs.Depth.{NoneGoes}
use Rattle.jfr_layout.proofs.inline.goes_on.Given as goal

abbrev pub invariant-loop-number : goal.invariant-loop-number
invariant-loop-number l = NoneGoes l.classes l.class l.goes l.number
