use Rattle.jfr_base.proofs.Writing.{Filling}
use Rattle.jfr_base.proofs.integer.write_in.Given as goal

abbrev pub invariant-loop-i : goal.invariant-loop-i
invariant-loop-i l = Filling l.fn.value l.fn.count l.i l.rest l.into
