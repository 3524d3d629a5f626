use Rattle.jfr_base.proofs.Writing.{Writing}
use Rattle.jfr_base.proofs.integer.write_var.Given as goal

abbrev pub invariant-loop-i : goal.invariant-loop-i
invariant-loop-i l = Writing l.fn.value l.i l.rest l.into
