use Rattle.jfr_base.proofs.Writing.{Counting}
use Rattle.jfr_base.proofs.integer.var_len.Given as goal

abbrev pub invariant-loop-len : goal.invariant-loop-len
invariant-loop-len l = Counting l.fn.value l.len l.rest
