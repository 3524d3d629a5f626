use Rattle.jfr_verify.proofs.StringLaws.{FirstsUpTo}
use Rattle.jfr_verify.proofs.strings.first_indices.Given as goal

abbrev pub invariant-loop-index : goal.invariant-loop-index
invariant-loop-index l = FirstsUpTo l.strings l.index l.firsts
