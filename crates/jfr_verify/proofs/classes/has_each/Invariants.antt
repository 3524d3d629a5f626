use Rattle.jfr_verify.proofs.ClassLaws.{HasUpTo}
use Rattle.jfr_verify.proofs.classes.has_each.Given as goal

abbrev pub invariant-loop-number : goal.invariant-loop-number
invariant-loop-number l = HasUpTo l.a.classes.now l.b.classes.now l.number
