use Rattle.jfr_verify.proofs.ClosedLaws.{InEntries}
use Rattle.jfr_verify.proofs.closed.check_entries.Given as goal

abbrev pub invariant-loop-number : goal.invariant-loop-number
invariant-loop-number l = InEntries l.chunk l.number l.initial.check l.check
