use Rattle.jfr_verify.proofs.EventLaws.{InSame}
use Rattle.jfr_verify.proofs.events.same_events.Given as goal

abbrev pub invariant-loop-number : goal.invariant-loop-number
invariant-loop-number l = InSame l.a l.b l.kept l.number l.at
