use Rattle.jfr_verify.specs.Confirmed.{ConfirmsEvents}
use Rattle.jfr_verify.proofs.confirm.confirm_events.Given as goal

abbrev pub invariant-loop-number : goal.invariant-loop-number
invariant-loop-number l = ConfirmsEvents l.chunk l.number l.initial.claims l.claims
