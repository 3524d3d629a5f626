use Rattle.jfr_verify.specs.Confirmed.{ConfirmsEntries}
use Rattle.jfr_verify.proofs.confirm.confirm_entries.Given as goal

abbrev pub invariant-loop-number : goal.invariant-loop-number
invariant-loop-number l = ConfirmsEntries l.chunk l.number l.initial.claims l.claims
