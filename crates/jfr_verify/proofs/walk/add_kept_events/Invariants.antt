use Rattle.jfr_verify.proofs.KeptWalkLaws.{InKept}
use Rattle.jfr_verify.proofs.walk.add_kept_events.Given as goal

abbrev pub invariant-loop-number : goal.invariant-loop-number
invariant-loop-number l = InKept l.chunk l.kept l.number l.rank l.lines.flags.items l.lines.items.items
