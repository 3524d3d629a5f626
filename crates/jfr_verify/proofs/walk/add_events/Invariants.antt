use Rattle.jfr_verify.proofs.WalkLaws.{InEvents}
use Rattle.jfr_verify.proofs.walk.add_events.Given as goal

abbrev pub invariant-loop-number : goal.invariant-loop-number
invariant-loop-number l = InEvents l.chunk l.number l.lines.flags.items l.lines.items.items
