use Rattle.jfr_reach.proofs.EventWalk.{EventsLeft}
use Rattle.jfr_reach.proofs.roots.put_events.Given as goal

abbrev pub invariant-loop-number : goal.invariant-loop-number
invariant-loop-number g l = EventsLeft l.chunk l.kept l.initial.list.flags.items l.initial.list.order.items l.initial.steps l.list.flags.items l.list.order.items l.number l.steps
