use Rattle.std.proofs.Common.{length, ◌-◌}
use Rattle.jfr_reach.proofs.EntryWalk.{Going}
use Rattle.jfr_reach.proofs.walk.put_reached.Given as goal

abbrev pub invariant-loop-next : goal.invariant-loop-next
invariant-loop-next g l = Going l.chunk l.kept l.fn.steps l.list.flags.items l.list.order.items l.next l.steps

abbrev pub decreases-loop-next : goal.decreases-loop-next
decreases-loop-next g l = length l.chunk.entries - l.next
