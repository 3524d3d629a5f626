use Rattle.std.proofs.Common.{length, ◌-◌}
use Rattle.jfr_verify.proofs.WalkLaws.{InLines}
use Rattle.jfr_verify.proofs.walk.add_entries.Given as goal

abbrev pub invariant-loop-next : goal.invariant-loop-next
invariant-loop-next l = InLines l.chunk l.initial.lines.flags.items l.initial.lines.items.items l.lines.flags.items l.lines.items.items l.next

abbrev pub decreases-loop-next : goal.decreases-loop-next
decreases-loop-next l = length l.chunk.entries - l.next
