use Rattle.jfr_mask.proofs.SlotLaws.{SlottedTo}
use Rattle.jfr_mask.proofs.slots.Slots.put_all.Given as goal

abbrev pub invariant-loop-slot : goal.invariant-loop-slot
invariant-loop-slot l = SlottedTo l.slots l.self.slots.items l.slot-index
