use Rattle.std.proofs.Common.{◌<◌, length, rules}
use Rattle.std.proofs.lemmas.Option.{slice_get-get_or}
use Rattle.std.proofs.Math.ListN.{get_or}
use Rattle.jfr_mask.proofs.SlotLaws.{slotted_all, slotted_next}
use Rattle.jfr_mask.specs.declared.slots.Slot.{Slot}
use Rattle.jfr_mask.proofs.slots.Slots.put_all.Goals as goal

abbrev none : Slot
none = record { tag = 0; number = 0 }

pub loop-slot-preserved-then-slot-eq0 : goal.loop-slot-preserved-then-slot-eq0
loop-slot-preserved-then-slot-eq0 c =
    let slots = c.loop-slot.self.slots.items in
    let inside : c.loop-slot.slot-index < length c.args.slots.now = search rules in
    slotted_next c.args.slots.now slots slots c.loop-slot.slot-index (get_or c.args.slots.now c.loop-slot.slot-index none) c.loop-slot.invariant (λ tag number some h. h)
    (slice_get-get_or c.args.slots.now c.loop-slot.slot-index none inside) (λ some. absurd (some c.if-slot-eq0.true))

pub loop-slot-preserved : goal.loop-slot-preserved
loop-slot-preserved c =
    let inside : c.loop-slot.slot-index < length c.args.slots.now = search rules in
    slotted_next c.args.slots.now c.loop-slot.self.slots.items c.put_slot.new.self.slots.items c.loop-slot.slot-index (get_or c.args.slots.now c.loop-slot.slot-index none) c.loop-slot.invariant
    c.put_slot.ensures.kept (slice_get-get_or c.args.slots.now c.loop-slot.slot-index none inside) (λ some. c.put_slot.ensures.put (search rules))

pub returns : goal.returns
returns c = λ t. slotted_all c.args.slots.now c.loop-slot.self.slots.items c.loop-slot.slot-index (search rules) c.loop-slot.invariant
