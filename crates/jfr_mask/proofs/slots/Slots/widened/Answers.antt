use Rattle.std.proofs.Common.{refl, subst}
use Rattle.jfr_mask.specs.Slotted.{AreSlotted}
use Rattle.jfr_mask.proofs.SlotLaws.{all_kept}
use Rattle.jfr_mask.proofs.slots.Slots.widened.Goals as goal

pub returns-then-put_all : goal.returns-then-put_all
returns-then-put_all c =
    let slots = c.put_all.new.self.slots.items in
    record { kept = all_kept c.args.self.now.slots.items slots (subst (λ z. AreSlotted z slots) c.as_slice.ensures.value (c.if-put_all.ensures refl)) }
