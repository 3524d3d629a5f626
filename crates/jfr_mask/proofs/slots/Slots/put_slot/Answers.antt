use Rattle.std.proofs.Common.{◌≡◌, ◌+◌, ◌<◌, length, rules, subst, vec_len}
use Rattle.jfr_mask.proofs.SlotLaws.{slot_put, slots_kept, spot_within}
use Rattle.jfr_mask.proofs.slots.Slots.put_slot.Goals as goal

pub returns-clause-kept : goal.returns-clause-kept
returns-clause-kept c = slots_kept c.args.self.now.slots.items c.window.result.now c.args.slot c.first_slot-first.result c.in-Some.step c.window.ensures (search rules) c.in-Some.ensures

pub returns-clause-put : goal.returns-clause-put
returns-clause-put c = λ t. slot_put c.args.self.now.slots.items c.window.result.now c.args.slot c.first_slot-first.result c.in-Some.step c.window.ensures (search rules) c.in-Some.ensures

pub index_mut-requires : goal.index_mut-requires
index_mut-requires c =
    let len : length c.args.self.now.slots.items ≡ vec_len c.args.self.now.slots = search rules in
    subst (λ n. c.first_slot-first.result + c.in-Some.step < n) len
    (spot_within c.args.self.now.slots.items c.window.result.now c.args.slot c.first_slot-first.result c.in-Some.step c.window.ensures (search rules) c.in-Some.ensures)
