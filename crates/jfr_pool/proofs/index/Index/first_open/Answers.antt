use Rattle.std.proofs.Common.{◌≡◌, sym, ap, ◌∙◌, arith}
use Rattle.std.proofs.lemmas.List.{get_or_read}
use Rattle.jfr_pool.specs.declared.index.Slot.{Slot}
use Rattle.jfr_pool.specs.Index.{held, is_open, slot_at}
use Rattle.jfr_pool.proofs.Seats.{seat_on}
use Rattle.jfr_pool.proofs.index.Index.first_open.Goals as goal

pub loop-place-preserved : goal.loop-place-preserved
loop-place-preserved c =
    let slots = c.args.self.now.slots in
    let slot : c.index.result.now ≡ slot_at slots.items c.loop-place.place = get_or_read slots.items c.loop-place.place c.index.result.now (omega (arith, slots.ok.0)) c.index.ensures _ in
    let closed = ap (λ (s : Slot). is_open (held s) (c.args.class, c.args.key)) (sym slot) ∙ sym c.is_open.ensures ∙ c.if-is_open.false in
    sym (seat_on slots.items (c.args.class, c.args.key) c.args.end c.loop-place.place c.loop-place-test.true closed) ∙ c.loop-place.invariant
