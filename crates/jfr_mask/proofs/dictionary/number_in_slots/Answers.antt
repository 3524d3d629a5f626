use Rattle.std.proofs.Common.{◌≡◌, ◌<◌, ◌∙◌, false, length, rules, subst, sym, true}
use Rattle.std.proofs.Math.ListN.{get_or}
use Rattle.std.proofs.lemmas.Option.{slice_get-get_or}
use Rattle.std.specs.Str.{chars}
use Rattle.jfr_mask.specs.Held.{IsNumber}
use Rattle.jfr_mask.proofs.FindLaws.{lacks_all, lacks_empty, lacks_next}
use Rattle.jfr_mask.specs.declared.slots.Slot.{Slot}
use Rattle.jfr_mask.proofs.dictionary.number_in_slots.Goals as goal
use Rattle.jfr_mask.proofs.dictionary.number_in_slots.Goals.{then-slot-tag+else-has_number, else-slot-tag}

abbrev none : Slot
none = record { tag = 0; number = 0 }

pub returns-then-slot-eq0-clause-absent : goal.returns-then-slot-eq0-clause-absent
returns-then-slot-eq0-clause-absent c = λ r.
    (let shown = c.window-slot-items.result.now in
    let inside : c.loop-slot.slot-index < length shown = search rules in
    lacks_empty c.args.texts.now (chars c.args.text.now) c.args.slots.now.slots.items shown c.args.tag c.loop-slot.slot-index (get_or shown c.loop-slot.slot-index none)
    c.window-slot-items.ensures (slice_get-get_or shown c.loop-slot.slot-index none inside) c.if-slot-eq0.true c.loop-slot.invariant)

pub loop-slot-preserved : goal.loop-slot-preserved
loop-slot-preserved c =
    let shown = c.window-slot-items.result.now in
    let inside : c.loop-slot.slot-index < length shown = search rules in
    lacks_next c.args.texts.now (chars c.args.text.now) shown c.args.tag c.loop-slot.slot-index (get_or shown c.loop-slot.slot-index none) c.loop-slot.invariant
    (slice_get-get_or shown c.loop-slot.slot-index none inside) c.if-slot-eq0.false
    (elim c.if-slot-tag.branch [
      | then-slot-tag+else-has_number w ↦ λ t is. (let answer : w.has_number.result ≡ true = w.has_number.ensures.1 (subst (IsNumber c.args.texts.now (chars c.args.text.now)) (sym w.from-number.ensures) is) in
          let clash : false ≡ true = sym w.if-has_number.false ∙ answer in cc)
      | else-slot-tag w ↦ λ t is. w.if-slot-tag.false t
    ])

pub returns-clause-absent : goal.returns-clause-absent
returns-clause-absent c = λ r.
    lacks_all c.args.texts.now (chars c.args.text.now) c.args.slots.now.slots.items c.window-slot-items.result.now c.args.tag c.loop-slot.slot-index c.window-slot-items.ensures (search rules) c.loop-slot.invariant
