use Rattle.std.proofs.Common.{◌≡◌, sym, ap, ◌∙◌, arith}
use Rattle.std.proofs.lemmas.List.{get_or_read}
use Rattle.jfr_pool.specs.Index.{number_in, number_at, slot_at}
use Rattle.jfr_pool.proofs.Seats.{seat_none, seat_past}
use Rattle.jfr_pool.proofs.index.Index.number_beyond_home.Goals as goal

pub returns-then-class-ge-CLASSES : goal.returns-then-class-ge-CLASSES
returns-then-class-ge-CLASSES c =
    c.other_number.ensures ∙ sym (ap (number_at c.args.self.now (c.args.class, c.args.key)) (seat_none c.args.self.now.slots.items (c.args.class, c.args.key) c.if-class-ge-CLASSES.true))

pub returns-in-Some : goal.returns-in-Some
returns-in-Some c =
    let slots = c.args.self.now.slots in
    let slot : c.index.result.now ≡ slot_at slots.items c.in-Some.place =
    get_or_read slots.items c.in-Some.place c.index.result.now (omega (arith, slots.ok.0, c.in-Some.ensures.within)) c.index.ensures _ in
    let past = seat_past slots.items (c.args.class, c.args.key) c.args.place c.if-class-ge-CLASSES.false c.requires.home (c.requires.closed c.if-class-ge-CLASSES.false) in
    c.number.ensures ∙ ap number_in slot ∙ ap (number_at c.args.self.now (c.args.class, c.args.key)) (c.in-Some.ensures.exact ∙ past)

pub returns-in-None : goal.returns-in-None
returns-in-None c =
    let past = seat_past c.args.self.now.slots.items (c.args.class, c.args.key) c.args.place c.if-class-ge-CLASSES.false c.requires.home (c.requires.closed c.if-class-ge-CLASSES.false) in
    c.other_number-in-None.ensures ∙ ap (number_at c.args.self.now (c.args.class, c.args.key)) (c.in-None.ensures.exact ∙ past)
