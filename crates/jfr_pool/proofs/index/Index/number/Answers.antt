use Rattle.std.proofs.Common.{◌≡◌, sym, ◌∙◌, arith}
use Rattle.std.proofs.lemmas.List.{get_or_read}
use Rattle.jfr_pool.specs.Index.{slot_at}
use Rattle.jfr_pool.proofs.Seats.{number_home, number_none}
use Rattle.jfr_pool.proofs.index.Index.number.Goals as goal

pub returns-then-is_of : goal.returns-then-is_of
returns-then-is_of c =
    let slots = c.args.self.now.slots in
    let slot : c.index.result.now ≡ slot_at slots.items c.home-home.result =
    get_or_read slots.items c.home-home.result c.index.result.now (omega (arith, slots.ok.0, c.home-home.ensures.within)) c.index.ensures _ in
    c.number.ensures ∙ sym (number_home c.args.self.now (c.args.class, c.args.key) c.home-home.result c.index.result.now (c.is_of.ensures.within c.if-is_of.true) c.home-home.ensures.exact slot
    (sym c.is_of.ensures.exact ∙ c.if-is_of.true))

pub returns-then-class-lt-CLASSES : goal.returns-then-class-lt-CLASSES
returns-then-class-lt-CLASSES c =
    let slots = c.args.self.now.slots in
    let slot : c.index.result.now ≡ slot_at slots.items c.home-home.result =
    get_or_read slots.items c.home-home.result c.index.result.now (omega (arith, slots.ok.0, c.home-home.ensures.within)) c.index.ensures _ in
    sym (number_none c.args.self.now (c.args.class, c.args.key) c.home-home.result c.index.result.now c.if-class-lt-CLASSES.true c.home-home.ensures.exact slot c.if-slot-eq0.true)
