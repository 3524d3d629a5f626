use Rattle.std.proofs.Common.{sym, ◌∙◌}
use Rattle.jfr_pool.proofs.Seats.{seat_none, seat_start}
use Rattle.jfr_pool.proofs.index.Index.open_slot.Goals as goal

pub returns-then-class-ge-CLASSES-clause-exact : goal.returns-then-class-ge-CLASSES-clause-exact
returns-then-class-ge-CLASSES-clause-exact c = sym (seat_none c.args.self.now.slots.items (c.args.class, c.args.key) c.if-class-ge-CLASSES.true)

pub returns-clause-exact : goal.returns-clause-exact
returns-clause-exact c = c.first_open.ensures.exact ∙ seat_start c.args.self.now.slots.items (c.args.class, c.args.key) c.home-home.result c.if-class-ge-CLASSES.false c.home-home.ensures.exact
