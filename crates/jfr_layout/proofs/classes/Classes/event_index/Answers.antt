use Rattle.jfr_layout.proofs.Events.{indices_at}
use Rattle.jfr_layout.proofs.classes.Classes.event_index.Goals as goal

pub returns-in-Some : goal.returns-in-Some
returns-in-Some c =
    let found = rw c.deref.ensures.value at c.in-Some.ensures.lookup in
    rw (← c.self.view_is) (indices_at c.self.inside.resolved c.self.inside.events.items c.args.id c.in-Some.index.now c.self.invariant.1 found.3.0 found.1)
