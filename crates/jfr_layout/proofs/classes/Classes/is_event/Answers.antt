use Rattle.std.proofs.Common.{◌∙◌}
use Rattle.jfr_layout.proofs.Events.{event_found}
use Rattle.jfr_layout.proofs.classes.Classes.is_event.Goals as goal

pub returns : goal.returns
returns c = c.is_some.ensures ∙ event_found c.args.self.now c.args.id c.event_layout.result c.event_layout.ensures
