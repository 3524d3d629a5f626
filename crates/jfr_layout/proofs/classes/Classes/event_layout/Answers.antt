use Rattle.std.proofs.Common.{ap, ◌∙◌}
use Rattle.jfr_layout.specs.declared.kind.Kind.TheVariants.{Composite}
use Rattle.jfr_layout.specs.Classes.{layout_with}
use Rattle.jfr_layout.proofs.Events.{event_layout, not_event}
use Rattle.jfr_layout.proofs.classes.Classes.event_layout.Goals as goal

pub returns-in_err-index : goal.returns-in_err-index
returns-in_err-index c = rw c.from_residual.ensures (not_event c.args.self.now c.args.id c.in_err-index.ensures)

pub returns : goal.returns
returns c = event_layout c.args.self.now c.args.id c.in_ok-index.index c.new.result c.in_ok-index.ensures (c.new.ensures ∙ ap (λ s. layout_with s c.in_ok-index.index Composite) c.inline.ensures)
