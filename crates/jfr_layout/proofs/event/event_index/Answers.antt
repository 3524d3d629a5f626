use Rattle.std.proofs.Common.{◌∙◌, sym}
use Rattle.jfr_layout.proofs.Events.{event_low, event_none, event_at, event_indexed, no_event_index}
use Rattle.jfr_layout.proofs.event.event_index.Goals as goal

pub returns-then-id-le-LAST_OWN_TYPE : goal.returns-then-id-le-LAST_OWN_TYPE
returns-then-id-le-LAST_OWN_TYPE c = no_event_index c.args.resolved.now c.args.id (event_low c.args.resolved.now c.args.id c.if-id-le-LAST_OWN_TYPE.true)

pub returns-in_err-index : goal.returns-in_err-index
returns-in_err-index c = c.from_residual.ensures ∙ no_event_index c.args.resolved.now c.args.id (event_none c.args.resolved.now c.args.id c.in_err-index.ensures.class)

pub returns-else-extends_event : goal.returns-else-extends_event
returns-else-extends_event c = no_event_index c.args.resolved.now c.args.id
    (sym c.if-extends_event.false ∙ event_at c.args.resolved.now c.args.id c.in_ok-index.index c.extends_event.result c.if-id-le-LAST_OWN_TYPE.false c.in_ok-index.ensures.class
    c.in_ok-index.ensures.within c.extends_event.ensures)

pub returns-then-extends_event : goal.returns-then-extends_event
returns-then-extends_event c = event_indexed c.args.resolved.now c.args.id c.in_ok-index.index c.in_ok-index.ensures.exact
    (sym c.if-extends_event.true ∙ event_at c.args.resolved.now c.args.id c.in_ok-index.index c.extends_event.result c.if-id-le-LAST_OWN_TYPE.false c.in_ok-index.ensures.class
    c.in_ok-index.ensures.within c.extends_event.ensures)
