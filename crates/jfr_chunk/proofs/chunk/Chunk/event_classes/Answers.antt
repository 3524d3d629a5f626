use Rattle.std.proofs.Common.{◌∙◌, ap}
use Rattle.jfr_chunk.specs.Parts.{Parts, events_of}
use Rattle.jfr_chunk.specs.Metas.{used_by}
use Rattle.jfr_meta.specs.Stays.{is_in}
use Rattle.jfr_chunk.proofs.UsedLaws.{used_events}
use Rattle.jfr_chunk.proofs.chunk.Chunk.event_classes.Goals as goal

pub returns : goal.returns
returns c = λ id.
    ap (λ z. is_in z id) c.ids.ensures
    ∙ (c.self.invariant.used id
    ∙ (used_events _ c.self.inside.events.early c.self.inside.events.fields.items _ id c.self.invariant.events
    ∙ ap (λ (p : Parts). used_by (events_of p) id) c.self.view_is))
