use Rattle.std.proofs.Common.{◌≡◌, length}
use Rattle.jfr_layout.specs.Events.{AreEventIndices}
use Rattle.jfr_layout.proofs.event.event_indices.Given as goal

abbrev pub invariant-loop-id : goal.invariant-loop-id
invariant-loop-id l = record { exact : AreEventIndices l.resolved l.indices.items; count : length l.indices.items ≡ l.id }
