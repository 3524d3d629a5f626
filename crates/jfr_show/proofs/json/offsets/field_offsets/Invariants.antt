use Rattle.std.proofs.Common.{ℕ, drop}
use Rattle.jfr_value.specs.Nodes.{AreValues}
use Rattle.jfr_value.specs.Values.{Values}
use Rattle.jfr_value.specs.Visits.{field_shapes}
use Rattle.jfr_show.specs.Orders.{starts}
use Rattle.jfr_show.proofs.LeftLaws.{StillToShow}
use Rattle.jfr_show.proofs.PlacedLaws.{onto_starts}
use Rattle.jfr_show.proofs.json.offsets.field_offsets.Given as goal

abbrev pub invariant-loop-layout : goal.invariant-loop-layout
invariant-loop-layout l = (to : ℕ) (vs : Values) → AreValues l.chunk.classes l.chunk.bytes l.at to (field_shapes l.chunk.classes l.class_index) vs
    → StillToShow l.chunk.classes l.chunk.bytes to (starts l.at vs) (onto_starts l.chunk.classes l.chunk.bytes l.end) (drop l.layout-index (field_shapes l.chunk.classes l.class_index)) l.end l.starts.items
