use Rattle.std.proofs.Common.{◌≡◌, ◌∷◌, [], ◌+◌, ◌*◌, ◌-◌, drop, length, if◌then◌else◌}
use Rattle.std.specs.Prelude.{replicate}
use Rattle.jfr_layout.specs.Classes.{item_of}
use Rattle.jfr_value.specs.Visits.{Visits, field_shapes, shapes_of_layouts}
use Rattle.jfr_value.specs.Walks.{fields_from}
use Rattle.jfr_value.proofs.FusedLaws.{left_by}
use Rattle.jfr_value.proofs.leaf_visit.+visits.Given as goal

abbrev pub decreases-visit_array : goal.decreases-visit_array
decreases-visit_array g l = 8 * l.start.levels + 1

abbrev pub decreases-visit_fields : goal.decreases-visit_fields
decreases-visit_fields g l = 8 * l.start.levels + 6

abbrev pub decreases-visit_fused : goal.decreases-visit_fused
decreases-visit_fused g l = 8 * l.next.levels + 5

abbrev pub decreases-visit_prelude : goal.decreases-visit_prelude
decreases-visit_prelude g l = 8 * l.next.levels + 4

abbrev pub decreases-visit_each : goal.decreases-visit_each
decreases-visit_each g l = 8 * l.next.levels + 3

abbrev pub decreases-visit_value : goal.decreases-visit_value
decreases-visit_value g l = 8 * l.start.levels + (if l.layout.now.shape.array then 2 else 0)

-- The items from this one on are left.
abbrev pub invariant-visit_array-items : goal.invariant-visit_array-items
invariant-visit_array-items g l = record {
  ready : g.V.VisitLeaf.ready l.visitor l.walk.with.now l.to;
  visited : Visits (g.V.VisitLeaf.takes l.walk.with.now) l.walk.classes.now l.walk.bytes.now l.walk.end (l.start.holder ∷ []) (l.layout.shape ∷ []) l.start.at l.fn.visitor l.fn.steps
      (replicate (l.items - l.counter) l.start.holder) (replicate (l.items - l.counter) (item_of l.layout.shape)) l.to l.visitor l.steps;
}

-- The fused fields from this one on are left.
abbrev pub invariant-visit_fields-loop-fused : goal.invariant-visit_fields-loop-fused
invariant-visit_fields-loop-fused g l = record {
  ready : g.V.VisitLeaf.ready l.visitor l.walk.with.now l.to;
  counted : l.number + length (left_by l.class_layout.layouts.items l.class_layout.fused_fields.items l.fused-index) ≡ length l.class_layout.layouts.items;
  visited : Visits (g.V.VisitLeaf.takes l.walk.with.now) l.walk.classes.now l.walk.bytes.now l.walk.end (fields_from l.class.id 0 (field_shapes l.walk.classes.now l.class.index)) (field_shapes l.walk.classes.now l.class.index) l.start.at l.fn.visitor l.fn.steps
      (fields_from l.class.id l.number (shapes_of_layouts (left_by l.class_layout.layouts.items l.class_layout.fused_fields.items l.fused-index)))
      (shapes_of_layouts (left_by l.class_layout.layouts.items l.class_layout.fused_fields.items l.fused-index)) l.to l.visitor l.steps;
}

-- The fields from this one on are left.
abbrev pub invariant-visit_each-loop-field : goal.invariant-visit_each-loop-field
invariant-visit_each-loop-field g l = record {
  ready : g.V.VisitLeaf.ready l.visitor l.walk.with.now l.to;
  visited : Visits (g.V.VisitLeaf.takes l.walk.with.now) l.walk.classes.now l.walk.bytes.now l.walk.end (fields_from l.next.class l.next.number (shapes_of_layouts l.next.layouts.now)) (shapes_of_layouts l.next.layouts.now) l.next.at l.fn.visitor l.fn.steps
      (fields_from l.next.class (l.next.number + l.field) (shapes_of_layouts (drop l.field l.next.layouts.now))) (shapes_of_layouts (drop l.field l.next.layouts.now)) l.to l.visitor l.steps;
}
