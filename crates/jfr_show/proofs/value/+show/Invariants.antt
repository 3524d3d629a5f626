use Rattle.std.proofs.Common.{◌≡◌, ℕ, ◌+◌, ◌*◌, ◌-◌, ◌++◌, drop, if◌then◌else◌}
use Rattle.std.specs.Prelude.{replicate, slice_get, Some}
use Rattle.jfr_layout.specs.Classes.{Class, item_of}
use Rattle.jfr_value.specs.Nodes.{AreValues}
use Rattle.jfr_value.specs.Values.{Values}
use Rattle.jfr_value.specs.Visits.{field_shapes}
use Rattle.jfr_show.specs.Cache.{AreCached}
use Rattle.jfr_show.specs.Shown.{field_lines, item_lines, referred, shown_all}
use Rattle.jfr_show.proofs.LineLaws.{onto_items, onto_fields}
use Rattle.jfr_show.proofs.LeftLaws.{StillToShow}
use Rattle.jfr_show.proofs.value.+show.Given as goal

-- References first, then composite values, then the steps within one.
abbrev pub decreases-show_constant : goal.decreases-show_constant
decreases-show_constant l = 400 * l.view.now.depth.reach.references

abbrev pub decreases-show_reference : goal.decreases-show_reference
decreases-show_reference l = 400 * l.view.now.depth.reach.references + 1

abbrev pub decreases-show_fields : goal.decreases-show_fields
decreases-show_fields l = 400 * l.view.now.depth.reach.references + 5 * l.view.now.depth.reach.composites + 1

abbrev pub decreases-show_items : goal.decreases-show_items
decreases-show_items l = 400 * l.view.now.depth.reach.references + 5 * l.view.now.depth.reach.composites + 3

abbrev pub decreases-show_value : goal.decreases-show_value
decreases-show_value l = 400 * l.view.now.depth.reach.references + 5 * l.view.now.depth.reach.composites + (if l.layout.now.shape.array then 4 else 2)

abbrev pub decreases-show_node : goal.decreases-show_node
decreases-show_node l = 400 * l.view.now.depth.reach.references + 5 * l.view.now.depth.reach.composites + 5

abbrev pub invariant-show_items-items : goal.invariant-show_items-items
invariant-show_items-items l = record {
  cached : AreCached l.view.chunk.now l.cache;
  left : (to : ℕ) (vs : Values) → AreValues l.view.chunk.now.classes l.view.chunk.now.bytes l.initial.to to (replicate l.end (item_of l.layout.shape)) vs
      → StillToShow l.view.chunk.now.classes l.view.chunk.now.bytes to (l.initial.out ++ item_lines (l.view.depth.level + 1) (shown_all l.view.chunk.now.classes (referred l.view.chunk.now l.view.depth.reach.references) (l.view.depth.level + 1) vs))
      (onto_items l.view.chunk.now.classes (referred l.view.chunk.now l.view.depth.reach.references) (l.view.depth.level + 1)) (replicate (l.end - l.counter) (item_of l.layout.shape)) l.to l.out;
}

abbrev pub invariant-show_fields-loop-layout : goal.invariant-show_fields-loop-layout
invariant-show_fields-loop-layout l = record {
  cached : AreCached l.view.chunk.now l.cache;
  number : l.number ≡ l.layout-index;
  left : (to : ℕ) (vs : Values) (class : Class) → AreValues l.view.chunk.now.classes l.view.chunk.now.bytes l.at to (field_shapes l.view.chunk.now.classes l.class_index) vs
      → slice_get l.view.chunk.now.classes l.class_index ≡ Some class
      → StillToShow l.view.chunk.now.classes l.view.chunk.now.bytes to (l.initial.out ++ field_lines (l.view.depth.level + 1) class.fields (shown_all l.view.chunk.now.classes (referred l.view.chunk.now l.view.depth.reach.references) (l.view.depth.level + 1) vs))
      (onto_fields l.view.chunk.now.classes (referred l.view.chunk.now l.view.depth.reach.references) (l.view.depth.level + 1) (drop l.layout-index class.fields))
      (drop l.layout-index (field_shapes l.view.chunk.now.classes l.class_index)) l.to l.out;
}
