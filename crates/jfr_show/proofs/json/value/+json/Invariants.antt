use Rattle.std.proofs.Common.{◌≡◌, ℕ, ◌+◌, ◌*◌, ◌-◌, ◌++◌, drop, false, if◌then◌else◌}
use Rattle.std.specs.Prelude.{map, replicate, string_bytes}
use Rattle.serde_json.specs.View.{items_of}
use Rattle.serde_json.specs.Written.{items_text}
use Rattle.jfr_layout.specs.Classes.{item_of}
use Rattle.jfr_value.specs.Nodes.{AreValues}
use Rattle.jfr_value.specs.Values.{Values}
use Rattle.jfr_value.specs.Visits.{field_shapes}
use Rattle.jfr_show.specs.CachedJson.{AreCachedJson}
use Rattle.jfr_show.specs.Json.{json_of_all, referred_json}
use Rattle.jfr_show.specs.Orders.{AreOffsets, laid_out, lead_of}
use Rattle.jfr_show.proofs.JsonLaws.{onto_items}
use Rattle.jfr_show.proofs.LeftLaws.{StillToShow}
use Rattle.jfr_show.proofs.json.value.+json.Given as goal

-- References first, then composite values, then the steps within one.
abbrev pub decreases-push_constant : goal.decreases-push_constant
decreases-push_constant l = 400 * l.source.now.reach.references

abbrev pub decreases-push_reference : goal.decreases-push_reference
decreases-push_reference l = 400 * l.source.now.reach.references + 1

abbrev pub decreases-push_members : goal.decreases-push_members
decreases-push_members l = 400 * l.source.now.reach.references + 6 * l.source.now.reach.composites

abbrev pub decreases-push_object : goal.decreases-push_object
decreases-push_object l = 400 * l.source.now.reach.references + 6 * l.source.now.reach.composites + 1

abbrev pub decreases-push_fields : goal.decreases-push_fields
decreases-push_fields l = 400 * l.source.now.reach.references + 6 * l.source.now.reach.composites + 2

abbrev pub decreases-push_items : goal.decreases-push_items
decreases-push_items l = 400 * l.source.now.reach.references + 6 * l.source.now.reach.composites + 4

abbrev pub decreases-push_value : goal.decreases-push_value
decreases-push_value l = 400 * l.source.now.reach.references + 6 * l.source.now.reach.composites + (if l.layout.now.shape.array then 5 else 3)

abbrev pub decreases-push_node : goal.decreases-push_node
decreases-push_node l = 400 * l.source.now.reach.references + 6 * l.source.now.reach.composites + 6

abbrev pub invariant-push_items-items : goal.invariant-push_items-items
invariant-push_items-items l = record {
  cached : AreCachedJson l.source.chunk.now l.cache;
  left : (to : ℕ) (vs : Values) → AreValues l.source.chunk.now.classes l.source.chunk.now.bytes l.initial.to to (replicate l.end (item_of l.layout.shape)) vs
      → StillToShow l.source.chunk.now.classes l.source.chunk.now.bytes to (string_bytes l.initial.out ++ items_text false (items_of (json_of_all l.source.chunk.now.classes (referred_json l.source.chunk.now l.source.reach.references) vs)))
      (onto_items l.source.chunk.now.classes (referred_json l.source.chunk.now l.source.reach.references) l.later) (replicate (l.end - l.counter) (item_of l.layout.shape)) l.to (string_bytes l.out);
}

abbrev pub invariant-push_members-loop-lead : goal.invariant-push_members-loop-lead
invariant-push_members-loop-lead l = record {
  cached : AreCachedJson l.source.chunk.now l.cache;
  laid : (at to : ℕ) (vs : Values) → AreValues l.source.chunk.now.classes l.source.chunk.now.bytes at to (field_shapes l.source.chunk.now.classes l.offsets.class_index) vs
      → AreOffsets l.offsets at to vs
      → string_bytes l.out ++ laid_out (map lead_of (drop l.lead-index l.lead-items)) (json_of_all l.source.chunk.now.classes (referred_json l.source.chunk.now l.source.reach.references) vs)
      ≡ string_bytes l.initial.out ++ laid_out (map lead_of l.lead-items) (json_of_all l.source.chunk.now.classes (referred_json l.source.chunk.now l.source.reach.references) vs);
}
