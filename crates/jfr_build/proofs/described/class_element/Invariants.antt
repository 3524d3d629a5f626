use Rattle.std.proofs.Common.{◌≡◌, ◌+◌, ◌++◌, drop, length}
use Rattle.std.specs.List.{flat_map}
use Rattle.jfr_build.specs.Described.{class_texts, field_texts, field_trees}
use Rattle.jfr_build.proofs.described.class_element.Given as goal

abbrev pub invariant-loop-field : goal.invariant-loop-field
invariant-loop-field l = record {
  trees : field_trees (length l.fn.strings + 2) l.class.fields ≡ l.children ++ field_trees (length l.strings) (drop l.field-index l.class.fields);
  texts : l.fn.strings ++ class_texts l.class ≡ l.strings ++ flat_map field_texts (drop l.field-index l.class.fields);
}
