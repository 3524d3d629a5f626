use Rattle.std.proofs.Common.{◌≡◌, ◌++◌, drop, length}
use Rattle.std.specs.List.{flat_map}
use Rattle.jfr_build.specs.Described.{class_texts, class_trees, fixed_texts}
use Rattle.jfr_build.proofs.described.root_of.Given as goal

abbrev pub invariant-loop-class : goal.invariant-loop-class
invariant-loop-class l = record {
  trees : class_trees 15 l.classes ≡ l.elements ++ class_trees (length l.strings) (drop l.class-index l.classes);
  texts : fixed_texts ++ flat_map class_texts l.classes ≡ l.strings ++ flat_map class_texts (drop l.class-index l.classes);
}
