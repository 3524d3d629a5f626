use Rattle.std.specs.Prelude.{◌≡◌, ◌++◌, take}
use Rattle.std.specs.List.{flat_map}
use Rattle.jfr_show.specs.Metadata.{class_lines}
use Rattle.jfr_show.proofs.metadata.show_metadata.Given as goal

abbrev pub invariant-loop-class : goal.invariant-loop-class
invariant-loop-class l = l.out ≡ l.initial.out ++ flat_map (class_lines l.classes) (take l.class-index l.classes)
