use Rattle.std.specs.Prelude.{◌≡◌, ◌++◌, take}
use Rattle.std.specs.List.{flat_map}
use Rattle.jfr_show.specs.Metadata.{field_line}
use Rattle.jfr_show.proofs.metadata.show_class.Given as goal

abbrev pub invariant-loop-field : goal.invariant-loop-field
invariant-loop-field l = l.out ≡ l.initial.out ++ flat_map (field_line l.classes) (take l.field-index l.class.fields)
