use Rattle.std.specs.Prelude.{◌≡◌, take}
use Rattle.std.specs.Str.{chars}
use Rattle.jfr_stacks.specs.Frames.{field_numbers}
use Rattle.jfr_stacks.proofs.fields.FieldNumbers.of.Given as goal

-- The fields of the classes so far.
abbrev pub invariant-loop-class : goal.invariant-loop-class
invariant-loop-class l = l.numbers.items ≡ field_numbers (chars l.name) (take l.class-index l.classes)
