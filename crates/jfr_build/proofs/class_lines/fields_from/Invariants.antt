use Rattle.std.proofs.Common.{◌≡◌, ◌++◌, drop}
use Rattle.jfr_build.specs.ClassLines.{fields_in}
use Rattle.jfr_build.proofs.class_lines.fields_from.Given as goal

abbrev pub invariant-loop-at : goal.invariant-loop-at
invariant-loop-at l = fields_in (drop l.from l.lines) ≡ l.fields ++ fields_in (drop l.at l.lines)
