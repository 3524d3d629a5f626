use Rattle.std.proofs.Common.{◌≡◌, ◌++◌, drop}
use Rattle.jfr_build.specs.ClassLines.{classes_in}
use Rattle.jfr_build.proofs.class_lines.class_list.Given as goal

abbrev pub invariant-loop-at : goal.invariant-loop-at
invariant-loop-at l = classes_in l.lines ≡ l.list ++ classes_in (drop l.at l.lines)
