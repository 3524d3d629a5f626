use Rattle.std.proofs.Common.{◌≡◌, drop}
use Rattle.jfr_build.specs.ClassLines.{from_class}
use Rattle.jfr_build.proofs.class_lines.line_at.Given as goal

abbrev pub invariant-loop-at : goal.invariant-loop-at
invariant-loop-at l = from_class l.class l.lines ≡ from_class l.before (drop l.at l.lines)
