use Rattle.std.proofs.Common.{◌≡◌, drop}
use Rattle.jfr_build.specs.LineValues.{first_bad_value}
use Rattle.jfr_build.proofs.line_values.check_values.Given as goal

abbrev pub invariant-loop-line : goal.invariant-loop-line
invariant-loop-line l = first_bad_value l.classes l.lines ≡ first_bad_value l.classes (drop l.line-index l.lines)
