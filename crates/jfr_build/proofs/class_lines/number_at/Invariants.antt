use Rattle.std.proofs.Common.{◌≡◌, drop}
use Rattle.jfr_build.specs.ClassLines.{number_at}
use Rattle.jfr_build.proofs.class_lines.number_at.Given as goal

abbrev pub invariant-loop-line : goal.invariant-loop-line
invariant-loop-line l = number_at l.lines l.index ≡ number_at (drop l.line-index l.lines) l.before
