use Rattle.std.proofs.Common.{◌≡◌, drop}
use Rattle.jfr_build.specs.Regions.{region_in}
use Rattle.jfr_build.proofs.region.region_in.Given as goal

abbrev pub invariant-loop-line : goal.invariant-loop-line
invariant-loop-line l = region_in l.lines ≡ region_in (drop l.line-index l.lines)
