use Rattle.std.proofs.Common.{ap, drop, sym, ◌∙◌}
use Rattle.jfr_build.specs.ClassLines.{number_at}
use Rattle.jfr_build.proofs.RegionLaws.{number_here}
use Rattle.jfr_build.proofs.class_lines.number_at.Goals as goal

pub returns-then-before-eq0 : goal.returns-then-before-eq0
returns-then-before-eq0 c =
    let ls = c.args.lines.now in
    let i = c.loop-line.line-index in
    let here = number_here ls i c.line-item.result c.line-item.is c.loop-line-test.true (sym c.is_region.ensures ∙ c.if-is_region.false) in
    sym (c.loop-line.invariant ∙ (ap (number_at (drop i ls)) c.if-before-eq0.true ∙ here))
