use Rattle.std.proofs.Common.{sym, ◌∙◌}
use Rattle.jfr_build.proofs.RegionLaws.{region_here}
use Rattle.jfr_build.proofs.region.region_in.Goals as goal

pub returns-in-Region : goal.returns-in-Region
returns-in-Region c = sym (c.loop-line.invariant ∙ region_here c.args.lines.now c.loop-line.line-index c.line-item.result c.in-Region.region c.line-item.is c.loop-line-test.true c.in-Region.is)
