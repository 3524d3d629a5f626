use Rattle.std.proofs.Common.{sym, ◌∙◌}
use Rattle.std.specs.Str.{chars}
use Rattle.jfr_filter.specs.Patterns.{glob}
use Rattle.jfr_filter.proofs.GlobLaws.{some_here}
use Rattle.jfr_filter.proofs.pattern.some_end.Goals as goal

pub returns-in-Whole : goal.returns-in-Whole
returns-in-Whole c = sym (some_here (glob (chars c.loop-later.pattern.now)) (chars c.loop-later.text.now) c.in-Whole.ensures.goes) ∙ c.loop-later.invariant.2
