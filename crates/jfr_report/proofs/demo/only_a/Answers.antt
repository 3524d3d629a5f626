use Rattle.std.proofs.Common.{ap, ◌∙◌}
use Rattle.jfr_filter.specs.declared.side.Side.TheVariants.{IncludeEvents}
use Rattle.jfr_filter.specs.Filters.{nothing_given, with_patterns}
use Rattle.jfr_filter.specs.Patterns.{patterns_in}
use Rattle.jfr_report.proofs.DemoLaws.{a_chars}
use Rattle.jfr_report.proofs.demo.only_a.Goals as goal

pub returns-in-Ok : goal.returns-in-Ok
returns-in-Ok c = record { ok = c.in-Ok.ensures.ok ∙ (ap (with_patterns IncludeEvents _) c.new-filter.ensures ∙ ap (λ l. with_patterns IncludeEvents (patterns_in l) nothing_given) a_chars) }
