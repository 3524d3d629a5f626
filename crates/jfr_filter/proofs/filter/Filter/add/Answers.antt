use Rattle.std.proofs.Common.{◌∙◌, ap}
use Rattle.jfr_filter.specs.Filters.{with_patterns}
use Rattle.jfr_filter.proofs.OptionLaws.{patterns_set}
use Rattle.jfr_filter.proofs.filter.Filter.add.Goals as goal

-- src/filter.rt:68:5
pub returns-clause-ok : goal.returns-clause-ok
returns-clause-ok c =
    patterns_set c.self.inside.patterns.entries c.insert.new.self.entries c.self.inside.from c.self.inside.to c.args.side c.in_ok-patterns.patterns c.in_ok-insert.ensures.updates.0
    ∙ ap (with_patterns c.args.side c.in_ok-patterns.patterns) c.self.view_is
    ∙ ap (λ patterns. with_patterns c.args.side patterns c.args.self.now) c.in_ok-patterns.ensures.ok
