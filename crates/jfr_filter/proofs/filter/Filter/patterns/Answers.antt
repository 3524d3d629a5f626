use Rattle.std.proofs.Common.{◌∙◌, ap}
use Rattle.jfr_filter.specs.Filters.{given_at}
use Rattle.jfr_filter.proofs.OptionLaws.{patterns_found}
use Rattle.jfr_filter.proofs.filter.Filter.patterns.Goals as goal

-- src/filter.rt:59:5
pub returns : goal.returns
returns c = c.get.ensures.value ∙ patterns_found c.self.inside.patterns.entries c.self.inside.from c.self.inside.to c.args.side ∙ ap (given_at c.args.side) c.self.view_is
