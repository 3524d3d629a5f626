use Rattle.std.proofs.Common.{◌∙◌, rules}
use Rattle.std.specs.List.{list_any}
use Rattle.std.proofs.lemmas.Iterator.{YieldsList-from_slice}
use Rattle.std.proofs.lemmas.Iterator.Search.{any_from_yields_List}
use borrow.Author.Tests.{tests}
use Rattle.jfr_filter.specs.Patterns.{glob}
use Rattle.jfr_filter.proofs.AnyLaws.{any_swap}
use Rattle.jfr_filter.proofs.matching.any_category.Goals as goal

pub returns : goal.returns
returns c =
    any_from_yields_List (λ category. list_any (λ pattern. glob pattern category) c.args.patterns.now) _ _ c.any.result c.any.ensures.ran
    (YieldsList-from_slice c.args.categories.now cc)
    (λ x b q k. search (rules, tests))
    ∙ any_swap glob c.args.patterns.now c.args.categories.now
