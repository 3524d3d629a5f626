use Rattle.std.proofs.Common.{lit<, ◌∙◌, ◌==◌, length, rules}
use borrow.Author.Tests.{tests}
use Rattle.std.proofs.lemmas.Iterator.Search.{any_from_yields_List}
use Rattle.std.proofs.lemmas.Iterator.Splits.{YieldsList-from_str_split}
use Rattle.jfr_filter.proofs.SplitLaws.{split_empty}
use Rattle.jfr_filter.proofs.list.has_empty_part.Goals as goal

pub returns : goal.returns
returns c =
    any_from_yields_List (λ bs. length bs == 0) _ _ c.any.result c.any.ensures.ran
    (YieldsList-from_str_split 44 c.args.list.now (lit< tt) c.split.ensures.text c.split.ensures.has_more c.split.ensures.pattern)
    (λ x b q k. search (rules, tests))
    ∙ split_empty c.args.list.now c.utf8.list
