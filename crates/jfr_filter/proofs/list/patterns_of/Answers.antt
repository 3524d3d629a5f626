use Rattle.std.proofs.Common.{lit<, ◌∙◌, ap, map}
use Rattle.std.proofs.lemmas.Iterator.Splits.{YieldsList-from_str_split}
use Rattle.std.proofs.lemmas.Iterator.Consumers.{YieldsList-end}
use Rattle.std.specs.Str.{chars}
use Rattle.std.specs.Str.Iter.{split_text, split_has_more, split_pattern}
use Rattle.jfr_filter.proofs.SplitLaws.{split_chars, map_now}
use Rattle.jfr_filter.proofs.list.patterns_of.Goals as goal

pub returns : goal.returns
returns c =
    let list = c.args.list.now in
    let from = c.into_iter-part-iterator.ensures.into_iter_gives in
    let split = c.split-part-items.ensures in
    let all = YieldsList-end (YieldsList-from_str_split 44 list (lit< tt) (ap split_text from ∙ split.text) (ap split_has_more from ∙ split.has_more) (ap split_pattern from ∙ split.pattern))
    c.loop-part.yielded _ c.loop-part.yielded_by _ _ c.in-None.is c.next.ensures.steps in
    c.loop-part.invariant ∙ (map_now c.loop-part.yielded ∙ (ap (map chars) all.0 ∙ split_chars list c.utf8.list))
