use Rattle.std.proofs.Common.{refl, ◌∙◌}
use Rattle.jfr_words.specs.Splits.{split_option_of, split_with, split_named, split_from}
use Rattle.jfr_words.proofs.OptionLaws.{option_taken}
use Rattle.jfr_words.proofs.split.read_split.Goals as goal

pub options-preserved : goal.options-preserved
options-preserved c =
    option_taken split_from split_option_of split_with split_named (record { on = λ g word next rest. refl }) c.options.given c.give.new.self c.in-Some.option _ c.options.unread c.take_option.new.self
    _ c.in-Some.ensures.option c.in-Some.ensures.taken c.in_ok-value.ensures c.in_ok-give.ensures
    ∙ c.options.invariant
