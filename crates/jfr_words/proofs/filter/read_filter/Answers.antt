use Rattle.std.proofs.Common.{◌∙◌}
use Rattle.jfr_words.proofs.OptionLaws.{filter_taken}
use Rattle.jfr_words.proofs.filter.read_filter.Goals as goal

pub options-preserved : goal.options-preserved
options-preserved c = λ named.
    filter_taken named c.options.filter c.give_option.new.filter c.in-Some.option _ c.options.unread c.take_option.new.self _ c.in-Some.ensures.option c.in-Some.ensures.taken c.in_ok-value.ensures
    c.in_ok-give_option.ensures
    ∙ c.options.invariant named
