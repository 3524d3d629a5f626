use Rattle.std.proofs.Common.{refl, ◌∙◌}
use Rattle.jfr_words.specs.Stacks.{stacks_option_of, stacks_with, stacks_named, stacks_from}
use Rattle.jfr_words.proofs.OptionLaws.{option_taken}
use Rattle.jfr_words.proofs.stacks.read_stacks.Goals as goal

pub options-preserved : goal.options-preserved
options-preserved c =
    option_taken stacks_from stacks_option_of stacks_with stacks_named (record { on = λ g word next rest. refl }) c.options.filter c.give_option.new.filter c.in-Some.option _ c.options.unread
    c.take_option.new.self _ c.in-Some.ensures.option c.in-Some.ensures.taken c.in_ok-value.ensures c.in_ok-give_option.ensures
    ∙ c.options.invariant
