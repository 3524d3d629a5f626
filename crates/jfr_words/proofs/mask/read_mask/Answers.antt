use Rattle.std.proofs.Common.{refl, ◌∙◌}
use Rattle.jfr_words.specs.Masks.{mask_option_of, mask_with, mask_named, mask_from}
use Rattle.jfr_words.proofs.OptionLaws.{option_taken}
use Rattle.jfr_words.proofs.mask.read_mask.Goals as goal

pub options-preserved : goal.options-preserved
options-preserved c =
    option_taken mask_from mask_option_of mask_with mask_named (record { on = λ g word next rest. refl }) c.options.given c.give.new.self c.in-Some.option _ c.options.unread c.take_option.new.self _
    c.in-Some.ensures.option c.in-Some.ensures.taken c.in_ok-value.ensures c.in_ok-give.ensures
    ∙ c.options.invariant
