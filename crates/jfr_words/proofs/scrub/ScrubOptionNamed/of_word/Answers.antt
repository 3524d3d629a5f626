use Rattle.std.proofs.Common.{refl, sym, ap, ◌∙◌}
use Rattle.std.specs.Prelude.{codes, Some, option_map, if◌then◌else◌}
use Rattle.std.specs.Str.{chars}
use Rattle.jfr_words.specs.declared.scrub.ScrubOption.TheVariants.{Filter, Renumber}
use Rattle.jfr_words.specs.FilterOptions.{filter_option_of}
use Rattle.jfr_words.specs.Scrubs.{scrub_option_of}
use Rattle.jfr_words.proofs.WordLaws.{chars_of, is_other}
use Rattle.jfr_words.proofs.scrub.ScrubOptionNamed.of_word.Goals as goal

pub returns-in-text : goal.returns-in-text
returns-in-text c = sym (ap scrub_option_of (chars_of _ (codes "--renumber") refl c.in-text.is))

pub returns-in-Some : goal.returns-in-Some
returns-in-Some c =
    ap (option_map (λ option. Filter option)) c.in-Some.ensures
    ∙ sym (ap (λ b. if b then Some Renumber else option_map (λ option. Filter option) (filter_option_of (chars c.args.word.now)))
    (is_other _ (codes "--renumber") c.utf8.word refl c.in_default.not-text))

pub returns-in-None : goal.returns-in-None
returns-in-None c =
    ap (option_map (λ option. Filter option)) c.in-None.ensures
    ∙ sym (ap (λ b. if b then Some Renumber else option_map (λ option. Filter option) (filter_option_of (chars c.args.word.now)))
    (is_other _ (codes "--renumber") c.utf8.word refl c.in_default.not-text))
