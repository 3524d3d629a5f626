use Rattle.std.proofs.Common.{refl, sym, ap}
use Rattle.std.specs.Prelude.{codes, option_map}
use Rattle.jfr_words.specs.declared.print.PrintOption.TheVariants.{Filter}
use Rattle.jfr_words.specs.Prints.{print_option_of}
use Rattle.jfr_words.proofs.WordLaws.{chars_of, is_other}
use Rattle.jfr_words.proofs.print.PrintOptionNamed.of_word.Goals as goal

pub returns-in-text : goal.returns-in-text
returns-in-text c = sym (ap print_option_of (chars_of _ (codes "--depth") refl c.in-text.is))

pub returns-in-text-2 : goal.returns-in-text-2
returns-in-text-2 c = sym (ap print_option_of (chars_of _ (codes "--json") refl c.in-text-2.is))

pub returns-in-Some : goal.returns-in-Some
returns-in-Some c =
    rw (is_other _ (codes "--depth") c.utf8.word refl c.in_default.not-text, is_other _ (codes "--json") c.utf8.word refl c.in_default.not-text-2)
    (ap (option_map (λ option. Filter option)) c.in-Some.ensures)

pub returns-in-None : goal.returns-in-None
returns-in-None c =
    rw (is_other _ (codes "--depth") c.utf8.word refl c.in_default.not-text, is_other _ (codes "--json") c.utf8.word refl c.in_default.not-text-2)
    (ap (option_map (λ option. Filter option)) c.in-None.ensures)
