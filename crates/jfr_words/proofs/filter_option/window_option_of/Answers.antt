use Rattle.std.proofs.Common.{refl, sym, ap}
use Rattle.std.specs.Prelude.{codes}
use Rattle.jfr_words.specs.FilterOptions.{window_option_of}
use Rattle.jfr_words.proofs.WordLaws.{chars_of, is_other}
use Rattle.jfr_words.proofs.filter_option.window_option_of.Goals as goal

pub returns-in-text : goal.returns-in-text
returns-in-text c = sym (ap window_option_of (chars_of _ (codes "--from") refl c.in-text.is))

pub returns-in-text-2 : goal.returns-in-text-2
returns-in-text-2 c = sym (ap window_option_of (chars_of _ (codes "--to") refl c.in-text-2.is))

pub returns-in-text-3 : goal.returns-in-text-3
returns-in-text-3 c = sym (ap window_option_of (chars_of _ (codes "--always") refl c.in-text-3.is))

pub returns-in_default : goal.returns-in_default
returns-in_default c =
    rw (
      is_other _ (codes "--from") c.utf8.word refl c.in_default.not-text,
      is_other _ (codes "--to") c.utf8.word refl c.in_default.not-text-2,
      is_other _ (codes "--always") c.utf8.word refl c.in_default.not-text-3,
    )
