use Rattle.std.proofs.Common.{refl, sym, ap}
use Rattle.std.specs.Prelude.{codes}
use Rattle.jfr_words.specs.FilterOptions.{shown_option_of}
use Rattle.jfr_words.proofs.WordLaws.{chars_of, is_other}
use Rattle.jfr_words.proofs.filter_option.shown_option_of.Goals as goal

pub returns-in-text : goal.returns-in-text
returns-in-text c = sym (ap shown_option_of (chars_of _ (codes "--events") refl c.in-text.is))

pub returns-in-text-2 : goal.returns-in-text-2
returns-in-text-2 c = sym (ap shown_option_of (chars_of _ (codes "--categories") refl c.in-text-2.is))

pub returns-in_default : goal.returns-in_default
returns-in_default c =
    rw (
      is_other _ (codes "--events") c.utf8.word refl c.in_default.not-text,
      is_other _ (codes "--categories") c.utf8.word refl c.in_default.not-text-2,
    ) c.window_option_of.ensures
