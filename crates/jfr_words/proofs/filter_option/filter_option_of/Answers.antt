use Rattle.std.proofs.Common.{refl, sym, ap}
use Rattle.std.specs.Prelude.{codes}
use Rattle.jfr_words.specs.FilterOptions.{filter_option_of}
use Rattle.jfr_words.proofs.WordLaws.{chars_of, is_other}
use Rattle.jfr_words.proofs.filter_option.filter_option_of.Goals as goal

pub returns-in-text : goal.returns-in-text
returns-in-text c = sym (ap filter_option_of (chars_of _ (codes "--include-events") refl c.in-text.is))

pub returns-in-text-2 : goal.returns-in-text-2
returns-in-text-2 c = sym (ap filter_option_of (chars_of _ (codes "--exclude-events") refl c.in-text-2.is))

pub returns-in-text-3 : goal.returns-in-text-3
returns-in-text-3 c = sym (ap filter_option_of (chars_of _ (codes "--include-categories") refl c.in-text-3.is))

pub returns-in-text-4 : goal.returns-in-text-4
returns-in-text-4 c = sym (ap filter_option_of (chars_of _ (codes "--exclude-categories") refl c.in-text-4.is))

pub returns-in-text-5 : goal.returns-in-text-5
returns-in-text-5 c = sym (ap filter_option_of (chars_of _ (codes "--include-threads") refl c.in-text-5.is))

pub returns-in-text-6 : goal.returns-in-text-6
returns-in-text-6 c = sym (ap filter_option_of (chars_of _ (codes "--exclude-threads") refl c.in-text-6.is))

pub returns-in-text-7 : goal.returns-in-text-7
returns-in-text-7 c = sym (ap filter_option_of (chars_of _ (codes "--describe") refl c.in-text-7.is))

pub returns-in_default : goal.returns-in_default
returns-in_default c =
    rw (
      is_other _ (codes "--include-events") c.utf8.word refl c.in_default.not-text,
      is_other _ (codes "--exclude-events") c.utf8.word refl c.in_default.not-text-2,
      is_other _ (codes "--include-categories") c.utf8.word refl c.in_default.not-text-3,
      is_other _ (codes "--exclude-categories") c.utf8.word refl c.in_default.not-text-4,
      is_other _ (codes "--include-threads") c.utf8.word refl c.in_default.not-text-5,
      is_other _ (codes "--exclude-threads") c.utf8.word refl c.in_default.not-text-6,
      is_other _ (codes "--describe") c.utf8.word refl c.in_default.not-text-7,
    ) c.window_option_of.ensures
