use Rattle.std.proofs.Common.{refl, sym, ap}
use Rattle.std.specs.Prelude.{codes}
use Rattle.jfr_words.specs.Scrubs.{yes_or_no}
use Rattle.jfr_words.proofs.WordLaws.{chars_of, is_other}
use Rattle.jfr_words.proofs.scrub.yes_or_no.Goals as goal

pub returns-in-yes : goal.returns-in-yes
returns-in-yes c = sym (ap yes_or_no (chars_of _ (codes "yes") refl c.in-yes.is))

pub returns-in-no : goal.returns-in-no
returns-in-no c = sym (ap yes_or_no (chars_of _ (codes "no") refl c.in-no.is))

pub returns-in_default : goal.returns-in_default
returns-in_default c =
    rw (is_other _ (codes "yes") c.utf8.word refl c.in_default.not-yes, is_other _ (codes "no") c.utf8.word refl c.in_default.not-no)
