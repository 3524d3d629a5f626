use Rattle.std.proofs.Common.{refl, sym, ap}
use Rattle.std.specs.Prelude.{codes, option_map}
use Rattle.jfr_words.specs.declared.mask.MaskOption.TheVariants.{Filter}
use Rattle.jfr_words.specs.Masks.{mask_option_of}
use Rattle.jfr_words.proofs.WordLaws.{chars_of, is_other}
use Rattle.jfr_words.proofs.mask.MaskOptionNamed.of_word.Goals as goal

pub returns-in-text : goal.returns-in-text
returns-in-text c = sym (ap mask_option_of (chars_of _ (codes "--strings") refl c.in-text.is))

pub returns-in-text-2 : goal.returns-in-text-2
returns-in-text-2 c = sym (ap mask_option_of (chars_of _ (codes "--except") refl c.in-text-2.is))

pub returns-in-text-3 : goal.returns-in-text-3
returns-in-text-3 c = sym (ap mask_option_of (chars_of _ (codes "--known") refl c.in-text-3.is))

pub returns-in-text-4 : goal.returns-in-text-4
returns-in-text-4 c = sym (ap mask_option_of (chars_of _ (codes "--table") refl c.in-text-4.is))

pub returns-in-Some : goal.returns-in-Some
returns-in-Some c =
    rw (
      is_other _ (codes "--strings") c.utf8.word refl c.in_default.not-text,
      is_other _ (codes "--except") c.utf8.word refl c.in_default.not-text-2,
      is_other _ (codes "--known") c.utf8.word refl c.in_default.not-text-3,
      is_other _ (codes "--table") c.utf8.word refl c.in_default.not-text-4,
    ) (ap (option_map (λ option. Filter option)) c.in-Some.ensures)

pub returns-in-None : goal.returns-in-None
returns-in-None c =
    rw (
      is_other _ (codes "--strings") c.utf8.word refl c.in_default.not-text,
      is_other _ (codes "--except") c.utf8.word refl c.in_default.not-text-2,
      is_other _ (codes "--known") c.utf8.word refl c.in_default.not-text-3,
      is_other _ (codes "--table") c.utf8.word refl c.in_default.not-text-4,
    ) (ap (option_map (λ option. Filter option)) c.in-None.ensures)
