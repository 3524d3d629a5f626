use Rattle.std.specs.Str.{chars}
use Rattle.std.proofs.Common.{arith, refl, sym, ◌∙◌}
use Rattle.jfr_mask.specs.Pseudonyms.{has_text, is_descriptor}
use Rattle.jfr_mask.proofs.ShownLaws.{pseudonym_shown, text_shown}
use Rattle.jfr_mask.proofs.shown.Shown.of.Goals as goal

pub returns-then-is_unmasked : goal.returns-then-is_unmasked
returns-then-is_unmasked c = text_shown (has_text c.args.known.now) c.args.dictionary.now c.args.text.now c.utf8.text (sym c.is_unmasked.ensures ∙ c.if-is_unmasked.true)

pub returns : goal.returns
returns c =
    c.pseudonym.ensures
    ∙ pseudonym_shown (has_text c.args.known.now) c.args.dictionary.now (chars c.args.text.now) (is_descriptor (chars c.args.text.now)) c.number_or_next.result (omega arith)
    refl c.number_or_next.ensures (sym c.is_unmasked.ensures ∙ c.if-is_unmasked.false)
