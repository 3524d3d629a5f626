use Rattle.std.proofs.Common.{sym, ◌∙◌}
use Rattle.jfr_base.proofs.DecimalLaws.{no_digits, parsed, same_number, too_long}
use Rattle.jfr_base.proofs.decimal.decimal_number.Goals as goal

pub returns-then-word-gt-DIGITS-clause-bytes : goal.returns-then-word-gt-DIGITS-clause-bytes
returns-then-word-gt-DIGITS-clause-bytes c = sym (too_long c.args.word.now c.if-word-gt-DIGITS.true)

pub returns-then-word-gt-DIGITS-clause-characters : goal.returns-then-word-gt-DIGITS-clause-characters
returns-then-word-gt-DIGITS-clause-characters c = sym (too_long c.args.word.now c.if-word-gt-DIGITS.true) ∙ same_number c.args.word.now c.utf8.word

pub returns-then-not-is_digits-clause-bytes : goal.returns-then-not-is_digits-clause-bytes
returns-then-not-is_digits-clause-bytes c = sym (no_digits c.args.word.now (sym c.if-not-is_digits.ensures))

pub returns-then-not-is_digits-clause-characters : goal.returns-then-not-is_digits-clause-characters
returns-then-not-is_digits-clause-characters c = sym (no_digits c.args.word.now (sym c.if-not-is_digits.ensures)) ∙ same_number c.args.word.now c.utf8.word

pub returns-clause-bytes : goal.returns-clause-bytes
returns-clause-bytes c = c.ok.ensures.value ∙ parsed c.args.word.now c.parse.result (sym c.if-not-is_digits.ensures) c.if-word-gt-DIGITS.false c.parse.ensures.value.0

pub returns-clause-characters : goal.returns-clause-characters
returns-clause-characters c = c.ok.ensures.value
    ∙ (parsed c.args.word.now c.parse.result (sym c.if-not-is_digits.ensures) c.if-word-gt-DIGITS.false c.parse.ensures.value.0 ∙ same_number c.args.word.now c.utf8.word)
