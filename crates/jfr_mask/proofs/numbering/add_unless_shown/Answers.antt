use Rattle.std.specs.Prelude.{Some}
use Rattle.std.specs.Str.{chars}
use Rattle.std.proofs.Common.{sym, subst, ◌∙◌}
use Rattle.jfr_mask.specs.Noted.{IsNotedFor}
use Rattle.jfr_mask.specs.Pseudonyms.{has_text}
use Rattle.jfr_mask.proofs.NotedLaws.{added_number}
use Rattle.jfr_mask.proofs.numbering.add_unless_shown.Goals as goal

pub returns-clause-known : goal.returns-clause-known
returns-clause-known c =
    let known = has_text c.args.known.now in
    let text = chars c.args.text.now in
    subst (IsNotedFor known c.add.new.self (Some text)) (sym c.of.ensures)
    (added_number known c.args.dictionary.now c.add.new.self text c.in_ok-number.number (sym c.is_unmasked.ensures ∙ c.if-is_unmasked.false) c.in_ok-number.ensures.ok c.in_ok-number.ensures.number)
