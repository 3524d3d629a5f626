use Rattle.std.proofs.Common.{rules, sym, ◌∙◌}
use Rattle.std.proofs.lemmas.Bool.{eqb-true}
use Rattle.jfr_mask.specs.Pseudonyms.{has_text}
use Rattle.jfr_mask.proofs.ShownLaws.{empty_stays, other_stays}
use Rattle.jfr_mask.proofs.shown.is_unmasked.Goals as goal

pub returns-then-is_empty : goal.returns-then-is_empty
returns-then-is_empty c = sym (empty_stays (has_text c.args.known.now) c.args.text.now (eqb-true _ 0 (sym c.is_empty.ensures ∙ c.if-is_empty.true)))

pub returns : goal.returns
returns c = c.has.ensures ∙ sym (other_stays (has_text c.args.known.now) c.args.text.now c.utf8.text (search rules))
