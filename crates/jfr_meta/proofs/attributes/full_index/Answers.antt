use Rattle.std.proofs.Common.{◌∙◌, ap, sym}
use Rattle.std.specs.Prelude.{Some}
use Rattle.jfr_meta.specs.Attributes.{not_empty}
use Rattle.jfr_meta.proofs.Texts.{not_empty-none, not_empty-some}
use Rattle.jfr_meta.proofs.attributes.full_index.Goals as goal

pub returns-then-is_empty : goal.returns-then-is_empty
returns-then-is_empty c = sym (ap not_empty (sym c.text_at.ensures) ∙ not_empty-none c.text_at.result.now (sym c.if-is_empty.ensures))

pub returns-else-is_empty : goal.returns-else-is_empty
returns-else-is_empty c = sym (ap not_empty (sym c.text_at.ensures) ∙ (not_empty-some c.text_at.result.now c.text_at.utf8 (sym c.if-is_empty.ensures) ∙ ap Some c.text_at.ensures))
