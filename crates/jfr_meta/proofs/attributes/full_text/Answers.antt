use Rattle.std.proofs.Common.{◌≡◌, ◌∙◌, ap, sym}
use Rattle.std.specs.Prelude.{None, Some, slice_get}
use Rattle.std.specs.Option.{option_copied}
use Rattle.jfr_meta.specs.Attributes.{not_empty}
use Rattle.jfr_meta.proofs.Texts.{not_empty-none, not_empty-some, text_missing, text_there}
use Rattle.jfr_meta.proofs.attributes.full_text.Goals as goal

pub returns-in_err-text : goal.returns-in_err-text
returns-in_err-text c =
    let missing : slice_get c.args.strings.now c.args.index ≡ None = sym c.text.ensures ∙ ap option_copied c.in_err-text.was in
    ap option_copied c.from_residual.ensures ∙ sym (ap not_empty (text_missing c.args.strings.now c.args.index missing))

pub returns-then-is_empty : goal.returns-then-is_empty
returns-then-is_empty c =
    let there : slice_get c.args.strings.now c.args.index ≡ Some c.in_ok-text.text.now = sym c.text.ensures ∙ ap option_copied c.in_ok-text.was in
    sym (ap not_empty (text_there c.args.strings.now c.args.index c.in_ok-text.text.now there) ∙ (ap not_empty (sym c.as_str.ensures) ∙ not_empty-none c.as_str.result.now (sym c.if-is_empty.ensures)))

pub returns-else-is_empty : goal.returns-else-is_empty
returns-else-is_empty c =
    let there : slice_get c.args.strings.now c.args.index ≡ Some c.in_ok-text.text.now = sym c.text.ensures ∙ ap option_copied c.in_ok-text.was in
    sym (ap not_empty (text_there c.args.strings.now c.args.index c.in_ok-text.text.now there)
    ∙ (ap not_empty (sym c.as_str.ensures) ∙ (not_empty-some c.as_str.result.now c.as_str.utf8 (sym c.if-is_empty.ensures) ∙ ap Some c.as_str.ensures)))
