use Rattle.std.proofs.Common.{◌≡◌, ◌∙◌, ap, sym}
use Rattle.std.specs.Prelude.{IfOk, None, slice_get}
use Rattle.std.specs.Option.{option_copied}
use Rattle.std.proofs.Common.{subst}
use Rattle.std.proofs.lemmas.Str.{chars-nil}
use Rattle.jfr_meta.proofs.Texts.{text_missing}
use Rattle.jfr_meta.proofs.values.shared_text.Goals as goal

pub returns-in-None : goal.returns-in-None
returns-in-None c =
    let missing : slice_get c.args.strings.now c.args.index ≡ None = sym c.text.ensures ∙ ap option_copied c.in-None.is in
    record { ok = subst (λ z. IfOk c.make.result (λ made. made ≡ z)) (chars-nil ∙ sym (text_missing c.args.strings.now c.args.index missing)) c.make.ensures.ok }
