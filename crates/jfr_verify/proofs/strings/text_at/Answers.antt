use Rattle.std.proofs.Common.{◌∙◌, ap, []}
use Rattle.std.specs.Prelude.{unwrap_or}
use Rattle.std.specs.Str.{chars}
use Rattle.std.proofs.lemmas.Str.{chars-nil}
use Rattle.std.proofs.lemmas.Option.{unwrap_or-slice_get}
use Rattle.jfr_meta.proofs.Texts.{text_or}
use Rattle.jfr_verify.proofs.strings.text_at.Goals as goal

pub returns : goal.returns
returns c =
    ap (λ z. chars z.now) c.unwrap_or.ensures
    ∙ (text_or c.get.result _ chars-nil ∙ (ap (λ z. unwrap_or z []) c.get.ensures ∙ unwrap_or-slice_get c.args.strings.now c.args.index []))
