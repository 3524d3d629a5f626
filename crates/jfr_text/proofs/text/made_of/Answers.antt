use Rattle.std.proofs.Common.{◌++◌, ap, ◌∙◌}
use Rattle.std.proofs.lemmas.Str.{chars-nil}
use Rattle.std.specs.Str.{chars}
use Rattle.jfr_text.proofs.text.made_of.Goals as goal

pub loop-character-init : goal.loop-character-init
loop-character-init c =
    let all = c.into_iter-character-iterator.result in
    ap (λ bytes. chars bytes ++ all) c.new-text.ensures.bytes ∙ ap (λ cs. cs ++ all) chars-nil
