use Rattle.std.proofs.Common.{◌∙◌, ap, sym, map, take, ◌++◌, ◌∷◌, [], arith}
use Rattle.std.proofs.lemmas.List.{map_more}
use Rattle.jfr_meta.specs.Attributes.{text_at}
use Rattle.jfr_meta.proofs.values.texts_at.Goals as goal

pub loop-index-preserved : goal.loop-index-preserved
loop-index-preserved c =
    let text = text_at c.args.strings.now in
    let i = c.loop-index.index-index in
    c.in_ok-push_text.ensures.ok
    ∙ (ap (λ z. z ++ c.in_ok-text.text ∷ []) c.loop-index.invariant
    ∙ (ap (λ z. map text (take i c.args.indices.now) ++ z ∷ []) c.in_ok-text.ensures.ok
    ∙ sym (map_more text c.args.indices.now i 0 (omega arith))))
