use Rattle.std.proofs.Common.{rules, ◌≡◌, ◌-◌, [], ◌∷◌, ◌++◌, None, Some, ap, length, replicate, slice_set, string_bytes, subst, sym, ◌∙◌}
use Rattle.jfr_stacks.specs.Cached.{AreIndices, sized, texts_at}
use Rattle.jfr_stacks.proofs.RoleLaws.{indices_kept, on_err, same_texts, texts_kept}
use Rattle.jfr_stacks.proofs.texts.EntryTexts.keep.Goals as goal

pub returns-in_err-grow-clause-unchanged : goal.returns-in_err-grow-clause-unchanged
returns-in_err-grow-clause-unchanged c =
    let texts = c.self.inside.texts.items in
    let indices = c.self.inside.indices.items in
    let t = c.args.text in
    on_err c.from_residual-in_err-grow.result _
    (ap (λ z. texts_at z c.grow.new.indices.items) c.in_ok-push.ensures.items
    ∙ (ap (texts_at (texts ++ t ∷ [])) c.in_err-grow.ensures.unchanged
    ∙ (same_texts texts t indices c.self.invariant.each ∙ c.self.view_is)))

pub invariant_of-self-2 : goal.invariant_of-self-2
invariant_of-self-2 c =
    let texts = c.self.inside.texts.items in
    let indices = c.self.inside.indices.items in
    let n = c.args.number in
    let t = c.args.text in
    let more = c.args.entries - length indices in
    let l : c.len-index.result ≡ length texts = search rules in
    subst (λ z. AreIndices z (slice_set c.grow.new.indices.items n (Some c.len-index.result))) (sym c.in_ok-push.ensures.items)
    (subst (λ z. AreIndices (texts ++ t ∷ []) (slice_set z n (Some c.len-index.result))) (sym c.in_ok-grow.ensures.ok)
    (subst (λ k. AreIndices (texts ++ t ∷ []) (slice_set (indices ++ replicate more None) n (Some k))) (sym l) (indices_kept texts t indices more n c.self.invariant)))

pub returns-clause-ok : goal.returns-clause-ok
returns-clause-ok c =
    let texts = c.self.inside.texts.items in
    let indices = c.self.inside.indices.items in
    let n = c.args.number in
    let t = c.args.text in
    let more = c.args.entries - length indices in
    let l : c.len-index.result ≡ length texts = search rules in
    ap (λ z. texts_at z (slice_set c.grow.new.indices.items n (Some c.len-index.result))) c.in_ok-push.ensures.items
    ∙ (ap (λ z. texts_at (texts ++ t ∷ []) (slice_set z n (Some c.len-index.result))) c.in_ok-grow.ensures.ok
    ∙ (ap (λ k. texts_at (texts ++ t ∷ []) (slice_set (indices ++ replicate more None) n (Some k))) l
    ∙ (texts_kept texts t indices c.args.entries n c.self.invariant
    ∙ ap (λ z. slice_set (sized c.args.entries z) n (Some (string_bytes t))) c.self.view_is)))
