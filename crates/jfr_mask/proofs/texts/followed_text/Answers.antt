use Rattle.std.proofs.Common.{◌≡◌, ◌+◌, ap, length, sym, ◌∙◌}
use Rattle.std.proofs.lemmas.Result.{IfOk-weaker}
use Rattle.jfr_layout.specs.declared.kind.Kind.TheVariants.{Text}
use Rattle.jfr_layout.specs.declared.shape.Shape.{Shape}
use Rattle.jfr_value.specs.declared.leaf.LeafKind.TheVariants.{Base}
use Rattle.jfr_value.specs.Leaves.{leaf_key, leaf_of}
use Rattle.jfr_value.specs.Nodes.{NodeAt, node_at}
use Rattle.jfr_chunk.specs.Paths.{text_of}
use Rattle.jfr_rewrite.specs.Copying.{string_shape}
use Rattle.jfr_mask.specs.Masked.{string_text}
use Rattle.jfr_mask.specs.MaskedLeaves.{leaf_text}
use Rattle.jfr_mask.proofs.LeafMasks.{text_leaf}
use Rattle.jfr_mask.proofs.TextLaws.{text_is}
use Rattle.jfr_mask.proofs.texts.followed_text.Goals as goal

pub returns : goal.returns
returns c =
    let p = c.args.chunk.now in
    let l = leaf_of c.args.leaf.now in
    let node : Shape → NodeAt = λ s. node_at s l.at (l.at + length l.spelled) in
    let text = text_leaf l.kind c.requires.string in
    let own = text_is p (node (string_shape l)) (string_shape l) l.spelled (leaf_key (Base Text) l.spelled) c.parts_are_valid.ensures.sound (c.requires.lies.string text) in
    let same : text_of p (node c.inline.result) ≡ leaf_text p l =
    ap (λ s. text_of p (node s)) c.inline.ensures ∙ (sym own ∙ ap (λ k. string_text p l.class l.spelled (leaf_key k l.spelled)) (sym text)) in
    record { ok = IfOk-weaker c.text_at.result (λ text. text ≡ text_of p (node c.inline.result)) (λ text. text ≡ leaf_text p l) (λ text e. e ∙ same) c.text_at.ensures.ok }
