use Rattle.std.proofs.Common.{◌≡◌, map, arith, ap, sym, ◌∙◌, subst}
use Rattle.jfr_meta.specs.Attributes.{text_at}
use Rattle.jfr_verify.specs.Decided.{Decided}
use Rattle.jfr_verify.proofs.NamedLaws.{classes_decided}
use Rattle.jfr_verify.proofs.named.same_class.Goals as goal

pub returns : goal.returns
returns c =
    let f = text_at c.args.numbers.now.one.now in
    let g = text_at c.args.numbers.now.other.now in
    let a : c.args.one.class.now.id ≡ c.args.other.class.now.id = omega (arith, c.if-one-other.false) in
    let e = ap (map f) (sym c.deref.ensures.value) ∙ (c.if-not-same_texts.ensures ∙ ap (map g) c.deref-2.ensures.value) in
    let h = subst (λ z. Decided (map f z ≡ map g c.args.other.names.now.categories.items) c.same_texts-2.result) c.deref-3.ensures.value
    (subst (λ z. Decided (map f c.deref-3.result.now ≡ map g z) c.same_texts-2.result) c.deref-4.ensures.value c.same_texts-2.ensures) in
    classes_decided c.args.numbers.now.one.now c.args.numbers.now.other.now c.args.one.class.now c.args.other.class.now c.args.one.names.now c.args.other.names.now c.requires.one c.requires.other a
    c.if-not-same_shapes.ensures c.if-not-same_text.ensures c.if-not-same_optional.ensures e c.same_texts-2.result h
