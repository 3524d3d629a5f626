use Rattle.std.proofs.Common.{sym, ◌∙◌, arith, ap, map}
use Rattle.jfr_meta.specs.Described.{is_category, annotations_of}
use Rattle.jfr_meta.proofs.Judging.{after_ref}
use Rattle.jfr_meta.proofs.Categories.{found_at, passed_at}
use Rattle.jfr_meta.proofs.class.category_annotation.Goals as goal

pub returns-then-is_category : goal.returns-then-is_category
returns-then-is_category c = record {
  ok = λ hs known.
      (let xs = annotations_of c.args.strings.now c.args.element.now in
      let same = ap (map (λ e. e.now)) c.deref-annotation-items.ensures.value ∙ c.in_ok-annotations.ensures.ok in
      let at = after_ref c.deref-annotation-items.result.now xs c.loop-annotation.annotation-index c.annotation-item.result same (omega arith) c.annotation-item.is in
      sym (c.loop-annotation.invariant hs known ∙ found_at (is_category c.args.strings.now hs) xs c.loop-annotation.annotation-index c.annotation-item.result.now at
      (sym (c.is_category.ensures hs known) ∙ c.if-is_category.true)));
}

pub loop-annotation-preserved : goal.loop-annotation-preserved
loop-annotation-preserved c = λ hs known.
    (let xs = annotations_of c.args.strings.now c.args.element.now in
    let same = ap (map (λ e. e.now)) c.deref-annotation-items.ensures.value ∙ c.in_ok-annotations.ensures.ok in
    let at = after_ref c.deref-annotation-items.result.now xs c.loop-annotation.annotation-index c.annotation-item.result same (omega arith) c.annotation-item.is in
    c.loop-annotation.invariant hs known ∙ passed_at (is_category c.args.strings.now hs) xs c.loop-annotation.annotation-index c.annotation-item.result.now at
    (sym (c.is_category.ensures hs known) ∙ c.if-is_category.false))
