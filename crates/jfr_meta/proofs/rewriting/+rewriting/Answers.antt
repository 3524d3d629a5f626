use Rattle.std.proofs.Common.{◌≡◌, ◌+◌, Some, take, slice_get, ap, sym, ◌∙◌, arith, length}
use Rattle.std.proofs.lemmas.Option.{slice_get-get_or}
use Rattle.jfr_meta.specs.Trees.{counts_of}
use Rattle.jfr_meta.proofs.Judging.{take_next}
use Rattle.jfr_meta.proofs.RewriteLaws.{element_done, on_ok_so, trees_more}
use Rattle.jfr_meta.proofs.WrittenLaws.{children_less, member_less}
use Rattle.jfr_meta.proofs.rewriting.+rewriting.Goals as goal

pub push_element-push_elements-requires : goal.push_element-push_elements-requires
push_element-push_elements-requires t c =
    (let e = ap counts_of c.children-2.ensures in let d = c.decreases in omega (arith, children_less c.args.element.now), c.in_ok-push_head.ensures.ok.tabled.table)

pub push_element-returns : goal.push_element-returns
push_element-returns t c = record {
  ok = on_ok_so c.push_elements.result
      (λ w. element_done c.args.strings.now c.args.element.now c.children-2.result.now c.len.result c.args.tree.now c.push_head.new.tree c.push_elements.new.tree c.children-2.ensures
      (c.len.ensures ∙ ap length c.children.ensures) c.in_ok-push_head.ensures.ok w)
      c.push_elements.ensures.ok;
}

pub push_elements-push_element-requires : goal.push_elements-push_element-requires
push_elements-push_element-requires t c = (
  let d = c.decreases in
      let e = ap counts_of c.as_slice-element-items.ensures in
      omega (arith, member_less c.as_slice-element-items.result.now c.loop-element.element-index c.element-item.result c.element-item.result (omega arith) c.element-item.is),
  c.loop-element.invariant.tabled.table,
)

pub push_elements-loop-element-preserved : goal.push_elements-loop-element-preserved
push_elements-loop-element-preserved t c =
    let ts = c.args.elements.now in
    let items = c.as_slice-element-items.result.now in
    let i = c.loop-element.element-index in
    let x = c.element-item.result in
    let e : slice_get ts i ≡ Some x = ap (λ z. slice_get z i) (sym c.as_slice-element-items.ensures) ∙ (slice_get-get_or items i x (omega arith) ∙ ap (λ z. Some z) (sym c.element-item.is)) in
    trees_more c.args.strings.now (take i ts) (take (i + 1) ts) x c.args.tree.now c.loop-element.tree c.push_element.new.tree
    (sym (take_next ts i x e)) c.loop-element.invariant c.in_ok-push_element.ensures.ok
