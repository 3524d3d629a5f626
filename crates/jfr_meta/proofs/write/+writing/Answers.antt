use Rattle.std.proofs.Common.{ap, ◌∙◌, arith, ◌++◌, length}
use Rattle.std.specs.List.{flat_map}
use Rattle.jfr_meta.specs.Trees.{counts_of}
use Rattle.jfr_meta.specs.Written.{tree_bytes}
use Rattle.jfr_meta.proofs.WrittenLaws.{children_less, member_less, element_steps, on_ok}
use Rattle.jfr_meta.proofs.write.+writing.Goals as goal

pub push_element-push_elements-requires : goal.push_element-push_elements-requires
push_element-push_elements-requires t c = (let e = ap counts_of c.children-2.ensures in let d = c.decreases in omega (arith, children_less c.args.element.now), tt)

pub push_element-returns : goal.push_element-returns
push_element-returns t c = record {
  ok = on_ok c.push_elements.result c.push_elements.new.out.items (c.push_var-3.new.out.items ++ flat_map tree_bytes c.children-2.result.now)
      (c.args.out.now.items ++ tree_bytes c.args.element.now) c.push_elements.ensures.ok
      (element_steps c.args.element.now c.args.out.now.items c.push_var.new.out.items c.push_var-2.new.out.items c.push_pairs.new.out.items c.push_var-3.new.out.items c.name.result c.len.result
      c.len-2.result c.attributes-2.result.now c.children-2.result.now
      c.in_ok-push_var.ensures.ok c.name.ensures c.in_ok-push_var-2.ensures.ok (c.len.ensures ∙ ap length c.attributes.ensures) c.in_ok-push_pairs.ensures.ok c.attributes-2.ensures
      c.in_ok-push_var-3.ensures.ok (c.len-2.ensures ∙ ap length c.children.ensures) c.children-2.ensures);
}

pub push_elements-push_element-requires : goal.push_elements-push_element-requires
push_elements-push_element-requires t c = (
  let d = c.decreases in let e = ap counts_of c.as_slice-element-items.ensures in omega
      (arith, member_less c.as_slice-element-items.result.now c.loop-element.element-index c.element-item.result c.element-item.result (omega arith) c.element-item.is),
  tt,
)
