use Rattle.std.proofs.Common.{◌≡◌, ◌+◌, ap, ◌∙◌, arith, length}
use Rattle.std.specs.List.{flat_map}
use Rattle.jfr_base.specs.Integer.{spell}
use Rattle.jfr_meta.specs.Written.{pair_bytes, tree_bytes, capped}
use Rattle.jfr_meta.specs.Trees.{counts_of, name_of, pairs_of, children_of}
use Rattle.jfr_meta.proofs.WrittenLaws.{children_less, member_less, element_measured, caps}
use Rattle.jfr_meta.proofs.write.+measuring.Goals as goal

pub element_len-elements_len-requires : goal.element_len-elements_len-requires
element_len-elements_len-requires t c = (let e = ap counts_of c.children-children.ensures in let d = c.decreases in omega (arith, children_less c.args.element.now), tt)

pub element_len-returns : goal.element_len-returns
element_len-returns t c =
    let t = c.args.element.now in
    let name : c.var_len.result ≡ length (spell (name_of t)) = c.var_len.ensures.exact ∙ ap (λ n. length (spell n)) c.name.ensures in
    let pairs : c.var_len-2.result ≡ length (spell (length (pairs_of t))) = c.var_len-2.ensures.exact ∙ ap (λ n. length (spell n)) (c.len.ensures ∙ ap length c.attributes-attributes.ensures) in
    let children : c.var_len-3.result ≡ length (spell (length (children_of t))) = c.var_len-3.ensures.exact ∙ ap (λ n. length (spell n)) (c.len-2.ensures ∙ ap length c.children-children.ensures) in
    let all : length (tree_bytes t) ≡ length (flat_map pair_bytes (pairs_of t)) + (c.var_len.result + c.var_len-2.result + c.var_len-3.result) + length (flat_map tree_bytes (children_of t)) =
    omega (arith, element_measured t) in
    caps (c.var_len.result + c.var_len-2.result + c.var_len-3.result) (length (tree_bytes t)) c.pairs_len.result
    (length (flat_map pair_bytes (pairs_of t))) 18446744073709551615 c.saturating_add.result c.saturating_add-2.result c.elements_len.result (length (flat_map tree_bytes (children_of t)))
    (c.pairs_len.ensures ∙ ap (λ z. capped (length (flat_map pair_bytes z))) c.attributes-attributes.ensures) c.saturating_add.ensures c.saturating_add-2.ensures
    (c.elements_len.ensures ∙ ap (λ z. capped (length (flat_map tree_bytes z))) c.children-children.ensures) all

pub elements_len-element_len-requires : goal.elements_len-element_len-requires
elements_len-element_len-requires t c = (
  let d = c.decreases in let e = ap counts_of c.as_slice-element-items.ensures in omega
      (arith, member_less c.as_slice-element-items.result.now c.loop-element.element-index c.element-item.result c.element-item.result (omega arith) c.element-item.is),
  tt,
)
