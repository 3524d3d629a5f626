use Rattle.std.proofs.Common.{[], ◌∷◌, ◌++◌, ap, arith, map, take, sym, ◌∙◌}
use Rattle.jfr_layout.specs.Names.{value_under}
use Rattle.jfr_layout.proofs.Lists.{listed_at, map_next}
use Rattle.jfr_verify.proofs.strings.numbers_of.Goals as goal

pub loop-text-preserved : goal.loop-text-preserved
loop-text-preserved c =
    let number = value_under c.args.firsts.now in
    let strings = c.args.strings.now in
    let i = c.loop-text.text-index in
    let at = listed_at c.as_slice-text-items.ensures i c.text-item.result (omega arith) c.text-item.is in
    c.in_ok-push.ensures.items
    ∙ (ap (λ xs. xs ++ c.number_of.result ∷ []) c.loop-text.invariant
    ∙ (ap (λ x. map number (take i strings) ++ x ∷ []) (c.number_of.ensures ∙ ap number c.as_str.ensures)
    ∙ sym (map_next number strings i c.text-item.result at)))
