use Rattle.std.proofs.Common.{◌≡◌, ◌+◌, Some, take, slice_get, ap, sym, ◌∙◌, arith, subst}
use Rattle.std.specs.Prelude.{codes, ◌||◌}
use Rattle.std.specs.List.{list_any}
use Rattle.std.proofs.lemmas.Option.{slice_get-get_or}
use Rattle.jfr_meta.specs.Rewritten.{WroteTree}
use Rattle.jfr_meta.specs.Slimmed.{first_changed, is_named, slim_holder, slim_unless}
use Rattle.jfr_meta.specs.Stays.{is_in}
use Rattle.jfr_meta.proofs.RewriteLaws.{trees_more}
use Rattle.jfr_meta.proofs.WithinLaws.{any_next, changed_next}
use Rattle.jfr_meta.proofs.slimming.push_top.Goals as goal

pub loop-element-preserved : goal.loop-element-preserved
loop-element-preserved c =
    let texts = c.args.strings.now in
    let ts = c.args.elements.now in
    let stays = is_in c.args.stay.now in
    let p = is_named texts (codes "metadata") in
    let f = slim_holder texts stays in
    let items = c.as_slice-element-items.result.now in
    let i = c.loop-element.element-index in
    let x = c.element-item.result in
    let e : slice_get ts i ≡ Some x = ap (λ z. slice_get z i) (sym c.as_slice-element-items.ensures) ∙ (slice_get-get_or items i x (omega arith) ∙ ap (λ z. Some z) (sym c.element-item.is)) in
    let found = c.loop-element.invariant.1 in
    let wrote = subst (λ b. WroteTree texts (slim_unless b texts stays x) c.loop-element.tree c.push_child.new.tree) found c.in_ok-push_child.ensures.ok in (
      trees_more texts (first_changed p f (take i ts)) (first_changed p f (take (i + 1) ts)) (slim_unless (list_any p (take i ts)) texts stays x) c.args.tree.now c.loop-element.tree
          c.push_child.new.tree (changed_next p f ts i x e) c.loop-element.invariant.0 wrote,
      c.is_found_by-found.ensures ∙ (ap (λ b. b || p x) found ∙ any_next p ts i x e),
    )
