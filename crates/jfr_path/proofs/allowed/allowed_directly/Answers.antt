use Rattle.std.proofs.Common.{ap, arith, map, sym, take, ◌++◌, ◌∙◌, ◌∷◌, []}
use Rattle.jfr_filter.specs.Filters.{allows_class}
use Rattle.jfr_layout.proofs.Lists.{item_at}
use Rattle.jfr_path.specs.Strings.{is_allowed}
use Rattle.jfr_path.proofs.ListLaws.{map_next}
use Rattle.jfr_path.proofs.allowed.allowed_directly.Goals as goal

pub loop-class-preserved : goal.loop-class-preserved
loop-class-preserved c =
    let g = c.args.filter.now in
    let class = c.class-item.result in
    let items = c.as_slice-class-items.result.now in
    let i = c.loop-class.class-index in
    let is = c.allows_class.ensures ∙ ap (λ name. allows_class g name class.categories) c.as_str.ensures in
    c.in_ok-push.ensures.items
    ∙ (ap (λ z. z ++ c.allows_class.result ∷ []) c.loop-class.invariant
    ∙ (ap (λ b. map (is_allowed g) (take i items) ++ b ∷ []) is
    ∙ sym (map_next (is_allowed g) items i class (item_at items i class (omega arith) c.class-item.is))))
