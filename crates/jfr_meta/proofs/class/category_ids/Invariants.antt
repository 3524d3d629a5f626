use Rattle.std.proofs.Common.{map, take}
use Rattle.jfr_meta.specs.Described.{AreCategoryIds, heads}
use Rattle.jfr_meta.proofs.class.category_ids.Given as goal

abbrev pub invariant-loop-element : goal.invariant-loop-element
invariant-loop-element l = AreCategoryIds (heads l.strings (map (λ e. e.now) (take l.element-index l.elements))) l.ids
