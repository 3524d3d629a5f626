use Rattle.std.proofs.Common.{arith}
use Rattle.jfr_meta.proofs.Categories.{ids_next}
use Rattle.jfr_meta.proofs.class.category_ids.Goals as goal

pub loop-element-preserved : goal.loop-element-preserved
loop-element-preserved c = ids_next c.args.strings.now c.args.elements.now c.loop-element.element-index c.element-item.result c.loop-element.ids c.add_category.new.ids c.loop-element.invariant
    (omega arith) c.element-item.is c.in_ok-add_category.ensures.ok
