use Rattle.jfr_layout.proofs.FieldsKnown.{ClassesKnown}
use Rattle.jfr_layout.proofs.resolved.class_layouts_of.Given as goal

abbrev pub invariant-loop-at : goal.invariant-loop-at
invariant-loop-at l = ClassesKnown l.list l.at l.class_layouts.items
