use Rattle.jfr_layout.proofs.FieldsKnown.{FieldsKnown}
use Rattle.jfr_layout.proofs.resolved.layouts_of.Given as goal

abbrev pub invariant-loop-number : goal.invariant-loop-number
invariant-loop-number l = FieldsKnown l.list l.class l.field-items l.number l.layouts.items
