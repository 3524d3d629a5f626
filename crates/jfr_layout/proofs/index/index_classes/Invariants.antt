use Rattle.jfr_layout.proofs.IdsSeen.{IdsSeen}
use Rattle.jfr_layout.proofs.index.index_classes.Given as goal

abbrev pub invariant-loop-at : goal.invariant-loop-at
invariant-loop-at l = IdsSeen l.list l.at l.index
