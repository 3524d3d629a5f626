use Rattle.jfr_verify.proofs.CopyLaws.{InCopies}
use Rattle.jfr_verify.proofs.copies.marks_of_copies.Given as goal

abbrev pub invariant-loop-number : goal.invariant-loop-number
invariant-loop-number l = InCopies l.a l.b l.number l.from l.marks.items
