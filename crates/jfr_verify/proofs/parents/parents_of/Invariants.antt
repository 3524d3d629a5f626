use Rattle.std.proofs.Common.{take}
use Rattle.jfr_verify.proofs.ParentLaws.{InOwners}
use Rattle.jfr_verify.proofs.parents.parents_of.Given as goal

abbrev pub invariant-loop-line : goal.invariant-loop-line
invariant-loop-line l = InOwners l.count (take l.line-index l.lines) l.seen.items l.parents.items
