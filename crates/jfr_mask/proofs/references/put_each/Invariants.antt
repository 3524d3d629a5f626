use Rattle.std.proofs.Common.{drop}
use Rattle.jfr_mask.proofs.PuttingRest.{Rests}
use Rattle.jfr_mask.proofs.references.put_each.Given as goal

abbrev pub invariant-loop-number : goal.invariant-loop-number
invariant-loop-number l = Rests l.numbers (drop l.number-index l.numbers) l.fn.list l.list
