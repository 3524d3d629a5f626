use Rattle.jfr_layout.proofs.Numbered.{NumberedSoFar}
use Rattle.jfr_layout.proofs.numbers.number_names.Given as goal

-- The fields so far have their numbers.
abbrev pub invariant-loop-number : goal.invariant-loop-number
invariant-loop-number l = NumberedSoFar l.fields l.number l.firsts l.numbers.items
