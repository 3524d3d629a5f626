use Rattle.std.proofs.Common.{drop}
use Rattle.jfr_meta.specs.Values.{HasFirst}
use Rattle.jfr_meta.proofs.values.first_values.Given as goal

abbrev pub invariant-loop-at : goal.invariant-loop-at
invariant-loop-at l = HasFirst l.strings (drop l.at l.pairs) l.values
