use Rattle.std.proofs.Common.{take}
use Rattle.jfr_meta.specs.Rewritten.{WrotePairs}
use Rattle.jfr_meta.proofs.rewriting.push_pairs.Given as goal

abbrev pub invariant-loop-pair : goal.invariant-loop-pair
invariant-loop-pair l = WrotePairs l.strings (take l.pair-index l.pairs) l.initial.tree l.tree
