use Rattle.std.proofs.Common.{map, take}
use Rattle.jfr_meta.specs.Rewritten.{WroteTrees}
use Rattle.jfr_meta.proofs.rewriting.push_chosen.Given as goal

abbrev pub invariant-loop-element : goal.invariant-loop-element
invariant-loop-element l = WroteTrees l.strings (map (λ e. e.now) (take l.element-index l.elements)) l.initial.tree l.tree
