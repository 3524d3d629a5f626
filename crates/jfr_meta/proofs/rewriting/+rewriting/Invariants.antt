use Rattle.std.proofs.Common.{take}
use Rattle.jfr_meta.specs.Rewritten.{WroteTrees}
use Rattle.jfr_meta.proofs.rewriting.+rewriting.Given as goal

abbrev pub decreases-push_element : goal.decreases-push_element
decreases-push_element l = goal.size-push_element l

abbrev pub decreases-push_elements : goal.decreases-push_elements
decreases-push_elements l = goal.size-push_elements l

abbrev pub invariant-push_elements-loop-element : goal.invariant-push_elements-loop-element
invariant-push_elements-loop-element l = WroteTrees l.strings (take l.element-index l.elements) l.initial.tree l.tree
