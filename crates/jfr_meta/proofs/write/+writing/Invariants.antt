use Rattle.std.proofs.Common.{◌*◌, ◌+◌, ◌≡◌, ◌++◌, take}
use Rattle.std.specs.List.{flat_map}
use Rattle.jfr_meta.specs.Trees.{count, counts_of}
use Rattle.jfr_meta.specs.Written.{tree_bytes}
use Rattle.jfr_meta.proofs.write.+writing.Given as goal

abbrev pub decreases-push_element : goal.decreases-push_element
decreases-push_element l = 2 * count l.element.now

abbrev pub decreases-push_elements : goal.decreases-push_elements
decreases-push_elements l = 2 * counts_of l.elements.now + 1

abbrev pub invariant-push_elements-loop-element : goal.invariant-push_elements-loop-element
invariant-push_elements-loop-element l = l.out.items ≡ l.initial.out.items ++ flat_map tree_bytes (take l.element-index l.element-items)
