use Rattle.std.proofs.Common.{◌*◌, ◌+◌, ◌≡◌, take, length}
use Rattle.std.specs.List.{flat_map}
use Rattle.jfr_meta.specs.Trees.{count, counts_of}
use Rattle.jfr_meta.specs.Written.{tree_bytes, capped}
use Rattle.jfr_meta.proofs.write.+measuring.Given as goal

abbrev pub decreases-element_len : goal.decreases-element_len
decreases-element_len l = 2 * count l.element.now

abbrev pub decreases-elements_len : goal.decreases-elements_len
decreases-elements_len l = 2 * counts_of l.elements.now + 1

abbrev pub invariant-elements_len-loop-element : goal.invariant-elements_len-loop-element
invariant-elements_len-loop-element l = l.len ≡ capped (length (flat_map tree_bytes (take l.element-index l.element-items)))
