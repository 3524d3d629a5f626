use Rattle.std.proofs.Common.{ℕ, ◌<◌}
use Rattle.jfr_mask.specs.Plain.{IsRightAt}
use Rattle.jfr_mask.proofs.plain.are_right.Given as goal

abbrev pub invariant-loop-index : goal.invariant-loop-index
invariant-loop-index l = (index : ℕ) → index < l.index → IsRightAt l.masked l.classes l.flags index
