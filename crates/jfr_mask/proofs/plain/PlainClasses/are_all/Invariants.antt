use Rattle.std.proofs.Common.{ℕ, ◌<◌}
use Rattle.jfr_mask.specs.Plain.{IsPlain}
use Rattle.jfr_mask.proofs.plain.PlainClasses.are_all.Given as goal

abbrev pub invariant-loop-index : goal.invariant-loop-index
invariant-loop-index l = (index : ℕ) → index < l.index → IsPlain l.self.flags.items index
