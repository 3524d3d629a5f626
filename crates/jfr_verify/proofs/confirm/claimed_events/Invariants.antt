use Rattle.std.proofs.Common.{◌≡◌, ◌<◌, ℕ, length, false, Some, slice_get}
use Rattle.jfr_verify.specs.declared.line.Parent.TheVariants.{OfEvent}
use Rattle.jfr_verify.proofs.confirm.claimed_events.Given as goal

abbrev pub invariant-loop-parent : goal.invariant-loop-parent
invariant-loop-parent l = record {
  claimed : (i t : ℕ) → t < l.parent-index → slice_get l.parents t ≡ Some (OfEvent i) → slice_get l.claimed.items i ≡ Some false → ⊥;
  size : length l.claimed.items ≡ l.count;
}
