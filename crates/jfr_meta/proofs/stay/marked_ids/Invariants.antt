use Rattle.std.proofs.Common.{◌≡◌, ℕ}
use Rattle.jfr_meta.specs.Stays.{is_in, marked_below}
use Rattle.jfr_meta.proofs.stay.marked_ids.Given as goal

abbrev pub invariant-loop-at : goal.invariant-loop-at
invariant-loop-at l = (id : ℕ) → is_in l.ids id ≡ marked_below l.flags l.classes l.at id
