-- What a worklist holds after numbers are put into it.
use Rattle.std.specs.Prelude.{◌≡◌, ℕ, List}
use Rattle.jfr_worklist.specs.Marks.{marked_at}
use Rattle.jfr_worklist.specs.Worklists.{ordered_all}
use Rattle.jfr_worklist.specs.declared.worklist.Worklist.{Worklist}

-- These numbers are marked too, and each that was not marked before is added to the order.
pub record Puts (numbers : List ℕ) (old new : Worklist) : Type 0 where
  pub marks : new.flags.items ≡ marked_at old.flags.items numbers
  pub order : new.order.items ≡ ordered_all old.flags.items old.order.items numbers
