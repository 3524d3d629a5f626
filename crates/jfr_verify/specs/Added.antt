-- What is added to the lines of a receipt.
use Rattle.std.specs.Prelude.{◌≡◌, ℕ, List, ◌++◌}
use Rattle.jfr_worklist.specs.Marks.{marked_at}
use Rattle.jfr_verify.specs.declared.lines.Lines.{Lines}
use Rattle.jfr_verify.specs.declared.line.Parent.{Parent}
use Rattle.jfr_verify.specs.Receipts.{new_lines}

-- Each of these entries has a line now; those that had none have a new one, with the current parent.
pub record Adds (numbers : List ℕ) (old new : Lines) : Type 0 where
  pub marks : new.flags.items ≡ marked_at old.flags.items numbers
  pub lines : new.items.items ≡ old.items.items ++ new_lines old.flags.items old.parent numbers
  pub parent : new.parent ≡ old.parent

-- As `Adds`, with this parent as the current one, whichever was current before.
pub record AddsOf (parent : Parent) (numbers : List ℕ) (old new : Lines) : Type 0 where
  pub marks : new.flags.items ≡ marked_at old.flags.items numbers
  pub lines : new.items.items ≡ old.items.items ++ new_lines old.flags.items parent numbers
