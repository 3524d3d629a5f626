-- A renumberer of one chunk.
use Rattle.std.specs.Prelude.{ℕ, List}
use Rattle.jfr_renumber.specs.Numbers.{NumberedPairs}

-- The new keys of all that is used, and the output chunk with them.
pub record Renumbering : Type 0 where
  pub keys : NumberedPairs
  pub bytes : List ℕ
