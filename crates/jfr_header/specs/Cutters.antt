-- What contracts see of a cutter.
use Rattle.std.specs.Prelude.{◌≡◌, ℕ, ◌+◌, ◌<◌, ◌≤◌, ◌^◌, Bool, true, List}

-- The bytes of the last chunk; the start and the number of the next chunk; whether a chunk was given; whether
-- every answer so far was a chunk.
pub record Cutter : Type 0 where
  pub bytes : List ℕ
  pub start : ℕ
  pub number : ℕ
  pub given : Bool
  pub live : Bool

-- Starts and numbers don't overflow, and a chunk that was given has a number.
pub record IsInRange (start number : ℕ) (given : Bool) : Type 0 where
  pub low : start < 2 ^ 62
  pub numbered : number ≤ start + 2 ^ 62
  pub counted : given ≡ true → 1 ≤ number
