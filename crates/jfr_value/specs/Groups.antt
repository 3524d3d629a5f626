-- The groups of compressed integers, tested in sixteen bytes at once.
use Rattle.std.specs.Prelude.{◌≡◌, ℕ, ◌+◌, ◌<◌, List, slice_index, nat_lt, if◌then◌else◌}
use Rattle.std.specs.Int.{bit_at}

-- A bit for each of sixteen bytes, which is set if the byte's top bit is 0. Among the first eight groups of
-- an integer, such a byte is the last one.
abbrev pub AreLastGroups : List ℕ → ℕ → ℕ → Type 0
AreLastGroups x at lasts = (k : ℕ) → k < 16 → bit_at lasts k ≡ (if nat_lt (slice_index x (at + k)) 128 then 1 else 0)
