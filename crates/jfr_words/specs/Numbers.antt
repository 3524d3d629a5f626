-- Numbers as words.
use Rattle.std.specs.Prelude.{ℕ, ◌&&◌, nat_le, List, Option, None, Some, option_and_then, if◌then◌else◌}
use Rattle.jfr_base.specs.Decimal.{decimal_number}

-- The number, if it is at least `low` and at most `high`.
abbrev pub within : ℕ → ℕ → ℕ → Option ℕ
within low high n = if nat_le low n && nat_le n high then Some n else None

-- The number that a word spells, if it is in this range.
abbrev pub number_in : ℕ → ℕ → List ℕ → Option ℕ
number_in low high word = option_and_then (within low high) (decimal_number word)
