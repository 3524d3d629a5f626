-- Decimal numbers as words.
use Rattle.std.specs.Prelude.{ℕ, ◌&&◌, nat_lt, nat_le, List, length, Option, None, Some, if◌then◌else◌}
use Rattle.std.specs.Char.{is_ascii_digit}
use Rattle.std.specs.List.{list_all}
use Rattle.std.specs.Str.Parse.{digits_value}

-- The number that a word spells with one to nineteen digits. It may have leading zeros.
unfoldable pub decimal_number : List ℕ → Option ℕ
decimal_number word = if list_all is_ascii_digit word && nat_lt 0 (length word) && nat_le (length word) 19 then Some (digits_value 10 word) else None

-- The number, if it is below a bound.
abbrev pub below : ℕ → ℕ → Option ℕ
below bound n = if nat_lt n bound then Some n else None
