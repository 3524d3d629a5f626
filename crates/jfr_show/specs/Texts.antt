-- The pieces that texts are made of.
use Rattle.std.specs.Prelude.{ℕ, ◌*◌, ◌/◌, ◌%◌, ◌||◌, ◌==◌, Bool, List, [], ◌∷◌, ◌++◌, nat_lt, replicate, if◌then◌else◌}
use Rattle.std.specs.Char.{digit_char}
use Rattle.std.specs.List.{flat_map, list_all}

-- Whether all characters are ASCII.
abbrev pub is_ascii : List ℕ → Bool
is_ascii text = list_all (λ b. nat_lt b 128) text

-- The end of a line.
abbrev pub newline : List ℕ
newline = 10 ∷ []

-- Two spaces for each level.
abbrev pub indent : ℕ → List ℕ
indent level = replicate (2 * level) 32

-- The two hexadecimal digits of a byte, in lower case.
abbrev pub hex_byte : ℕ → List ℕ
hex_byte b = digit_char (b / 16) ∷ digit_char (b % 16) ∷ []

-- A quote and a backslash get a backslash before them; a character below U+0020, and U+007F, is \u and its
-- number in four hexadecimal digits; every other character is unchanged.
abbrev pub escaped : ℕ → List ℕ
escaped c =
    if c == 34 then 92 ∷ 34 ∷ []
    else if c == 92 then 92 ∷ 92 ∷ []
    else if nat_lt c 32 || (c == 127) then 92 ∷ 117 ∷ 48 ∷ 48 ∷ hex_byte c
    else c ∷ []

-- A text between two quotes.
abbrev pub quoted : List ℕ → List ℕ
quoted text = 34 ∷ [] ++ flat_map escaped text ++ 34 ∷ []
