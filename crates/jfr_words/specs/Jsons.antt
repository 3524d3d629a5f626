-- `--json`, as the only option of a command.
use Rattle.std.specs.Prelude.{ℕ, Bool, false, List, [], ◌∷◌, if◌then◌else◌, codes}
use Rattle.std.specs.Str.{bytes_eq}

-- The word is `--json`.
abbrev pub is_json : List ℕ → Bool
is_json word = bytes_eq word (codes "--json")

-- The first word is `--json`.
abbrev pub asks_json : List (List ℕ) → Bool
asks_json [] = false
asks_json (word ∷ rest) = is_json word

-- The words without `--json`, if it is the first of them.
abbrev pub after_json : List (List ℕ) → List (List ℕ)
after_json [] = []
after_json (word ∷ rest) = if is_json word then rest else word ∷ rest
