-- Patterns over texts, as lists of characters.
use Rattle.std.specs.Prelude.{ℕ, Bool, true, false, ◌&&◌, ◌||◌, ◌==◌, List, [], ◌∷◌, Option, Some, None, length, if◌then◌else◌}
use Rattle.std.specs.Option.{option_map_or}
use Rattle.std.specs.List.{list_any, slice_split}

-- The rest of a pattern matches some suffix of the text, which may be the whole text.
abbrev pub some_suffix : (List ℕ → Bool) → List ℕ → Bool
some_suffix rest [] = rest []
some_suffix rest (c ∷ cs) = rest (c ∷ cs) || some_suffix rest cs

-- The first character is p, or any if p is a question mark, and the rest of the pattern matches the others.
abbrev pub first_and : ℕ → (List ℕ → Bool) → List ℕ → Bool
first_and p rest [] = false
first_and p rest (c ∷ cs) = (p == 63 || p == c) && rest cs

-- A star matches any run of characters, a question mark exactly one, and every other character itself.
unfoldable pub glob : List ℕ → List ℕ → Bool
glob [] [] = true
glob [] (c ∷ cs) = false
glob (p ∷ ps) text = if p == 42 then some_suffix (glob ps) text else first_and p (glob ps) text

-- A star or a question mark is in the pattern.
abbrev pub has_wildcard : List ℕ → Bool
has_wildcard pattern = list_any (λ c. c == 42 || c == 63) pattern

-- The part after the last dot, if there is one.
abbrev pub after_last_dot : List ℕ → Option (List ℕ)
after_last_dot [] = None
after_last_dot (c ∷ cs) = option_map_or (λ r. Some r) (after_last_dot cs) (if c == 46 then Some cs else None)

-- The part of a name after its last dot; the whole name if it has none.
abbrev pub simple_name : List ℕ → List ℕ
simple_name name = option_map_or (λ r. r) (after_last_dot name) name

-- A list of patterns is a text cut at each comma.
abbrev pub patterns_in : List ℕ → List (List ℕ)
patterns_in list = slice_split (λ c. c == 44) list

-- Some part of the list is empty; an empty part isn't a pattern.
abbrev pub has_empty_part : List ℕ → Bool
has_empty_part list = list_any (λ part. length part == 0) (patterns_in list)
