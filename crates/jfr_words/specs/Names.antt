-- Names of files and folders.
use Rattle.std.specs.Prelude.{ℕ, Bool, false, not, ◌==◌, ◌&&◌, List, [], ◌∷◌, Option, None, Some, if◌then◌else◌}

-- A name isn't empty and doesn't begin with a dash.
abbrev pub is_name : List ℕ → Bool
is_name [] = false
is_name (c ∷ cs) = not (c == 45)

-- The word, if it is a name.
abbrev pub name_in : List ℕ → Option (List ℕ)
name_in word = if is_name word then Some word else None

-- The name, if exactly one word is left and it is a name.
abbrev pub only_name : List (List ℕ) → Option (List ℕ)
only_name (word ∷ []) = name_in word
only_name _ = None

-- The two names, if exactly two words are left and both are names.
abbrev pub two_names : List (List ℕ) → Option (List ℕ × List ℕ)
two_names (first ∷ second ∷ []) = if is_name first && is_name second then Some (first, second) else None
two_names _ = None

-- The three names, if exactly three words are left and all are names.
abbrev pub three_names : List (List ℕ) → Option (List ℕ × List ℕ × List ℕ)
three_names (first ∷ second ∷ third ∷ []) = if is_name first && is_name second && is_name third then Some (first, second, third) else None
three_names _ = None
