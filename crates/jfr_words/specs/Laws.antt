-- Lines of a command, its options and its names.
use Rattle.std.specs.Prelude.{ℕ, Bool, false, IsTrue, All, List, [], ◌∷◌, ◌++◌, if◌then◌else◌, codes}
use Rattle.std.specs.List.{flat_map, list_any}
use Rattle.std.specs.Str.{bytes_eq}

-- The options about a time window.
abbrev pub window_options : List (List ℕ)
window_options = codes "--from" ∷ codes "--to" ∷ codes "--always" ∷ []

-- The options of a filter.
abbrev pub filter_options : List (List ℕ)
filter_options = codes "--include-events" ∷ codes "--exclude-events" ∷ codes "--include-categories" ∷ codes "--exclude-categories" ∷ codes "--include-threads" ∷ codes "--exclude-threads" ∷ codes
    "--describe" ∷ window_options

-- The options of a command that take a value.
abbrev pub valued_options : List ℕ → List (List ℕ)
valued_options command =
    if bytes_eq command (codes "print") then codes "--depth" ∷ codes "--events" ∷ codes "--categories" ∷ window_options else
    if bytes_eq command (codes "scrub") then codes "--renumber" ∷ filter_options else
    if bytes_eq command (codes "disassemble") then codes "--output" ∷ codes "--max-chunks" ∷ codes "--max-size" ∷ [] else
    if bytes_eq command (codes "receipt") then filter_options else
    if bytes_eq command (codes "verify") then filter_options else
    if bytes_eq command (codes "stacks") then codes "--events" ∷ codes "--categories" ∷ window_options else
    if bytes_eq command (codes "mask") then codes "--strings" ∷ codes "--except" ∷ codes "--known" ∷ codes "--table" ∷ filter_options else
    []

-- The options of a command that take none.
abbrev pub bare_options : List ℕ → List (List ℕ)
bare_options command =
    if bytes_eq command (codes "print") then codes "--json" ∷ [] else
    if bytes_eq command (codes "summary") then codes "--json" ∷ [] else
    if bytes_eq command (codes "metadata") then codes "--json" ∷ [] else
    []

-- Whether words are an option of the command as it is given: its word, followed by its value, which may be
-- any word, if it takes one.
abbrev pub is_option : List ℕ → List (List ℕ) → Bool
is_option command (word ∷ []) = list_any (bytes_eq word) (bare_options command)
is_option command (word ∷ value ∷ []) = list_any (bytes_eq word) (valued_options command)
is_option command _ = false

-- Whether two options are the same one, whatever their values.
abbrev pub is_same_option : List (List ℕ) → List (List ℕ) → Bool
is_same_option (word ∷ _) (other ∷ _) = bytes_eq word other
is_same_option _ _ = false

-- These are options of the command, one after another.
abbrev pub AreOptions : List ℕ → List (List (List ℕ)) → Type 0
AreOptions command options = All (λ option. IsTrue (is_option command option)) options

-- A line: the command, options, and the words after them.
abbrev pub line : List ℕ → List (List (List ℕ)) → List (List ℕ) → List (List ℕ)
line command options rest = command ∷ flat_map (λ option. option) options ++ rest
