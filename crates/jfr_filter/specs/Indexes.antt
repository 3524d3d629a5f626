-- The index of a list of patterns.
use Rattle.std.specs.Prelude.{◌≡◌, ℕ, Bool, false, ◌||◌, List, slice_get}
use Rattle.std.specs.BTreeSet.{contains_text}
use Rattle.std.specs.List.{list_any}
use Rattle.std.specs.Option.{option_map_or}
use Rattle.std.specs.Str.{chars, IsUtf8}
use Rattle.jfr_filter.specs.declared.index.Index.{Index}
use Rattle.jfr_filter.specs.Patterns.{glob}

-- The list has a pattern with this number, and it matches the text.
abbrev pub is_match_at : List (List ℕ) → List ℕ → ℕ → Bool
is_match_at patterns text number = option_map_or (λ pattern. glob pattern text) (slice_get patterns number) false

-- A pattern with one of these numbers matches the text.
abbrev pub any_at : List (List ℕ) → List ℕ → List ℕ → Bool
any_at patterns text numbers = list_any (is_match_at patterns text) numbers

-- The text with these bytes is one of the patterns without wildcards, or another pattern matches it.
abbrev pub finds : Index → List (List ℕ) → List ℕ → Bool
finds index patterns text = contains_text index.exact text || any_at patterns (chars text) index.globs.items

-- The index finds a text exactly if some pattern of the list matches it.
abbrev pub IsIndexOf : List (List ℕ) → Index → Type 0
IsIndexOf patterns index = (text : List ℕ) → IsUtf8 text → finds index patterns text ≡ list_any (λ pattern. glob pattern (chars text)) patterns
