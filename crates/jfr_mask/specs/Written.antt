-- The bytes of what is shown, and of an event in which strings are masked.
use Rattle.std.specs.Prelude.{ℕ, ◌+◌, ◌≤◌, List, [], ◌∷◌, ◌++◌, length, slice_range}
use Rattle.jfr_base.specs.Integer.{spell}
use Rattle.jfr_mask.specs.declared.event_strings.StringAt.{StringAt}
use Rattle.jfr_mask.specs.declared.shown.Shown.{Shown}
use Rattle.jfr_mask.specs.declared.shown.Shown.TheVariants.{Text, Pseudonym}
use Rattle.jfr_mask.specs.Pseudonyms.{pseudonym}

-- The bytes in UTF-8: those of the text, or of the pseudonym, whose characters are ASCII.
abbrev pub shown_bytes : Shown → List ℕ
shown_bytes (Text text) = text.now
shown_bytes (Pseudonym descriptor number) = pseudonym descriptor number

-- A string in UTF-8 with these bytes.
abbrev pub utf8_string : List ℕ → List ℕ
utf8_string u = 3 ∷ (spell (length u) ++ u)

-- The bytes from one offset up to another, in which these strings become other bytes.
abbrev pub with_strings : (StringAt → List ℕ) → List ℕ → ℕ → ℕ → List StringAt → List ℕ
with_strings becomes c from to [] = slice_range c from to
with_strings becomes c from to (s ∷ ss) = slice_range c from s.at ++ (becomes s ++ with_strings becomes c (s.at + s.len) to ss)

-- The strings lie between two offsets, one after another.
abbrev pub AreApart : ℕ → ℕ → List StringAt → Type 0
AreApart from to [] = from ≤ to
AreApart from to (s ∷ ss) = (from ≤ s.at) × AreApart (s.at + s.len) to ss
