-- Pseudonyms: the dictionary of masked texts, the known texts, and what is shown for a text. A text is the list of its
-- characters.
use Rattle.std.specs.Prelude.{◌≡◌, ℕ, ◌+◌, Bool, true, false, not, ◌&&◌, ◌||◌, ◌==◌, List, [], ◌∷◌, ◌++◌, map, slice_get, Some, codes, decimal, if◌then◌else◌}
use Rattle.std.specs.List.{list_any, position_or_len, slice_split}
use Rattle.std.specs.Str.{bytes_eq}
use Rattle.bstr.specs.Utf8.{lossy_chars}
use Rattle.jfr_filter.specs.Patterns.{glob}

-- The list has the text.
abbrev pub has_text : List (List ℕ) → List ℕ → Bool
has_text texts t = list_any (λ u. bytes_eq u t) texts

-- The number of a text is its index in the dictionary, from 1. A text that isn't there has the next number.
abbrev pub number_of : List (List ℕ) → List ℕ → ℕ
number_of d t = position_or_len (λ u. bytes_eq u t) d + 1

-- A dictionary is a list of distinct texts: each has the number of its own index.
pub record IsDictionary (d : List (List ℕ)) : Type 0 where
  pub each : (i : ℕ) (t : List ℕ) → slice_get d i ≡ Some t → number_of d t ≡ i + 1

-- The dictionary with a text, which is added at the end if it isn't there.
abbrev pub with_text : List (List ℕ) → List ℕ → List (List ℕ)
with_text d t = if has_text d t then d else d ++ t ∷ []

-- The dictionary with several texts, added one after another.
abbrev pub with_texts : List (List ℕ) → List (List ℕ) → List (List ℕ)
with_texts d [] = d
with_texts d (t ∷ ts) = with_texts (with_text d t) ts

-- Texts were added at the end.
pub record Extends (d after : List (List ℕ)) : Type 0 where
  pub rest : List (List ℕ)
  pub is : after ≡ d ++ rest

-- The text begins as a pseudonym does.
abbrev pub is_like_pseudonym : List ℕ → Bool
is_like_pseudonym t = glob (codes "masked-*") t || glob (codes "()masked-*") t

-- The lines of a file of known texts: its bytes, cut at each newline. Bytes that aren't UTF-8 read as U+FFFD.
abbrev pub lines_of : List ℕ → List (List ℕ)
lines_of bytes = map lossy_chars (slice_split (λ b. b == 10) bytes)

-- A text is known if it is one of the lines and doesn't begin as a pseudonym.
abbrev pub is_known : List (List ℕ) → List ℕ → Bool
is_known lines t = has_text lines t && not (is_like_pseudonym t)

-- The text begins as a method's descriptor does.
abbrev pub is_descriptor : List ℕ → Bool
is_descriptor [] = false
is_descriptor (c ∷ cs) = c == 40

-- The pseudonym with a number. That of a descriptor begins with `()`, since readers cut a descriptor at its brackets.
abbrev pub pseudonym : Bool → ℕ → List ℕ
pseudonym descriptor n = (if descriptor then codes "()masked-" else codes "masked-") ++ decimal n

-- The text is shown as it is: it is empty or known.
abbrev pub is_unmasked : (List ℕ → Bool) → List ℕ → Bool
is_unmasked known [] = true
is_unmasked known (c ∷ cs) = known (c ∷ cs)

-- What is shown for a text: the text itself, or the pseudonym with its number.
abbrev pub shown : (List ℕ → Bool) → List (List ℕ) → List ℕ → List ℕ
shown known d t = if is_unmasked known t then t else pseudonym (is_descriptor t) (number_of d t)
