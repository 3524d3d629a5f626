-- Texts that lie one after another.
use Rattle.std.specs.Prelude.{◌≡◌, ℕ, zero, suc, ◌+◌, ◌-◌, List, [], ◌∷◌, ◌++◌, Option, option_map, IsUtf8, drop, length, slice_index, take}
use Rattle.std.specs.Borrow.{Bor}
use Rattle.std.specs.List.{AllByRecursion}
use Rattle.std.specs.Str.{chars}

-- The bytes, which begin at an offset, cut at the ends.
abbrev pub pieces : ℕ → List ℕ → List ℕ → List (List ℕ)
pieces from [] bytes = []
pieces from (end ∷ ends) bytes = take (end - from) bytes ∷ pieces end ends (drop (end - from) bytes)

-- Where texts end that lie one after another, from an offset on.
abbrev pub ends_of : ℕ → List (List ℕ) → List ℕ
ends_of from [] = []
ends_of from (text ∷ texts) = (from + length text) ∷ ends_of (from + length text) texts

-- Where the text with an index begins: where the one before it ends, or at the offset.
abbrev pub start_at : ℕ → List ℕ → ℕ → ℕ
start_at from ends zero = from
start_at from ends (suc before) = slice_index ends before

-- The bytes of all texts.
abbrev pub joined : List (List ℕ) → List ℕ
joined [] = []
joined (text ∷ texts) = text ++ joined texts

-- The texts lie one after another, and fill the bytes.
pub record AreLaid (texts : List (List ℕ)) (ends bytes : List ℕ) : Type 0 where
  pub filled : bytes ≡ joined texts
  pub ended : ends ≡ ends_of 0 texts
  pub utf8 : AllByRecursion IsUtf8 texts

-- The characters of a text that is given by its bytes, if there is one.
abbrev pub chars_in : Option (Bor (List ℕ)) → Option (List ℕ)
chars_in o = option_map (λ x. chars x.now) o
