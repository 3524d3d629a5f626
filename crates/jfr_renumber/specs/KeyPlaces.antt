-- Bytes in which the keys of entries are new ones.
use Rattle.std.specs.Prelude.{ℕ, ◌<◌, ◌≤◌, List, [], ◌∷◌, ◌++◌, IsSome, length, slice_range}
use Rattle.std.specs.Option.{option_map_or}
use Rattle.jfr_base.specs.Formats.{int_at}
use Rattle.jfr_base.specs.Integer.{spell}
use Rattle.jfr_chunk.specs.declared.key_places.KeyPlace.{KeyPlace}

-- The offset after the integer that starts at an offset.
abbrev pub integer_end : List ℕ → ℕ → ℕ
integer_end c at = option_map_or (λ v. v.end) (int_at c at (length c)) at

-- The bytes from one offset up to another, in which the keys at these places are the new keys of their entries.
abbrev pub with_keys_at : (ℕ → ℕ) → List ℕ → ℕ → ℕ → List KeyPlace → List ℕ
with_keys_at new c from to [] = slice_range c from to
with_keys_at new c from to (place ∷ places) = slice_range c from place.at ++ (spell (new place.entry) ++ with_keys_at new c (integer_end c place.at) to places)

-- At these places, between two offsets, are integers, one after another. The entries are below `count`.
abbrev pub AreIntegers : List ℕ → ℕ → ℕ → ℕ → List KeyPlace → Type 0
AreIntegers c count from to [] = from ≤ to
AreIntegers c count from to (place ∷ places) =
    (from ≤ place.at) × (place.at ≤ length c) × IsSome (int_at c place.at (length c)) × (place.entry < count) × AreIntegers c count (integer_end c place.at) to places
