-- The new keys of all that is used.
use Rattle.std.specs.Prelude.{ℕ, ◌&&◌, ◌==◌, List, [], ◌∷◌, Option, Some, None, unwrap_or, if◌then◌else◌}
use Rattle.jfr_pool.specs.declared.entry.EntryAt.{EntryAt}

-- Classes and keys, with the number of each.
pub record NumberedPairs : Type 0 where
  pub pairs : List (ℕ × ℕ)
  pub numbers : List ℕ

-- The number at the position of a class and a key, if they are there.
abbrev pub number_at : List (ℕ × ℕ) → List ℕ → ℕ × ℕ → Option ℕ
number_at [] ns t = None
number_at (u ∷ us) [] t = None
number_at (u ∷ us) (n ∷ ns) t = if (u.0 == t.0) && (u.1 == t.1) then Some n else number_at us ns t

-- The number of a class and a key, if they have one.
unfoldable pub number_of : NumberedPairs → ℕ × ℕ → Option ℕ
number_of k t = number_at k.pairs k.numbers t

-- A number for each class and key: 0 if it has none.
abbrev pub number_or_zero : NumberedPairs → ℕ × ℕ → ℕ
number_or_zero k t = unwrap_or (number_of k t) 0

-- The new keys of all that is used in a chunk, and the chunk's entries.
pub record ChunkKeys : Type 0 where
  pub keys : NumberedPairs
  pub entries : List EntryAt

-- A new key for each class and key: 0 if they aren't used.
abbrev pub new_keys : ChunkKeys → ℕ × ℕ → ℕ
new_keys k t = number_or_zero k.keys t
