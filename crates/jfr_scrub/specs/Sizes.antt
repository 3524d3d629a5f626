-- The sizes of entries and of their pools.
use Rattle.std.specs.Prelude.{ℕ, ◌+◌, ◌-◌, ◌<◌, ◌≤◌, List, [], ◌∷◌, length}
use Rattle.jfr_base.specs.Integer.{spell}
use Rattle.jfr_pool.specs.declared.entry.EntryAt.{EntryAt}
use Rattle.jfr_chunk.specs.Written.{Group}

-- The entry lies in a chunk of this length, and has at least one byte.
pub record HasRange (n : ℕ) (e : EntryAt) : Type 0 where
  pub order : e.key_at < e.end
  pub within : e.end ≤ n

-- The number of bytes of these entries.
abbrev pub entries_size : List EntryAt → ℕ
entries_size [] = 0
entries_size (e ∷ es) = (e.end - e.key_at) + entries_size es

-- The number of bytes of a pool: its class, its number of entries, and the entries.
abbrev pub pool_size : ℕ → List EntryAt → ℕ
pool_size class es = length (spell class) + length (spell (length es)) + entries_size es

-- The number of bytes of these pools.
abbrev pub groups_size : List Group → ℕ
groups_size [] = 0
groups_size (g ∷ gs) = pool_size g.class g.entries + groups_size gs
