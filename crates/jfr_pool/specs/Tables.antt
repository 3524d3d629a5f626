-- The direct tables of classes with small ids, which give an ordinal for a class and key.
use Rattle.std.specs.Prelude.{◌≡◌, ◌-◌, ℕ, zero, suc, List, Option, Some, None, option_and_then, slice_get, nat_lt, nat_eq, if◌then◌else◌}
use Rattle.jfr_pool.specs.declared.entry.EntryAt.{EntryAt}
use Rattle.jfr_pool.specs.declared.table.Table.{Table}
use Rattle.jfr_pool.specs.declared.tables.Tables.{Tables}
use Rattle.jfr_pool.specs.Entries.{number_in_force}

-- The number of the entry with this ordinal, which is one less; no entry has the ordinal 0.
abbrev pub last_number : ℕ → Option ℕ
last_number zero = None
last_number (suc n) = Some n

-- The ordinal of a key in a table: the key 0 has one, and so has each key of the range that begins at the
-- table's first.
abbrev pub in_table : ℕ → Table → Option ℕ
in_table key table = if nat_lt key table.first then (if nat_eq key 0 then Some table.zero else None) else slice_get table.ordinals.items (key - table.first)

-- The ordinal of a class and key, if the class has a table with this key.
abbrev pub ordinal_at : List Table → ℕ × ℕ → Option ℕ
ordinal_at by_class t = option_and_then (in_table t.1) (slice_get by_class t.0)

-- Each ordinal is the number of the entry in force plus 1, or 0 if there is no entry.
pub record AreTables (tables : Tables) (es : List EntryAt) : Type 0 where
  pub all : (t : ℕ × ℕ) (n : ℕ) → ordinal_at tables.by_class.items t ≡ Some n → last_number n ≡ number_in_force es t
