-- The pools while constants are added.
use Rattle.std.specs.Prelude.{◌≡◌, ℕ, ◌+◌, ◌==◌, List, [], ◌++◌, length, Option, Some, None, is_some, if◌then◌else◌}
use Rattle.std.specs.List.{flat_map, list_any}
use Rattle.jfr_base.specs.Integer.{spell}
use Rattle.std.specs.Option.{option_map_or}
use Rattle.std.specs.BTreeMap as tree
use Rattle.std.specs.Ordering.{nat_cmp}
use Rattle.jfr_build.specs.declared.pools.Pool.{Pool}
use Rattle.jfr_build.specs.declared.pools.ConstantPools.{ConstantPools}
use Rattle.jfr_layout.specs.Classes.{Classes}
use Rattle.jfr_build.specs.declared.line.BuildLine.{BuildLine}
use Rattle.jfr_build.specs.Built.{constant_class, is_constant_of, line_entry, with_class}

-- The number of entries of a pool; 0 if there is no pool.
abbrev pub count_in : Option Pool → ℕ
count_in None = 0
count_in (Some pool) = pool.count

-- The entries of a pool; none if there is no pool.
abbrev pub entries_in : Option Pool → List ℕ
entries_in None = []
entries_in (Some pool) = pool.entries.items

-- The pool of a class.
abbrev pub pool_in : ConstantPools → ℕ → Option Pool
pool_in pools id = tree.get nat_cmp pools.by_class id

-- Exactly the classes in the list have a pool.
abbrev pub AreListed : ConstantPools → Type 0
AreListed pools = (id : ℕ) → list_any (λ c. c == id) pools.classes.items ≡ is_some (pool_in pools id)

-- An entry was added to the pool of a class, and no other pool was changed.
pub record Grown (old new : ConstantPools) (class : ℕ) (entry : List ℕ) : Type 0 where
  pub classes : new.classes.items ≡ with_class old.classes.items class
  pub counts : (id : ℕ) → count_in (pool_in new id) ≡ (if class == id then count_in (pool_in old id) + 1 else count_in (pool_in old id))
  pub entries : (id : ℕ) → entries_in (pool_in new id) ≡ (if class == id then entries_in (pool_in old id) ++ entry else entries_in (pool_in old id))
  pub listed : AreListed new

-- The pool of a class, as it is written.
abbrev pub pool_bytes : ConstantPools → ℕ → List ℕ
pool_bytes pools id = spell id ++ (spell (count_in (pool_in pools id)) ++ entries_in (pool_in pools id))

-- All pools, as they are written.
abbrev pub pools_bytes : ConstantPools → List ℕ
pools_bytes pools = spell (length pools.classes.items) ++ flat_map (pool_bytes pools) pools.classes.items

-- A line was added: its entry to the pool of its class, if it is a constant; nothing otherwise.
pub record Added (k : Classes) (old new : ConstantPools) (line : BuildLine) : Type 0 where
  pub classes : new.classes.items ≡ option_map_or (with_class old.classes.items) (constant_class line) old.classes.items
  pub counts : (id : ℕ) → count_in (pool_in new id) ≡ (if is_constant_of id line then count_in (pool_in old id) + 1 else count_in (pool_in old id))
  pub entries : (id : ℕ) → entries_in (pool_in new id) ≡ entries_in (pool_in old id) ++ (if is_constant_of id line then line_entry k line else [])
  pub listed : AreListed new
