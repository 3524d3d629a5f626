-- What is written for a chained checkpoint: its head, and the pools that have an entry left.
use Rattle.std.specs.Prelude.{ℕ, ◌+◌, ◌-◌, ◌^◌, ◌&&◌, ◌==◌, List, [], ◌∷◌, ◌++◌, length, Option, Some, None, if◌then◌else◌, slice_range}
use Rattle.std.specs.List.{flat_map}
use Rattle.jfr_base.specs.Integer.{spell, spell_in}
use Rattle.jfr_pool.specs.declared.link.Link.{Link}
use Rattle.jfr_pool.specs.declared.entry.EntryAt.{EntryAt}

-- Entries of one pool, at least one.
pub record Group : Type 0 where
  pub class : ℕ
  pub pool : ℕ
  pub entries : List EntryAt

-- The groups of a list of entries with this entry before it. The entry is added to the first group if that
-- has the entry's pool; otherwise it becomes a group of its own.
abbrev pub add_entry : EntryAt → List Group → List Group
add_entry e [] = record { class = e.class; pool = e.pool; entries = e ∷ [] } ∷ []
add_entry e (g ∷ gs) =
    if (e.pool == g.pool) && (e.class == g.class) then record { class = g.class; pool = g.pool; entries = e ∷ g.entries } ∷ gs
    else record { class = e.class; pool = e.pool; entries = e ∷ [] } ∷ (g ∷ gs)

-- The pools of a checkpoint that have one of these entries, each with its entries, in order.
abbrev pub by_pool : List EntryAt → List Group
by_pool [] = []
by_pool (e ∷ es) = add_entry e (by_pool es)

-- An entry's bytes: its key and its value.
abbrev pub entry_bytes : List ℕ → EntryAt → List ℕ
entry_bytes c e = slice_range c e.key_at e.end

-- A pool: its class and the number of its entries, each in its shortest spelling, then the entries unchanged.
abbrev pub group_bytes : List ℕ → Group → List ℕ
group_bytes c g = spell g.class ++ (spell (length g.entries) ++ flat_map (entry_bytes c) g.entries)

-- The delta from this offset to the older checkpoint, in two's complement; 0 for the oldest.
abbrev pub distance : ℕ → Option ℕ → ℕ
distance at None = 0
distance at (Some older) = (2 ^ 64 + older) - at

-- What follows the size: type, start and duration unchanged, the delta, the type byte unchanged, the number
-- of pools, and the pools.
abbrev pub checkpoint_tail : List ℕ → Link → ℕ → List Group → List ℕ
checkpoint_tail c l delta gs =
    slice_range c l.frame.type_at l.frame.body ++ (slice_range c l.frame.body l.delta_at ++ (spell delta ++ (slice_range c l.delta_end (l.delta_end + 1)
    ++ (spell (length gs) ++ flat_map (group_bytes c) gs))))

-- A record: its size in n bytes, followed by the rest.
abbrev pub sized : ℕ → List ℕ → List ℕ
sized n tail = spell_in n (n + length tail) ++ tail

-- The checkpoint, with its new size spelled in the same number of bytes as before.
abbrev pub checkpoint_bytes : List ℕ → Link → ℕ → List Group → List ℕ
checkpoint_bytes c l delta gs = sized (l.frame.type_at - l.frame.at) (checkpoint_tail c l delta gs)
