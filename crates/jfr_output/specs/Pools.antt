-- The pools of a checkpoint's entries.
use Rattle.std.specs.Prelude.{ℕ, suc, Bool, ◌&&◌, ◌==◌, List, [], ◌∷◌, if◌then◌else◌}
use Rattle.jfr_pool.specs.declared.entry.EntryAt.{EntryAt}

-- Whether two entries of a checkpoint are in the same pool.
abbrev pub same_pool : EntryAt → EntryAt → Bool
same_pool e f = (e.pool == f.pool) && (e.class == f.class)

-- The number of entries at the start of a list that are in the same pool as this one.
abbrev pub leading : EntryAt → List EntryAt → ℕ
leading e [] = 0
leading e (f ∷ fs) = if same_pool e f then suc (leading e fs) else 0
