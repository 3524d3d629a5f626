-- The first entries for each class and new key.
use Rattle.std.specs.Prelude.{◌≡◌, ℕ, Bool, ◌&&◌, ◌||◌, ◌==◌, List, [], ◌∷◌, ◌++◌, if◌then◌else◌}
use Rattle.std.specs.BTreeSet.{contains}
use Rattle.jfr_pool.specs.declared.entry.EntryAt.{EntryAt}
use Rattle.jfr_renumber.specs.declared.firsts.FirstEntries.{FirstEntries}
use Rattle.jfr_renumber.specs.Missing.{pair_cmp}
use Rattle.jfr_renumber.specs.Rekeyed.{rekeyed_pair}
use Rattle.jfr_renumber.specs.Renumber.{firsts_with, pair_of}

-- Whether two entries have the same class and new key.
abbrev pub same_new : (ℕ × ℕ → ℕ) → EntryAt → EntryAt → Bool
same_new new e f = (e.class == f.class) && (new (pair_of e) == new (pair_of f))

-- Of these entries, the first for each class and new key.
abbrev pub firsts_by : (ℕ × ℕ → ℕ) → List EntryAt → List EntryAt
firsts_by new es = firsts_with (same_new new) es

-- The entry has been added, unless one with the same class and new key was there.
pub record AddsFirst (new : ℕ × ℕ → ℕ) (e : EntryAt) (old after : FirstEntries) : Type 0 where
  pub entries : after.entries.items ≡ old.entries.items ++ (if contains pair_cmp old.seen (rekeyed_pair new (pair_of e)) then [] else e ∷ [])
  pub seen : (t : ℕ × ℕ) → contains pair_cmp after.seen t ≡ (((e.class == t.0) && (new (pair_of e) == t.1)) || contains pair_cmp old.seen t)
