-- The classes and keys that are referred to and have no entry in force.
use Rattle.std.specs.Prelude.{◌≡◌, ◌⊎◌, ◌<◌, ⊤, ℕ, Bool, false, List, [], ◌∷◌, Contains, filter, Option, None, slice_get, unwrap_or, option_and_then, if◌then◌else◌}
use Rattle.std.specs.List.{AllByRecursion, list_all}
use Rattle.std.specs.declared.cmp.Ordering.{Ordering}
use Rattle.std.specs.Ordering.{nat_cmp, ordering_then}
use Rattle.jfr_pool.specs.declared.entry.EntryAt.{EntryAt}
use Rattle.jfr_chunk.specs.declared.missing.MissingRef.{MissingRef}
use Rattle.jfr_chunk.specs.Missing.{is_missing}
use Rattle.jfr_renumber.specs.declared.missing.Missing.{Missing}

-- The member with this index, if the flag with this index is set.
abbrev pub flagged : {X : Type 0} → List Bool → List X → ℕ → Option X
flagged flags xs i = option_and_then (λ keep. if keep then slice_get xs i else None) (slice_get flags i)

-- The list has those of these classes and keys that have no entry in force, and no others.
pub record HoldsMissing (es : List EntryAt) (ts keys : List (ℕ × ℕ)) : Type 0 where
  pub all : (t : ℕ × ℕ) → Contains (filter (is_missing es) ts) t → Contains keys t
  pub only : (t : ℕ × ℕ) → Contains keys t → Contains (filter (is_missing es) ts) t

-- Whether the event of each of these references is kept.
abbrev pub are_kept : List Bool → List MissingRef → Bool
are_kept flags refs = list_all (λ m. unwrap_or (slice_get flags m.event) false) refs

-- Unless memory ran out, the list has what it had, and those of `ts` without an entry in force.
pub record Lists (es : List EntryAt) (ts : List (ℕ × ℕ)) (old new : Missing) : Type 0 where
  pub memory : new.failed ≡ false → old.failed ≡ false
  pub grows : new.failed ≡ false → (t : ℕ × ℕ) → Contains old.keys.items t → Contains new.keys.items t
  pub added : new.failed ≡ false → (t : ℕ × ℕ) → Contains (filter (is_missing es) ts) t → Contains new.keys.items t
  pub only : new.failed ≡ false → (t : ℕ × ℕ) → Contains new.keys.items t → Contains old.keys.items t ⊎ Contains (filter (is_missing es) ts) t

-- A class and a key come before another pair: the class is smaller, or it is the same and the key is smaller.
abbrev pub Earlier : ℕ × ℕ → ℕ × ℕ → Type 0
Earlier t u = (t.0 < u.0) ⊎ ((t.0 ≡ u.0) × (t.1 < u.1))

-- Each is before all later ones.
abbrev pub IsRising : List (ℕ × ℕ) → Type 0
IsRising [] = ⊤
IsRising (t ∷ ts) = AllByRecursion (Earlier t) ts × IsRising ts

-- How classes and keys compare.
abbrev pub pair_cmp : ℕ × ℕ → ℕ × ℕ → Ordering
pair_cmp x y = ordering_then (nat_cmp x.0 y.0) (nat_cmp x.1 y.1)
