-- The pools that are read of written groups are the same groups, with the same bytes.
use Rattle.std.specs.Prelude.{◌≡◌, ℕ, ◌+◌, ◌&&◌, ◌==◌, Bool, true, false, List, [], ◌∷◌, ◌++◌, length, map, if◌then◌else◌, ⊤}
use Rattle.std.specs.List.{flat_map, AllByRecursion}
use Rattle.std.proofs.Common.{ap, arith, refl, ◌∙◌}
use Rattle.std.proofs.lemmas.List.{length-map}
use Rattle.jfr_base.specs.Integer.{spell}
use Rattle.jfr_base.proofs.HoldLaws.{Holds, holds_parts, placed_each}
use Rattle.jfr_layout.specs.Classes.{Classes}
use Rattle.jfr_pool.specs.declared.entry.EntryAt.{EntryAt}
use Rattle.jfr_pool.specs.Entries.{Constant, PoolAt, entry_of, entries_from}
use Rattle.jfr_chunk.specs.Written.{Group, add_entry, by_pool, entry_bytes, group_bytes}
use Rattle.jfr_laws.specs.InChunk.{IsEntryIn, IsGroupIn}
use Rattle.jfr_laws.proofs.Groups.{apart, in_front, by_front}
use Rattle.jfr_laws.proofs.Room.{of_pool, later_pools}
use Rattle.jfr_laws.proofs.ReadBack.{size_of, placed, placed_group, entry_length}

-- There is at least one.
abbrev pub NotEmpty : {X : Type 0} → List X → Type 0
NotEmpty [] = ⊥
NotEmpty (x ∷ xs) = ⊤

-- Each group has an entry.
pub some_each : (es : List EntryAt) → AllByRecursion (λ g. NotEmpty g.entries) (by_pool es)
some_each [] = tt
some_each (e ∷ es) = added (by_pool es) (some_each es)
  where
    by_test : (g : Group) (gs : List Group) (t : Bool) → NotEmpty g.entries → AllByRecursion (λ g. NotEmpty g.entries) gs
        → AllByRecursion (λ g. NotEmpty g.entries) (if t then record { class = g.class; pool = g.pool; entries = e ∷ g.entries } ∷ gs else record { class = e.class; pool = e.pool; entries = e ∷ [] } ∷ (g ∷ gs))
    by_test g gs true s a = (tt, a)
    by_test g gs false s a = (tt, (s, a))

    added : (gs : List Group) → AllByRecursion (λ g. NotEmpty g.entries) gs → AllByRecursion (λ g. NotEmpty g.entries) (add_entry e gs)
    added [] a = (tt, tt)
    added (g ∷ gs) a = by_test g gs ((e.pool == g.pool) && (e.class == g.class)) a.0 a.1

module _ (checkpoint : ℕ) where
  -- A pool as a group, and the pools from a number on.
  abbrev pub group_at : ℕ → PoolAt → Group
  group_at number p = record { class = p.class; pool = number; entries = map (entry_of checkpoint number p.class) p.constants }

  abbrev pub groups_at : ℕ → List PoolAt → List Group
  groups_at number [] = []
  groups_at number (p ∷ ps) = group_at number p ∷ groups_at (number + 1) ps

  -- Pools that have an entry each are the groups of their entries.
  pub pools_grouped : (number : ℕ) (ps : List PoolAt) → AllByRecursion (λ p. NotEmpty p.constants) ps → by_pool (entries_from checkpoint number ps) ≡ groups_at number ps
  pools_grouped number [] a = refl
  pools_grouped number (p ∷ ps) a =
      let rest : List EntryAt = entries_from checkpoint (number + 1) ps in
      by_front number p.class (map (entry_of checkpoint number p.class) p.constants) rest (of_pool checkpoint number p.class p.constants)
      (apart number rest (later_pools checkpoint number (number + 1) ps (omega arith)))
      ∙ (front p.constants a.0 (by_pool rest) ∙ ap (λ z. group_at number p ∷ z) (pools_grouped (number + 1) ps a.1))
    where
      front : (xs : List Constant) → NotEmpty xs → (gs : List Group)
          → in_front number p.class (map (entry_of checkpoint number p.class) xs) gs ≡ record { class = p.class; pool = number; entries = map (entry_of checkpoint number p.class) xs } ∷ gs
      front [] s gs = absurd s
      front (x ∷ xs) s gs = refl

  module _ (c : List ℕ) (k : Classes) where
    -- The pools that are read of groups.
    abbrev pub placed_groups : ℕ → List Group → List PoolAt
    placed_groups at gs = placed_each (group_bytes c) (placed_group c k) at gs

    pub some_placed : (gs : List Group) (at : ℕ) → AllByRecursion (λ g. NotEmpty g.entries) gs → AllByRecursion (λ p. NotEmpty p.constants) (placed_groups at gs)
    some_placed [] at a = tt
    some_placed (g ∷ gs) at a = (one g.entries (at + length (spell g.class) + length (spell (length g.entries))) a.0, some_placed gs (at + length (group_bytes c g)) a.1)
      where
        one : (es : List EntryAt) (at : ℕ) → NotEmpty es → NotEmpty (placed_each (entry_bytes c) (placed c k) at es)
        one [] at s = absurd s
        one (e ∷ es) at s = tt

    -- As many.
    pub groups_many : (gs : List Group) (number at : ℕ) → length (groups_at number (placed_groups at gs)) ≡ length gs
    groups_many [] number at = refl
    groups_many (g ∷ gs) number at = omega (arith, groups_many gs (number + 1) (at + length (group_bytes c g)))

    entries_many : (es : List EntryAt) (at : ℕ) → length (placed_each (entry_bytes c) (placed c k) at es) ≡ length es
    entries_many [] at = refl
    entries_many (e ∷ es) at = omega (arith, entries_many es (at + length (entry_bytes c e)))

    module _ (b : List ℕ) (end : ℕ) where
      -- An entry's bytes, and those of a pool's entries.
      entry_again : (e : EntryAt) (pool class at : ℕ) → IsEntryIn c k e → Holds b end at (entry_bytes c e) → entry_bytes b (entry_of checkpoint pool class (placed c k at e)) ≡ entry_bytes c e
      entry_again e pool class at s h = let l : length (entry_bytes c e) ≡ size_of e = entry_length c k e s in rw l at h.bytes

      entries_again : (es : List EntryAt) (pool class at : ℕ) → AllByRecursion (λ e. IsEntryIn c k e × (e.class ≡ class)) es → Holds b end at (flat_map (entry_bytes c) es)
          → flat_map (entry_bytes b) (map (entry_of checkpoint pool class) (placed_each (entry_bytes c) (placed c k) at es)) ≡ flat_map (entry_bytes c) es
      entries_again [] pool class at s h = refl
      entries_again (e ∷ es) pool class at s h =
          let p = holds_parts b end at (entry_bytes c e) (flat_map (entry_bytes c) es) h in
          let x = entry_again e pool class at s.0.0 p.0 in
          let y = entries_again es pool class (at + length (entry_bytes c e)) s.1 p.1 in
          λ i. x i ++ y i

      group_again : (g : Group) (number at : ℕ) → IsGroupIn c k g → Holds b end at (group_bytes c g) → group_bytes b (group_at number (placed_group c k at g)) ≡ group_bytes c g
      group_again g number at s h =
          let items : List ℕ = flat_map (entry_bytes c) g.entries in
          let count : List ℕ = spell (length g.entries) in
          let first : ℕ = at + length (spell g.class) + length count in
          let p = holds_parts b end at (spell g.class) (count ++ items) h in
          let q = holds_parts b end (at + length (spell g.class)) count items p.1 in
          let constants : List Constant = placed_each (entry_bytes c) (placed c k) first g.entries in
          let n : length (map (entry_of checkpoint number g.class) constants) ≡ length g.entries = length-map constants (entry_of checkpoint number g.class) ∙ entries_many g.entries first in
          let e = entries_again g.entries number g.class first s.1 q.1 in
          λ i. spell g.class ++ (spell (n i) ++ e i)

      -- The groups have the same bytes.
      pub groups_again : (gs : List Group) (number at : ℕ) → AllByRecursion (IsGroupIn c k) gs → Holds b end at (flat_map (group_bytes c) gs)
          → flat_map (group_bytes b) (groups_at number (placed_groups at gs)) ≡ flat_map (group_bytes c) gs
      groups_again [] number at s h = refl
      groups_again (g ∷ gs) number at s h =
          let p = holds_parts b end at (group_bytes c g) (flat_map (group_bytes c) gs) h in
          let x = group_again g number at s.0 p.0 in
          let y = groups_again gs (number + 1) (at + length (group_bytes c g)) s.1 p.1 in
          λ i. x i ++ y i
