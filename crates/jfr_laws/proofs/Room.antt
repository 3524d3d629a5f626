-- What is left of the pools of a checkpoint takes no more room than they did.
use Rattle.std.specs.Prelude.{◌≡◌, ℕ, ◌+◌, ◌-◌, ◌<◌, ◌≤◌, Bool, true, false, List, [], ◌∷◌, ◌++◌, length, map, drop, slice_range}
use Rattle.std.specs.List.{flat_map, AllByRecursion}
use Rattle.std.proofs.Common.{ap, arith, refl, sym, ◌∙◌, subst, length-append}
use Rattle.std.proofs.lemmas.List.{length-map}
use Rattle.jfr_base.specs.Integer.{IntAt, spell}
use Rattle.jfr_base.proofs.Spelling.{spell_short}
use Rattle.jfr_base.proofs.Ranges.{range_length}
use Rattle.jfr_layout.specs.Classes.{Classes}
use Rattle.jfr_pool.specs.declared.entry.EntryAt.{EntryAt}
use Rattle.jfr_pool.specs.Entries.{Constant, PoolAt, entry_of, entries_from}
use Rattle.jfr_chunk.specs.Reach.{marked}
use Rattle.jfr_chunk.specs.Written.{Group, by_pool, entry_bytes, group_bytes}
use Rattle.jfr_chunk.proofs.AllLaws.{all_append}
use Rattle.jfr_laws.proofs.Marks.{all_marked, fewer, marked_append}
use Rattle.jfr_laws.specs.InChunk.{ConstantStands, AreConstants, PoolStands, ArePools}
use Rattle.jfr_laws.proofs.Groups.{apart, in_front, by_front}

-- The shortest spelling of m isn't longer than any spelling of n, if m isn't above n.
pub int_room : (c : List ℕ) (p q v w : ℕ) → IntAt c p q w → v ≤ w → length (spell v) + p ≤ q
int_room c p q v w i h =
    let a : p ≤ q = i.order in
    let b : length (slice_range c p q) ≡ q - p = range_length c p q i.within in
    let d : length (spell v) ≤ length (slice_range c p q) = spell_short (slice_range c p q) v w i.spelled h in
    omega arith

-- Entries of a pool have its number and its class.
pub of_pool : (checkpoint number class : ℕ) (xs : List Constant) → AllByRecursion (λ e. (e.pool ≡ number) × (e.class ≡ class)) (map (entry_of checkpoint number class) xs)
of_pool checkpoint number class [] = tt
of_pool checkpoint number class (x ∷ xs) = ((refl, refl), of_pool checkpoint number class xs)

-- Entries of later pools have greater numbers.
pub later_pools : (checkpoint before number : ℕ) (pools : List PoolAt) → before < number → AllByRecursion (λ e. before < e.pool) (entries_from checkpoint number pools)
later_pools checkpoint before number [] h = tt
later_pools checkpoint before number (p ∷ ps) h =
    all_append (λ e. before < e.pool) (map (entry_of checkpoint number p.class) p.constants) (entries_from checkpoint (number + 1) ps) (these p.constants)
    (later_pools checkpoint before (number + 1) ps (omega arith))
  where
    these : (xs : List Constant) → AllByRecursion (λ e. before < e.pool) (map (entry_of checkpoint number p.class) xs)
    these [] = tt
    these (x ∷ xs) = (h, these xs)

module _ (c : List ℕ) (k : Classes) where
  -- Where constants begin and end.
  constant_order : (class at : ℕ) (x : Constant) → ConstantStands c k class at x → (at ≡ x.key_at) × (x.key_at ≤ x.end)
  constant_order class at x s =
      let o : x.key_at ≤ x.value_at = s.key.order in
      let v : x.value_at ≤ x.end = s.order in
      (sym s.begins, omega arith)

  constants_order : (class at : ℕ) (xs : List Constant) (to : ℕ) → AreConstants c k class at xs to → at ≤ to
  constants_order class at [] to s = let e : to ≡ at = s in omega arith
  constants_order class at (x ∷ xs) to s = omega (arith, constant_order class at x s.0, constants_order class x.end xs to s.1)

  -- The marked entries of a pool.
  constants_room : (checkpoint number class at : ℕ) (xs : List Constant) (to : ℕ) (marks : List Bool) → AreConstants c k class at xs to
      → length (flat_map (entry_bytes c) (marked marks (map (entry_of checkpoint number class) xs))) + at ≤ to
  constants_room checkpoint number class at xs to [] s = omega (arith, constants_order class at xs to s)
  constants_room checkpoint number class at [] to (m ∷ ms) s = let e : to ≡ at = s in omega arith
  constants_room checkpoint number class at (x ∷ xs) to (true ∷ ms) s =
      let later : List ℕ = flat_map (entry_bytes c) (marked ms (map (entry_of checkpoint number class) xs)) in
      let i : length later + x.end ≤ to = constants_room checkpoint number class x.end xs to ms s.1 in
      let o = constant_order class at x s.0 in
      let l : length (slice_range c x.key_at x.end) ≡ x.end - x.key_at = range_length c x.key_at x.end s.0.within in
      omega (arith, o.0, o.1, length-append (slice_range c x.key_at x.end) later)
  constants_room checkpoint number class at (x ∷ xs) to (false ∷ ms) s =
      let o = constant_order class at x s.0 in
      omega (arith, o.0, o.1, constants_room checkpoint number class x.end xs to ms s.1)

  -- The groups are no more than the pools, and no longer.
  pub record HaveRoom (at : ℕ) (pools : List PoolAt) (to : ℕ) (gs : List Group) : Type 0 where
    pub count : length gs ≤ length pools
    pub bytes : length (flat_map (group_bytes c) gs) + at ≤ to

  -- A pool's group, if it has one, before those of later pools.
  with_front : (number at : ℕ) (p : PoolAt) (m : ℕ) (ps : List PoolAt) (to : ℕ) → (s : PoolStands c k at p m) → (fs : List EntryAt) → length fs ≤ length p.constants
      → length (flat_map (entry_bytes c) fs) + s.first ≤ m
      → (gs : List Group) → HaveRoom m ps to gs → HaveRoom at (p ∷ ps) to (in_front number p.class fs gs)
  with_front number at p m ps to s [] f b gs i =
      let x : at ≤ s.count_at = s.class.order in
      let y : s.count_at ≤ s.first = s.count.order in
      let z : s.first ≤ m = constants_order p.class s.first p.constants m s.constants in
      record { count = omega (arith, i.count); bytes = omega (arith, i.bytes) }
  with_front number at p m ps to s (e ∷ es) f b gs i =
      let fs : List EntryAt = e ∷ es in
      let items : List ℕ = flat_map (entry_bytes c) fs in
      let later : List ℕ = flat_map (group_bytes c) gs in
      let x : length (spell p.class) + at ≤ s.count_at = int_room c at s.count_at p.class p.class s.class (omega arith) in
      let y : length (spell (length fs)) + s.count_at ≤ s.first = int_room c s.count_at s.first (length fs) (length p.constants) s.count f in
      let z : length items + s.first ≤ m = b in
      let l : length ((spell p.class ++ (spell (length fs) ++ items)) ++ later) ≡ length (spell p.class) + (length (spell (length fs)) + length items) + length later =
      length-append (spell p.class ++ (spell (length fs) ++ items)) later
      ∙ ap (λ n. n + length later) (length-append (spell p.class) (spell (length fs) ++ items) ∙ ap (λ n. length (spell p.class) + n) (length-append (spell (length fs)) items)) in
      record { count = omega (arith, i.count); bytes = omega (arith, i.bytes) }

  -- The groups of the marked entries of pools fit in the bytes of the pools.
  pub have_room : (checkpoint number at : ℕ) (pools : List PoolAt) (to : ℕ) (marks : List Bool) → ArePools c k at pools to
      → HaveRoom at pools to (by_pool (marked marks (entries_from checkpoint number pools)))
  have_room checkpoint number at [] to marks s = none marks
    where
      none : (marks : List Bool) → HaveRoom at [] to (by_pool (marked marks []))
      none [] = let e : to ≡ at = s in record { count = omega arith; bytes = omega arith }
      none (m ∷ ms) = let e : to ≡ at = s in record { count = omega arith; bytes = omega arith }
  have_room checkpoint number at (p ∷ ps) to marks s =
      let these : List EntryAt = map (entry_of checkpoint number p.class) p.constants in
      let rest : List EntryAt = entries_from checkpoint (number + 1) ps in
      let more : List Bool = drop (length these) marks in
      let e : by_pool (marked marks (these ++ rest)) ≡ in_front number p.class (marked marks these) (by_pool (marked more rest)) =
      ap by_pool (marked_append marks these rest)
      ∙ by_front number p.class (marked marks these) (marked more rest)
      (all_marked (λ e. (e.pool ≡ number) × (e.class ≡ p.class)) marks these (of_pool checkpoint number p.class p.constants))
      (apart number (marked more rest) (all_marked (λ e. number < e.pool) more rest (later_pools checkpoint number (number + 1) ps (omega arith)))) in
      let n : length these ≡ length p.constants = length-map p.constants (entry_of checkpoint number p.class) in
      subst (HaveRoom at (p ∷ ps) to) (sym e)
      (with_front number at p s.0 ps to s.1 (marked marks these) (omega (arith, fewer marks these)) (constants_room checkpoint number p.class s.1.first p.constants s.0 marks s.1.constants)
      (by_pool (marked more rest)) (have_room checkpoint (number + 1) s.0 ps to more s.2))
