-- Each key of a table has the ordinal of the entry in force.
use Rattle.std.specs.Prelude.{◌≡◌, ◌≢◌, ◌⊎◌, ℕ, zero, suc, ◌+◌, ◌-◌, ◌<◌, ◌≤◌, Bool, true, false, cond, List, [], ◌∷◌, ◌++◌, length, Option, Some, None, option_and_then, option_map, slice_get, replicate, nat_lt, nat_eq, if◌then◌else◌}
use Rattle.std.proofs.Common.{ap, arith, refl, sym, ◌∙◌, inl, inr, set}
use Rattle.std.proofs.lemmas.Bool.{cases_eq}
use Rattle.std.proofs.lemmas.Option.{slice_get_past, slice_get_within}
use Rattle.jfr_pool.specs.declared.entry.EntryAt.{EntryAt}
use Rattle.jfr_pool.specs.declared.table.Table.{Table}
use Rattle.jfr_pool.specs.declared.tables.Tables.{Tables}
use Rattle.jfr_pool.specs.Entries.{number_in_force}
use Rattle.jfr_pool.specs.Tables.{last_number, in_table, ordinal_at, AreTables}
use Rattle.jfr_pool.proofs.Targets.{clash, hits, same_target, target_same, force_push, force_none}

no_some : {X : Type 0} (o : Option X) (x : X) → o ≡ None → o ≡ Some x → ⊥
no_some o x p q = cc

get_set_same : {X : Type 0} (xs : List X) (i : ℕ) (y : X) → i < length xs → slice_get (set xs i y) i ≡ Some y
get_set_same [] i y h = absurd (omega (arith, h))
get_set_same (x ∷ xs) zero y h = refl
get_set_same (x ∷ xs) (suc i) y h = get_set_same xs i y (omega (arith, h))

get_set_other : {X : Type 0} (xs : List X) (i j : ℕ) (y : X) → j ≢ i → slice_get (set xs i y) j ≡ slice_get xs j
get_set_other [] i j y h = refl
get_set_other (x ∷ xs) zero zero y h = absurd (h refl)
get_set_other (x ∷ xs) zero (suc j) y h = refl
get_set_other (x ∷ xs) (suc i) zero y h = refl
get_set_other (x ∷ xs) (suc i) (suc j) y h = get_set_other xs i j y (λ q. h (ap suc q))

get_push : {X : Type 0} (xs : List X) (x : X) (i : ℕ) (y : X) → slice_get (xs ++ x ∷ []) i ≡ Some y → (slice_get xs i ≡ Some y) ⊎ (x ≡ y)
get_push [] x zero y h = inr cc
get_push [] x (suc i) y h = absurd (no_some None y refl h)
get_push (z ∷ xs) x zero y h = inl h
get_push (z ∷ xs) x (suc i) y h = get_push xs x i y h

get_zeros : (k i n : ℕ) → slice_get (replicate k 0) i ≡ Some n → 0 ≡ n
get_zeros zero i n h = absurd (no_some None n refl h)
get_zeros (suc k) zero n h = cc
get_zeros (suc k) (suc i) n h = get_zeros k i n h

last_of : (n : ℕ) → last_number (n + 1) ≡ Some n
last_of n = let q : n + 1 ≡ suc n = omega arith in ap last_number q

-- Each key of a table has the ordinal 0.
abbrev pub IsZero : Table → Type 0
IsZero table = (key n : ℕ) → in_table key table ≡ Some n → 0 ≡ n

-- And of all tables.
abbrev pub AreZero : List Table → Type 0
AreZero by_class = (t : ℕ × ℕ) (n : ℕ) → ordinal_at by_class t ≡ Some n → 0 ≡ n

pub zero_table : (table : Table) (k : ℕ) → table.zero ≡ 0 → table.ordinals.items ≡ replicate k 0 → IsZero table
zero_table table k none zeros key n = by_test (nat_lt key table.first) (nat_eq key 0)
  where
    by_test : (b z : Bool) → (if b then (if z then Some table.zero else None) else slice_get table.ordinals.items (key - table.first)) ≡ Some n → 0 ≡ n
    by_test true true h = cc
    by_test true false h = absurd (no_some None n refl h)
    by_test false z h = get_zeros k (key - table.first) n (ap (λ c. slice_get c (key - table.first)) (sym zeros) ∙ h)

pub zero_none : AreZero []
zero_none t n h = absurd (no_some None n refl h)

pub zero_push : (by_class : List Table) (table : Table) → IsZero table → AreZero by_class → AreZero (by_class ++ table ∷ [])
zero_push by_class table zeros h t n at = by_table (slice_get (by_class ++ table ∷ []) t.0) refl at
  where
    by_table : (o : Option Table) → slice_get (by_class ++ table ∷ []) t.0 ≡ o → option_and_then (in_table t.1) o ≡ Some n → 0 ≡ n
    by_table None q g = absurd (no_some None n refl g)
    by_table (Some r) q g = by_place (get_push by_class table t.0 r q)
      where
        by_place : ((slice_get by_class t.0 ≡ Some r) ⊎ (table ≡ r)) → 0 ≡ n
        by_place (inl p) = h t n (ap (option_and_then (in_table t.1)) p ∙ g)
        by_place (inr p) = zeros t.1 n (ap (in_table t.1) p ∙ g)

pub zero_tables : (tables : Tables) → AreZero tables.by_class.items → AreTables tables []
zero_tables tables h = record { all = λ t n at. ap last_number (sym (h t n at)) ∙ sym (force_none t) }

-- An entry without a place.
pub passed : (tables : Tables) (e : EntryAt) (es : List EntryAt) → ordinal_at tables.by_class.items (e.class, e.key) ≡ None → AreTables tables es → AreTables tables (es ++ e ∷ [])
passed tables e es none h = record { all = λ t n at. by_test t n at (hits e t) refl ∙ sym (force_push es e t) }
  where
    by_test : (t : ℕ × ℕ) (n : ℕ) → ordinal_at tables.by_class.items t ≡ Some n → (b : Bool) → hits e t ≡ b → last_number n ≡ cond b (Some (length es)) (number_in_force es t)
    by_test t n at true f = absurd (no_some (ordinal_at tables.by_class.items t) n (ap (ordinal_at tables.by_class.items) (sym (same_target e.class e.key t f)) ∙ none) at)
    by_test t n at false f = h.all t n at

pub no_table : (by_class : List Table) (t : ℕ × ℕ) → length by_class ≤ t.0 → ordinal_at by_class t ≡ None
no_table by_class t h = ap (option_and_then (in_table t.1)) (slice_get_past by_class t.0 h)

-- An entry whose table is set.
module _ (old new : Tables) (table new_table : Table) (e : EntryAt) (number : ℕ) (holds : slice_get old.by_class.items e.class ≡ Some table) (outer : new.by_class.items ≡ set old.by_class.items e.class new_table) (here : in_table e.key new_table ≡ option_map (λ _. number + 1) (in_table e.key table)) (others : (key : ℕ) → key ≢ e.key → in_table key new_table ≡ in_table key table) where
  table_set : slice_get new.by_class.items e.class ≡ Some new_table
  table_set = ap (λ z. slice_get z e.class) outer ∙ get_set_same old.by_class.items e.class new_table (slice_get_within old.by_class.items e.class table holds)

  elsewhere : (t : ℕ × ℕ) → hits e t ≡ false → ordinal_at new.by_class.items t ≡ ordinal_at old.by_class.items t
  elsewhere t f = by_class (cases_eq t.0 e.class)
    where
      apart : t.0 ≡ e.class → t.1 ≢ e.key
      apart q r = clash (hits e t) (target_same e.class e.key t (ap (λ z. (z, e.key)) (sym q) ∙ ap (λ z. (t.0, z)) (sym r))) f

      by_class : ((t.0 ≡ e.class) ⊎ (t.0 ≢ e.class)) → ordinal_at new.by_class.items t ≡ ordinal_at old.by_class.items t
      by_class (inl q) =
          ap (λ z. option_and_then (in_table t.1) (slice_get new.by_class.items z)) q ∙ ap (option_and_then (in_table t.1)) table_set ∙ others t.1 (apart q)
          ∙ sym (ap (λ z. option_and_then (in_table t.1) (slice_get old.by_class.items z)) q ∙ ap (option_and_then (in_table t.1)) holds)
      by_class (inr q) = ap (λ z. ordinal_at z t) outer ∙ ap (option_and_then (in_table t.1)) (get_set_other old.by_class.items e.class t.0 new_table q)

  -- At its place, if it has one.
  there : (n : ℕ) (o : Option ℕ) → option_map (λ _. number + 1) o ≡ Some n → number + 1 ≡ n
  there n None h = absurd (no_some None n refl h)
  there n (Some m) h = cc

  pub placed : (es : List EntryAt) → AreTables old es → length es ≡ number → AreTables new (es ++ e ∷ [])
  placed es h count = record { all = λ t n at. by_test t n at (hits e t) refl ∙ sym (force_push es e t) }
    where
      by_test : (t : ℕ × ℕ) (n : ℕ) → ordinal_at new.by_class.items t ≡ Some n → (b : Bool) → hits e t ≡ b → last_number n ≡ cond b (Some (length es)) (number_in_force es t)
      by_test t n at true f =
          let s : in_table e.key new_table ≡ Some n = sym (ap (option_and_then (in_table e.key)) table_set) ∙ ap (ordinal_at new.by_class.items) (same_target e.class e.key t f) ∙ at in
          let m : number + 1 ≡ n = there n (in_table e.key table) (sym here ∙ s) in
          ap last_number (sym m) ∙ last_of number ∙ ap (λ z. Some z) (sym count)
      by_test t n at false f = h.all t n (sym (elsewhere t f) ∙ at)

-- The number of an ordinal is one less.
pub less_one : (n : ℕ) → n ≢ 0 → Some (n - 1) ≡ last_number n
less_one zero h = absurd (h refl)
less_one (suc n) h = ap (λ z. Some z) (omega arith)
