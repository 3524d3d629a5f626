-- Slots, and the open_slot of a class and key among them.
use Rattle.std.specs.Prelude.{◌≡◌, ◌≢◌, ℕ, zero, suc, ◌+◌, ◌-◌, ◌^◌, ◌<◌, ◌≤◌, Bool, true, false, ◌==◌, nat_lt, List, length, Option, Some, None, option_map, if◌then◌else◌}
use Rattle.std.proofs.Common.{ap, arith, refl, sym, ◌∙◌}
use Rattle.std.specs.BTreeMap.{get}
use Rattle.jfr_pool.specs.declared.index.Index.{Index}
use Rattle.jfr_pool.specs.declared.index.Slot.{Slot}
use Rattle.jfr_pool.specs.declared.index.TheConstants.{REACH}
use Rattle.jfr_pool.specs.Index.{target_cmp, Placed, held, is_of, number_in, is_open, slot_at, open_slot_from, home, open_slot, number_at, number_of}
use Rattle.jfr_pool.proofs.Targets.{same_target}

-- Slots of one number have one home for a target.
pub home_same : (old new : List Slot) (t : ℕ × ℕ) → length old ≡ length new → home old t ≡ home new t
unfolding home
home_same old new t e = rw e refl

-- The search for a open_slot begins at the home.
pub seat_start : (slots : List Slot) (t : ℕ × ℕ) (place : ℕ) → t.0 < 2 ^ 32 → place ≡ home slots t → open_slot_from (place + REACH - place) place slots t ≡ open_slot slots t
unfolding open_slot
seat_start slots t place i e =
    let q : place + REACH - place ≡ REACH = omega arith in
    let b : nat_lt t.0 (2 ^ 32) ≡ true = grind (arith, i) in
    rw b (ap (λ n. open_slot_from n place slots t) q ∙ ap (λ h. open_slot_from REACH h slots t) e)

-- The home is the open_slot of those to whom it is open.
pub seat_home : (slots : List Slot) (t : ℕ × ℕ) (place : ℕ) → t.0 < 2 ^ 32 → place ≡ home slots t → is_open (held (slot_at slots place)) t ≡ true → open_slot slots t ≡ Some place
unfolding open_slot
seat_home slots t place i e o =
    let b : nat_lt t.0 (2 ^ 32) ≡ true = grind (arith, i) in
    rw (b, sym e, o) refl

-- A class that is too large for a slot has no open_slot.
pub seat_none : (slots : List Slot) (t : ℕ × ℕ) → 2 ^ 32 ≤ t.0 → open_slot slots t ≡ None
unfolding open_slot
seat_none slots t i = let b : nat_lt t.0 (2 ^ 32) ≡ false = grind (arith, i) in rw b refl

-- A open_slot is that of a class that fits, and the first open slot.
pub seat_found : (slots : List Slot) (t : ℕ × ℕ) (place : ℕ) → open_slot slots t ≡ Some place → (nat_lt t.0 (2 ^ 32) ≡ true) × (open_slot_from REACH (home slots t) slots t ≡ Some place)
unfolding open_slot
seat_found slots t place h = by_class (nat_lt t.0 (2 ^ 32)) h
  where
    by_class : (b : Bool) → (if b then open_slot_from REACH (home slots t) slots t else None) ≡ Some place → (b ≡ true) × (open_slot_from REACH (home slots t) slots t ≡ Some place)
    by_class true h = (refl, h)
    by_class false h = cc

-- What a slot holds whose ordinal isn't 0.
pub held_numbered : (class key number : ℕ) → held (record { key = key; class = class; ordinal = number + 1 }) ≡ Some (record { class = class; key = key; number = number })
held_numbered class key number =
    let q : (number + 1 == 0) ≡ false = grind arith in
    let r : number + 1 - 1 ≡ number = omega arith in
    rw q (ap (λ n. Some (record { class = class; key = key; number = n })) r)

-- A slot that isn't open is passed over.
pub seat_on : (slots : List Slot) (t : ℕ × ℕ) (end place : ℕ) → place < end → is_open (held (slot_at slots place)) t ≡ false
    → open_slot_from (end - place) place slots t ≡ open_slot_from (end - (place + 1)) (place + 1) slots t
seat_on slots t end place i h = let q : end - place ≡ suc (end - (place + 1)) = omega arith in rw q (rw h refl)

-- If their home is taken, the open_slot of a class and key is after it.
pub seat_past : (slots : List Slot) (t : ℕ × ℕ) (place : ℕ) → t.0 < 2 ^ 32 → place ≡ home slots t → is_open (held (slot_at slots place)) t ≡ false
    → open_slot_from (place + REACH - (place + 1)) (place + 1) slots t ≡ open_slot slots t
seat_past slots t place i e h = sym (seat_on slots t (place + REACH) place (omega arith) h) ∙ seat_start slots t place i e

-- A slot that has a class and key is open to them.
of_open : (slot : Slot) (t : ℕ × ℕ) → is_of slot t ≡ true → is_open (held slot) t ≡ true
of_open slot t h = by_ordinal (slot.ordinal == 0)
  where
    by_ordinal : (b : Bool) → is_open (if b then None else Some (record { class = slot.class; key = slot.key; number = slot.ordinal - 1 })) t ≡ true
    by_ordinal true = refl
    by_ordinal false = h

-- The number of a class and key that are in their home.
pub number_home : (index : Index) (t : ℕ × ℕ) (place : ℕ) (slot : Slot) → t.0 < 2 ^ 32 → place ≡ home index.slots.items t → slot ≡ slot_at index.slots.items place → is_of slot t ≡ true
    → number_of index t ≡ number_in slot
number_home index t place slot fits e s h =
    let open_home = ap (λ z. is_open (held z) t) (sym s) ∙ of_open slot t h in
    ap (number_at index t) (seat_home index.slots.items t place fits e open_home) ∙ ap number_in (sym s)

-- Those whose home is empty have no number.
pub number_none : (index : Index) (t : ℕ × ℕ) (place : ℕ) (slot : Slot) → t.0 < 2 ^ 32 → place ≡ home index.slots.items t → slot ≡ slot_at index.slots.items place → slot.ordinal ≡ 0
    → number_of index t ≡ None
number_none index t place slot fits e s q =
    let b : (slot.ordinal == 0) ≡ true = grind (arith, q) in
    let none : held slot ≡ None = rw b refl in
    let open_home = ap (λ z. is_open (held z) t) (sym s) ∙ ap (λ o. is_open o t) none in
    ap (number_at index t) (seat_home index.slots.items t place fits e open_home) ∙ ap number_in (sym s) ∙ ap (option_map (λ (p : Placed). p.number)) none

-- A class and key that aren't in the index have no number.
number_nowhere : (index : Index) (t : ℕ × ℕ) → get target_cmp index.others t ≡ None → ((i : ℕ) (p : Placed) → held (slot_at index.slots.items i) ≡ Some p → (p.class, p.key) ≢ t) → (n place : ℕ)
    → number_at index t (open_slot_from n place index.slots.items t) ≡ None
number_nowhere index t o s zero place = o
number_nowhere index t o s (suc n) place = by_slot (held (slot_at index.slots.items place)) refl (number_nowhere index t o s n (place + 1))
  where
    by_slot : (slot : Option Placed) → held (slot_at index.slots.items place) ≡ slot → number_at index t (open_slot_from n (place + 1) index.slots.items t) ≡ None
        → number_at index t (if is_open slot t then Some place else open_slot_from n (place + 1) index.slots.items t) ≡ None
    by_slot None e h = ap (option_map (λ (p : Placed). p.number)) e
    by_slot (Some p) e h = by_test (is_open (Some p) t) refl
      where
        by_test : (b : Bool) → is_open (Some p) t ≡ b → number_at index t (if b then Some place else open_slot_from n (place + 1) index.slots.items t) ≡ None
        by_test true f = absurd (s place p e (same_target p.class p.key t f))
        by_test false f = h

pub none_of : (index : Index) (t : ℕ × ℕ) → get target_cmp index.others t ≡ None → ((i : ℕ) (p : Placed) → held (slot_at index.slots.items i) ≡ Some p → (p.class, p.key) ≢ t)
    → number_of index t ≡ None
unfolding open_slot
none_of index t o s = by_class (nat_lt t.0 (2 ^ 32))
  where
    by_class : (b : Bool) → number_at index t (if b then open_slot_from REACH (home index.slots.items t) index.slots.items t else None) ≡ None
    by_class true = number_nowhere index t o s REACH (home index.slots.items t)
    by_class false = o
