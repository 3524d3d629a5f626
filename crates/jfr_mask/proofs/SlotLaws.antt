-- A hash table of numbers, before and after one more is put.
use Rattle.std.specs.Prelude.{◌≡◌, ◌≢◌, ℕ, zero, suc, ◌+◌, ◌<◌, ◌≤◌, ◌==◌, Bool, true, false, not, cond, nat_le, nat_lt, List, [], ◌∷◌, Option, Some, None, drop, length, position, slice_get, take, if◌then◌else◌}
use Rattle.std.specs.List.{position_or_len}
use Rattle.std.proofs.Common.{ap, arith, refl, sym, subst, ◌∙◌}
use Rattle.std.proofs.Math.ListN.{set}
use Rattle.std.proofs.lemmas.Bool.{eqb-false, eqb-true, le-leb, leb-true, ltb-true}
use Rattle.std.proofs.lemmas.List.{length-set}
use Rattle.std.proofs.lemmas.Option.{slice_get_within}
use Rattle.jfr_mask.specs.Slotted.{AreKept, AreSlotted, HasSlot, first_slot, is_empty, window}
use Rattle.jfr_mask.specs.declared.slots.Slot.{Slot}

-- What is at an index of a part of a list, and of a list in which one item is replaced.
module _ {X : Type 0} where
  get_taken : (n : ℕ) (xs : List X) (k : ℕ) (x : X) → slice_get (take n xs) k ≡ Some x → (k < n) × (slice_get xs k ≡ Some x)
  get_taken zero xs k x e = cc
  get_taken (suc n) [] k x e = cc
  get_taken (suc n) (y ∷ ys) zero x e = (omega arith, e)
  get_taken (suc n) (y ∷ ys) (suc k) x e = let r : (k < n) × (slice_get ys k ≡ Some x) = get_taken n ys k x e in (let h : k < n = r.0 in omega arith, r.1)

  get_take : (n : ℕ) (xs : List X) (k : ℕ) → k < n → slice_get (take n xs) k ≡ slice_get xs k
  get_take zero xs k h = absurd (omega arith)
  get_take (suc n) [] k h = refl
  get_take (suc n) (y ∷ ys) zero h = refl
  get_take (suc n) (y ∷ ys) (suc k) h = get_take n ys k (omega arith)

  get_drop : (n : ℕ) (xs : List X) (k : ℕ) → slice_get (drop n xs) k ≡ slice_get xs (n + k)
  get_drop zero xs k = let e : 0 + k ≡ k = omega arith in ap (slice_get xs) (sym e)
  get_drop (suc n) [] k = refl
  get_drop (suc n) (y ∷ ys) k = let e : suc n + k ≡ suc (n + k) = omega arith in get_drop n ys k ∙ ap (slice_get (y ∷ ys)) (sym e)

  get_other : (xs : List X) (i k : ℕ) (v : X) → k ≢ i → slice_get (set xs i v) k ≡ slice_get xs k
  get_other [] i k v h = refl
  get_other (y ∷ ys) zero zero v h = absurd (h refl)
  get_other (y ∷ ys) zero (suc k) v h = refl
  get_other (y ∷ ys) (suc i) zero v h = refl
  get_other (y ∷ ys) (suc i) (suc k) v h = get_other ys i k v (λ e. h (ap suc e))

  get_same : (xs : List X) (i : ℕ) (v x : X) → slice_get xs i ≡ Some x → slice_get (set xs i v) i ≡ Some v
  get_same [] i v x e = cc
  get_same (y ∷ ys) zero v x e = refl
  get_same (y ∷ ys) (suc i) v x e = get_same ys i v x e

  one : (o : Option X) (x y : X) → o ≡ Some x → o ≡ Some y → x ≡ y
  one o x y e f = let s : Some x ≡ Some y = sym e ∙ f in cc

  -- The first item that passes a test.
  found : (p : X → Bool) (xs : List X) → position_or_len p xs < length xs → (x : X) × (slice_get xs (position_or_len p xs) ≡ Some x) × (p x ≡ true)
  found p [] h = absurd (omega arith)
  found p (y ∷ ys) h = by_test (p y) refl h (found p ys)
    where
      by_test : (b : Bool) → p y ≡ b → cond (not b) (1 + position_or_len p ys) 0 < length (y ∷ ys)
          → (position_or_len p ys < length ys → (x : X) × (slice_get ys (position_or_len p ys) ≡ Some x) × (p x ≡ true))
          → (x : X) × (slice_get (y ∷ ys) (cond (not b) (1 + position_or_len p ys) 0) ≡ Some x) × (p x ≡ true)
      by_test true e h rest = (y, refl, e)
      by_test false e h rest =
          let r = rest (omega arith) in
          let s : 1 + position_or_len p ys ≡ suc (position_or_len p ys) = omega arith in
          (r.0, ap (slice_get (y ∷ ys)) s ∙ r.1, r.2)

  before_found : (p : X → Bool) (xs : List X) (k : ℕ) (x : X) → k < position_or_len p xs → slice_get xs k ≡ Some x → p x ≡ false
  before_found p [] k x h e = cc
  before_found p (y ∷ ys) k x h e = by_test (p y) k refl h e (λ j. before_found p ys j x)
    where
      by_test : (b : Bool) (k : ℕ) → p y ≡ b → k < cond (not b) (1 + position_or_len p ys) 0 → slice_get (y ∷ ys) k ≡ Some x
          → ((j : ℕ) → j < position_or_len p ys → slice_get ys j ≡ Some x → p x ≡ false) → p x ≡ false
      by_test true k t h e rest = absurd (omega arith)
      by_test false zero t h e rest = let s : y ≡ x = cc in ap p (sym s) ∙ t
      by_test false (suc k) t h e rest = rest k (omega arith) e

  pub first_found : (p : X → Bool) (xs : List X) (i : ℕ) → Some i ≡ position p xs
      → ((x : X) × (slice_get xs i ≡ Some x) × (p x ≡ true)) × ((k : ℕ) (x : X) → k < i → slice_get xs k ≡ Some x → p x ≡ false)
  first_found p xs i e = by_test (nat_lt (position_or_len p xs) (length xs)) refl e
    where
      by_test : (b : Bool) → nat_lt (position_or_len p xs) (length xs) ≡ b → Some i ≡ cond b (Some (position_or_len p xs)) None
          → ((x : X) × (slice_get xs i ≡ Some x) × (p x ≡ true)) × ((k : ℕ) (x : X) → k < i → slice_get xs k ≡ Some x → p x ≡ false)
      by_test true t e =
          let is : position_or_len p xs ≡ i = cc in
          subst (λ z. ((x : X) × (slice_get xs z ≡ Some x) × (p x ≡ true)) × ((k : ℕ) (x : X) → k < z → slice_get xs k ≡ Some x → p x ≡ false)) is
          (found p xs (ltb-true (position_or_len p xs) (length xs) t), before_found p xs)
      by_test false t e = cc

-- What is at a step of a window.
in_window : (slots : List Slot) (tag k : ℕ) (x : Slot) → slice_get (window slots tag) k ≡ Some x
    → (k < 64) × (first_slot (length slots) tag + 64 ≤ length slots) × (slice_get slots (first_slot (length slots) tag + k) ≡ Some x)
in_window slots tag k x e = by_fit (nat_le (first_slot (length slots) tag + 64) (length slots)) refl e
  where
    by_fit : (b : Bool) → nat_le (first_slot (length slots) tag + 64) (length slots) ≡ b
        → slice_get (if b then take 64 (drop (first_slot (length slots) tag) slots) else []) k ≡ Some x
        → (k < 64) × (first_slot (length slots) tag + 64 ≤ length slots) × (slice_get slots (first_slot (length slots) tag + k) ≡ Some x)
    by_fit true f e =
        let t = get_taken 64 (drop (first_slot (length slots) tag) slots) k x e in
        (t.0, leb-true (first_slot (length slots) tag + 64) (length slots) f, sym (get_drop (first_slot (length slots) tag) slots k) ∙ t.1)
    by_fit false f e = cc

to_window : (slots : List Slot) (tag k : ℕ) (x : Slot) → k < 64 → first_slot (length slots) tag + 64 ≤ length slots → slice_get slots (first_slot (length slots) tag + k) ≡ Some x
    → slice_get (window slots tag) k ≡ Some x
to_window slots tag k x h f e = ap (λ b. slice_get (if b then take 64 (drop (first_slot (length slots) tag) slots) else []) k) (le-leb (first_slot (length slots) tag + 64) (length slots) f)
    ∙ (get_take 64 (drop (first_slot (length slots) tag) slots) k h ∙ (get_drop (first_slot (length slots) tag) slots k ∙ e))

-- An empty slot gets a number.
module _ (slots : List Slot) (i : ℕ) (v empty : Slot) (at : slice_get slots i ≡ Some empty) (is : empty.number ≡ 0) where
  abbrev after : List Slot
  after = set slots i v

  len : length after ≡ length slots
  len = length-set slots i v

  firsts : (tag : ℕ) → first_slot (length after) tag ≡ first_slot (length slots) tag
  firsts tag = ap (λ n. first_slot n tag) len

  -- What another index of a window has.
  to_after : (tag k : ℕ) (x : Slot) → slice_get (window slots tag) k ≡ Some x → first_slot (length slots) tag + k ≢ i → slice_get (window after tag) k ≡ Some x
  to_after tag k x e h =
      let w = in_window slots tag k x e in
      to_window after tag k x w.0 (subst (λ n. first_slot n tag + 64 ≤ n) (sym len) w.1)
      (ap (λ n. slice_get after (n + k)) (firsts tag) ∙ (get_other slots i (first_slot (length slots) tag + k) v h ∙ w.2))

  from_after : (tag k : ℕ) (x : Slot) → slice_get (window after tag) k ≡ Some x → first_slot (length slots) tag + k ≢ i → slice_get (window slots tag) k ≡ Some x
  from_after tag k x e h =
      let w = in_window after tag k x e in
      to_window slots tag k x w.0 (subst (λ n. first_slot n tag + 64 ≤ n) len w.1)
      (sym (get_other slots i (first_slot (length slots) tag + k) v h) ∙ (sym (ap (λ n. slice_get after (n + k)) (firsts tag)) ∙ w.2))

  -- The index in a window is the one that is written.
  hits : (tag k : ℕ) (x : Slot) → slice_get (window slots tag) k ≡ Some x → first_slot (length slots) tag + k ≡ i → x.number ≡ 0
  hits tag k x e h =
      let w = in_window slots tag k x e in
      let same : x ≡ empty = one (slice_get slots i) x empty (ap (slice_get slots) (sym h) ∙ w.2) at in
      ap (λ (s : Slot). s.number) same ∙ is

  pub kept : AreKept slots after
  kept tag number some old = record {
    step = old.step;
    slot = old.slot;
    there = to_after tag old.step old.slot old.there (λ h. some (sym old.numbered ∙ hits tag old.step old.slot old.there h));
    tagged = old.tagged;
    numbered = old.numbered;
    before = λ k other h e. by_index k other h e (first_slot (length slots) tag + k == i) refl;
  }
    where
      by_index : (k : ℕ) (other : Slot) → k < old.step → slice_get (window after tag) k ≡ Some other → (b : Bool) → (first_slot (length slots) tag + k == i) ≡ b → other.number ≢ 0
      by_index k other h e false t = old.before k other h (from_after tag k other e (eqb-false (first_slot (length slots) tag + k) i t))
      by_index k other h e true t =
          let is_there : first_slot (length slots) tag + k ≡ i = eqb-true (first_slot (length slots) tag + k) i t in
          let w = in_window slots tag old.step old.slot old.there in
          let below : old.step < 64 = w.0 in
          let was : slice_get (window slots tag) k ≡ Some empty = to_window slots tag k empty (omega arith) w.1 (ap (slice_get slots) is_there ∙ at) in
          absurd (old.before k empty h was is)

  pub put : (step : ℕ) → i ≡ first_slot (length slots) v.tag + step → slice_get (window slots v.tag) step ≡ Some empty
      → ((k : ℕ) (x : Slot) → k < step → slice_get (window slots v.tag) k ≡ Some x → is_empty x ≡ false) → HasSlot after v.tag v.number
  put step index there full =
      let w = in_window slots v.tag step empty there in
      record {
        step = step;
        slot = v;
        there = to_window after v.tag step v w.0 (subst (λ n. first_slot n v.tag + 64 ≤ n) (sym len) w.1)
            (ap (λ n. slice_get after (n + step)) (firsts v.tag) ∙ (ap (slice_get after) (sym index) ∙ get_same slots i v empty at));
        tagged = refl;
        numbered = refl;
        before = λ k x h e. eqb-false x.number 0 (full k x h (from_after v.tag k x e (λ same. absurd (omega arith))));
      }

-- A number is put into the first empty slot of its window.
module _ (slots shown : List Slot) (v : Slot) (first step : ℕ) (w : shown ≡ window slots v.tag) (f : first ≡ first_slot (length slots) v.tag) (s : Some step ≡ position is_empty shown) where
  spot : ((x : Slot) × (slice_get (window slots v.tag) step ≡ Some x) × (is_empty x ≡ true)) × ((k : ℕ) (x : Slot) → k < step → slice_get (window slots v.tag) k ≡ Some x → is_empty x ≡ false)
  spot = first_found is_empty (window slots v.tag) step (s ∙ ap (position is_empty) w)

  held : slice_get slots (first + step) ≡ Some spot.0.0
  held = ap (λ n. slice_get slots (n + step)) f ∙ (in_window slots v.tag step spot.0.0 spot.0.1).2

  zero_there : spot.0.0.number ≡ 0
  zero_there = eqb-true spot.0.0.number 0 spot.0.2

  pub spot_within : first + step < length slots
  spot_within = slice_get_within slots (first + step) spot.0.0 held

  pub slots_kept : AreKept slots (set slots (first + step) v)
  slots_kept = kept slots (first + step) v spot.0.0 held zero_there

  pub slot_put : HasSlot (set slots (first + step) v) v.tag v.number
  slot_put = put slots (first + step) v spot.0.0 held zero_there step (ap (λ n. n + step) f) spot.0.1 spot.1

-- Each of the first slots that isn't empty has its like in the table.
abbrev pub SlottedTo : List Slot → List Slot → ℕ → Type 0
SlottedTo these slots n = (k : ℕ) (slot : Slot) → k < n → slice_get these k ≡ Some slot → slot.number ≢ 0 → HasSlot slots slot.tag slot.number

pub slotted_next : (these old new : List Slot) (i : ℕ) (x : Slot) → SlottedTo these old i → AreKept old new → slice_get these i ≡ Some x → (x.number ≢ 0 → HasSlot new x.tag x.number) → SlottedTo these new (i + 1)
slotted_next these old new i x before keep at here k slot h e some = by_index (k == i) refl
  where
    by_index : (b : Bool) → (k == i) ≡ b → HasSlot new slot.tag slot.number
    by_index true t =
        let is : k ≡ i = eqb-true k i t in
        let same : x ≡ slot = one (slice_get these i) x slot at (ap (slice_get these) (sym is) ∙ e) in
        subst (λ (s : Slot). HasSlot new s.tag s.number) same (here (λ z. some (sym (ap (λ (s : Slot). s.number) same) ∙ z)))
    by_index false t =
        let other : k ≢ i = eqb-false k i t in
        keep slot.tag slot.number some (before k slot (omega arith) e some)

pub slotted_all : (these slots : List Slot) (n : ℕ) → length these ≤ n → SlottedTo these slots n → AreSlotted these slots
slotted_all these slots n past h k slot e some = let w : k < length these = slice_get_within these k slot e in h k slot (omega arith) e some

-- What is kept in a table with each slot of another one.
pub all_kept : (these slots : List Slot) → AreSlotted these slots → AreKept these slots
all_kept these slots h tag number some old =
    let there = in_window these tag old.step old.slot old.there in
    subst (λ t. HasSlot slots t number) old.tagged
    (subst (λ n. HasSlot slots old.slot.tag n) old.numbered (h (first_slot (length these) tag + old.step) old.slot there.2 (λ z. some (sym old.numbered ∙ z))))
