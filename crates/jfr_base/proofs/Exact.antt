-- What `run` computes is what is there, or the first fault.
use Rattle.std.specs.Prelude.{◌≡◌, ℕ, zero, suc, ◌+◌, ◌-◌, ◌<◌, ◌≤◌, List, [], ◌∷◌, ◌++◌, length, take, slice_range, slice_index, Option, Some, None, ◌⊎◌, Ok, Err, option_map, nat_lt, nat_le, true, false, if◌then◌else◌}
use Rattle.std.proofs.Common.{ap, arith, refl, sym, ◌∙◌, inl, inr, subst}
use Rattle.std.proofs.lemmas.Bool.{cases_lt}
use Rattle.std.proofs.lemmas.List.{take_at}
use Rattle.jfr_base.specs.declared.reason.Reason.{Reason}
use Rattle.jfr_base.specs.declared.reason.Reason.TheVariants.{Short, Trailing}
use Rattle.jfr_base.specs.declared.integer.Var.{Var}
use Rattle.jfr_base.specs.Integer.{IsSpellingWithin, worth_within, IntAt}
use Rattle.jfr_base.specs.Formats.{Format, Done, Stop, Int, Byte, Run, Here, Refuse, Answer, checked, refused, int_at, prefix_length, after_int, run, Reads, Fails}
use Rattle.jfr_base.proofs.Ranges.{range_split, range_length}

-- The length of a spelling at the front is found.
pub found_within : (k : ℕ) (f r : List ℕ) → IsSpellingWithin k f → prefix_length k (f ++ r) ≡ Some (length f)
found_within k [] r s = absurd s
found_within zero (b ∷ []) r s = refl
found_within zero (b ∷ c ∷ f) r s = cc
found_within (suc k) (b ∷ []) r s = rw (ltb_is b s) refl
  where
    ltb_is : (b : ℕ) → b < 128 → nat_lt b 128 ≡ true
    ltb_is b h = grind arith
found_within (suc k) (b ∷ c ∷ f) r s = rw (ltb_not b s.0) (ap (option_map (λ n. suc n)) (found_within k (c ∷ f) r s.1))
  where
    ltb_not : (b : ℕ) → 128 ≤ b → nat_lt b 128 ≡ false
    ltb_not b h = grind arith

-- And what is found is one.
front_is : (k : ℕ) (b : List ℕ) (n : ℕ) → prefix_length k b ≡ Some n → IsSpellingWithin k (take n b) × (n ≤ length b)
front_is k [] n e = cc
front_is zero (b ∷ bs) n e = let h : 1 ≡ n = cc in subst (λ m. IsSpellingWithin zero (take m (b ∷ bs)) × (m ≤ suc (length bs))) h (refl, omega arith)
front_is (suc k) (b ∷ bs) n e = by_test (cases_lt b 128) (prefix_length k bs) refl (λ m h. front_is k bs m h)
  where
    longer : (f : List ℕ) → 128 ≤ b → IsSpellingWithin k f → IsSpellingWithin (suc k) (b ∷ f)
    longer [] h s = absurd s
    longer (f ∷ fs) h s = (h, s)

    more : (o : Option ℕ) → prefix_length k bs ≡ o → option_map (λ n. suc n) o ≡ Some n → 128 ≤ b → ((m : ℕ) → prefix_length k bs ≡ Some m → IsSpellingWithin k (take m bs) × (m ≤ length bs))
        → IsSpellingWithin (suc k) (take n (b ∷ bs)) × (n ≤ suc (length bs))
    more None o f g i = cc
    more (Some m) o f g i =
        let h : suc m ≡ n = cc in
        let j = i m o in
        subst (λ z. IsSpellingWithin (suc k) (take z (b ∷ bs)) × (z ≤ suc (length bs))) h (longer (take m bs) g j.0, omega (arith, j.1))

    by_test : ((b < 128) ⊎ (128 ≤ b)) → (o : Option ℕ) → prefix_length k bs ≡ o → ((m : ℕ) → prefix_length k bs ≡ Some m → IsSpellingWithin k (take m bs) × (m ≤ length bs))
        → IsSpellingWithin (suc k) (take n (b ∷ bs)) × (n ≤ suc (length bs))
    by_test (inl h) o f i =
        let t : nat_lt b 128 ≡ true = grind arith in
        let g : 1 ≡ n = cc (rw t at e) in
        subst (λ z. IsSpellingWithin (suc k) (take z (b ∷ bs)) × (z ≤ suc (length bs))) g (h, omega arith)
    by_test (inr h) o f i =
        let t : nat_lt b 128 ≡ false = grind arith in
        let g : option_map (λ n. suc n) (prefix_length k bs) ≡ Some n = rw t at e in
        more o f (rw f at g) h i

front_of_range : (x : List ℕ) (at end n : ℕ) → end ≤ length x → n ≤ length (slice_range x at end) → take n (slice_range x at end) ≡ slice_range x at (at + n)
front_of_range x at end n h i =
    let l : length (slice_range x at end) ≡ end - at = range_length x at end h in
    let s : slice_range x at end ≡ slice_range x at (at + n) ++ slice_range x (at + n) end = by_zero (cases_lt at end) l in
    ap (take n) s ∙ take_at (slice_range x at (at + n)) (slice_range x (at + n) end) n (by_room (cases_lt at end) l)
  where
    by_zero : ((at < end) ⊎ (end ≤ at)) → length (slice_range x at end) ≡ end - at → slice_range x at end ≡ slice_range x at (at + n) ++ slice_range x (at + n) end
    by_zero (inl j) l = range_split x at (at + n) end (omega arith) (omega arith)
    by_zero (inr j) l =
        let z : n ≡ 0 = omega arith in
        let e : at + n - at ≡ 0 = omega arith in
        let f : end - (at + n) ≡ 0 = omega arith in
        let g : end - at ≡ 0 = omega arith in
        rw (e, f, g) refl

    by_room : ((at < end) ⊎ (end ≤ at)) → length (slice_range x at end) ≡ end - at → length (slice_range x at (at + n)) ≡ n
    by_room (inl j) l = range_length x at (at + n) (omega arith) ∙ omega arith
    by_room (inr j) l = let z : at + n - at ≡ 0 = omega arith in let w : n ≡ 0 = omega arith in rw (z, w) refl

-- The integer that is computed is there.
pub int_found : (x : List ℕ) (at end : ℕ) (v : Var) → at ≤ end → end ≤ length x → int_at x at end ≡ Some v → IntAt x at v.end v.value × (v.end ≤ end)
unfolding int_at
int_found x at end v h i e = by_front (prefix_length 8 (slice_range x at end)) refl e
  where
    by_front : (o : Option ℕ) → prefix_length 8 (slice_range x at end) ≡ o → option_map (λ n. record { value = worth_within 8 (slice_range x at (at + n)); end = at + n }) o ≡ Some v
        → IntAt x at v.end v.value × (v.end ≤ end)
    by_front None f g = cc
    by_front (Some n) f g =
        let p = front_is 8 (slice_range x at end) n f in
        let l : length (slice_range x at end) ≡ end - at = range_length x at end i in
        let s : IsSpellingWithin 8 (slice_range x at (at + n)) = subst (IsSpellingWithin 8) (front_of_range x at end n i p.1) p.0 in
        let k : at + n ≤ end = omega (arith, p.1) in
        let w : Var = record { value = worth_within 8 (slice_range x at (at + n)); end = at + n } in
        let r : IntAt x at w.end w.value = record { order = omega arith; within = omega arith; spelled = record { form = s; worth = refl } } in
        let y : w ≡ v = cc in
        subst (λ (u : Var). IntAt x at u.end u.value × (u.end ≤ end)) y (r, k)

-- If none is computed, there is none.
pub int_none : (x : List ℕ) (at end : ℕ) → end ≤ length x → int_at x at end ≡ None → (q v : ℕ) → IntAt x at q v → q ≤ end → ⊥
unfolding int_at
int_none x at end h e q v p i =
    let s : slice_range x at end ≡ slice_range x at q ++ slice_range x q end = range_split x at q end p.order i in
    let f : prefix_length 8 (slice_range x at end) ≡ Some (length (slice_range x at q)) = ap (prefix_length 8) s ∙ found_within 8 (slice_range x at q) (slice_range x q end) p.spelled.form in
    let var : ℕ → Var = λ n. record { value = worth_within 8 (slice_range x at (at + n)); end = at + n } in
    let g : option_map var (prefix_length 8 (slice_range x at end)) ≡ Some (var (length (slice_range x at q))) = ap (option_map var) f in
    cc (sym e ∙ g)

-- What an answer says.
abbrev pub ReadsOrFails : {A : Type 0} → Format A → List ℕ → ℕ → ℕ → Answer A → Type 0
ReadsOrFails f x end at (Ok g) = Reads f x end at g.value g.place
ReadsOrFails f x end at (Err e) = Fails f x end at e.offset e.reason

pub run_reads_or_fails : {A : Type 0} (f : Format A) (x : List ℕ) (end at : ℕ) → at ≤ end → end ≤ length x → ReadsOrFails f x end at (run f x end at)
unfolding run
run_reads_or_fails {A = A} (Done a) x end at h i = (refl, refl)
run_reads_or_fails {A = A} (Stop next) x end at h i = by_test (cases_lt at end) (run_reads_or_fails next x end at h i)
  where
    after : (r : Answer A) → end ≤ at → ReadsOrFails next x end at r → ReadsOrFails (Stop next) x end at r
    after (Ok g) j s = (j, s)
    after (Err e) j s = inr (j, s)

    by_test : ((at < end) ⊎ (end ≤ at)) → ReadsOrFails next x end at (run next x end at) → ReadsOrFails (Stop next) x end at (if nat_lt at end then refused at Trailing else run next x end at)
    by_test (inl j) s = let t : nat_lt at end ≡ true = grind arith in rw t (inl (j, refl, refl))
    by_test (inr j) s = let t : nat_lt at end ≡ false = grind arith in rw t (after (run next x end at) j s)
run_reads_or_fails {A = A} (Int check next) x end at h i = by_int (int_at x at end) refl (λ v s q j. run_reads_or_fails (next v s) x end q j i)
  where
    after : (v : Var) (o : Option Reason) (r : Answer A) → check v.value ≡ o → IntAt x at v.end v.value × (v.end ≤ end) → ReadsOrFails (next v.value (slice_range x at v.end)) x end v.end r
        → ReadsOrFails (Int check next) x end at (checked at o r)
    after v None (Ok g) e p s = (v.end, v.value, p.0, p.1, e, s)
    after v None (Err w) e p s = inr (v.end, v.value, p.0, p.1, inr (e, s))
    after v (Some why) r e p s = inr (v.end, v.value, p.0, p.1, inl (e, refl))

    by_int : (o : Option Var) → int_at x at end ≡ o → ((v : ℕ) (s : List ℕ) (q : ℕ) → q ≤ end → ReadsOrFails (next v s) x end q (run (next v s) x end q))
        → ReadsOrFails (Int check next) x end at (after_int x at check (λ v s p. run (next v s) x end p) o)
    by_int None e s = inl (int_none x at end i e, refl, refl)
    by_int (Some v) e s = let p = int_found x at end v h i e in after v (check v.value) (run (next v.value (slice_range x at v.end)) x end v.end) refl p (s v.value (slice_range x at v.end) v.end p.1)
run_reads_or_fails {A = A} (Byte check next) x end at h i = by_test (cases_lt at end) (λ j. run_reads_or_fails (next (slice_index x at)) x end (at + 1) j i)
  where
    after : (o : Option Reason) (r : Answer A) → check (slice_index x at) ≡ o → at < end → ReadsOrFails (next (slice_index x at)) x end (at + 1) r
        → ReadsOrFails (Byte check next) x end at (checked at o r)
    after None (Ok g) e j s = (j, e, s)
    after None (Err w) e j s = inr (j, inr (e, s))
    after (Some why) r e j s = inr (j, inl (e, refl))

    by_test : ((at < end) ⊎ (end ≤ at)) → (at + 1 ≤ end → ReadsOrFails (next (slice_index x at)) x end (at + 1) (run (next (slice_index x at)) x end (at + 1)))
        → ReadsOrFails (Byte check next) x end at (if nat_lt at end then checked at (check (slice_index x at)) (run (next (slice_index x at)) x end (at + 1)) else refused at Short)
    by_test (inl j) s = let t : nat_lt at end ≡ true = grind arith in rw t (after (check (slice_index x at)) (run (next (slice_index x at)) x end (at + 1)) refl j (s (omega arith)))
    by_test (inr j) s = let t : nat_lt at end ≡ false = grind arith in rw t (inl (j, refl, refl))
run_reads_or_fails {A = A} (Run n next) x end at h i = by_test (cases_lt end (at + n)) (λ j. run_reads_or_fails (next (slice_range x at (at + n))) x end (at + n) j i)
  where
    after : (r : Answer A) → at + n ≤ end → ReadsOrFails (next (slice_range x at (at + n))) x end (at + n) r → ReadsOrFails (Run n next) x end at r
    after (Ok g) j s = (j, s)
    after (Err w) j s = inr (j, s)

    by_test : ((end < at + n) ⊎ (at + n ≤ end)) → (at + n ≤ end → ReadsOrFails (next (slice_range x at (at + n))) x end (at + n) (run (next (slice_range x at (at + n))) x end (at + n)))
        → ReadsOrFails (Run n next) x end at (if nat_le (at + n) end then run (next (slice_range x at (at + n))) x end (at + n) else refused at Short)
    by_test (inl j) s = let t : nat_le (at + n) end ≡ false = grind arith in rw t (inl (j, refl, refl))
    by_test (inr j) s = let t : nat_le (at + n) end ≡ true = grind arith in rw t (after (run (next (slice_range x at (at + n))) x end (at + n)) j (s j))
run_reads_or_fails {A = A} (Here next) x end at h i = run_reads_or_fails (next at) x end at h i
run_reads_or_fails {A = A} (Refuse why) x end at h i = (refl, refl)
