-- Marks that are set one after another.
use Rattle.std.specs.Prelude.{◌≡◌, ◌≢◌, ◌↔◌, ◌⊎◌, ℕ, zero, suc, ◌<◌, ◌≤◌, Bool, true, false, List, [], ◌∷◌, ◌++◌, length, slice_set, replicate}
use Rattle.std.proofs.Common.{ap, arith, refl, sym, ◌∙◌, subst, inl, inr}
use Rattle.std.proofs.lemmas.Bool.{cases_lt}
use Rattle.std.proofs.lemmas.List.{length-set, get_or-set_same, get_or-set_other}
use Rattle.jfr_worklist.specs.Marks.{is_marked, IsMarked, marked_at, led_to, swept}
use Rattle.jfr_worklist.specs.Members.{In}

same_or_not : (i j : ℕ) → (j ≡ i) ⊎ (i ≢ j)
same_or_not i j = by_less (cases_lt i j) (cases_lt j i)
  where
    by_less : ((i < j) ⊎ (j ≤ i)) → ((j < i) ⊎ (i ≤ j)) → (j ≡ i) ⊎ (i ≢ j)
    by_less (inl h) r = inr (λ e. omega arith)
    by_less (inr h) (inl k) = inr (λ e. omega arith)
    by_less (inr h) (inr k) = inl (omega arith)

-- A number within the list is marked after it is set.
pub set_here : (ms : List Bool) (j : ℕ) → j < length ms → IsMarked (slice_set ms j true) j
set_here ms j h = get_or-set_same ms j true false h

-- A marked number stays marked.
pub set_stays : (ms : List Bool) (j i : ℕ) → IsMarked ms i → IsMarked (slice_set ms j true) i
set_stays [] j i m = cc
set_stays (b ∷ ms) zero zero m = refl
set_stays (b ∷ ms) zero (suc i) m = m
set_stays (b ∷ ms) (suc j) zero m = m
set_stays (b ∷ ms) (suc j) (suc i) m = set_stays ms j i m

-- What is marked after one number is set was marked before, or is that number.
pub set_only : (ms : List Bool) (j i : ℕ) → IsMarked (slice_set ms j true) i → IsMarked ms i ⊎ (j ≡ i)
set_only ms j i m = by_case (same_or_not i j)
  where
    by_case : (j ≡ i) ⊎ (i ≢ j) → IsMarked ms i ⊎ (j ≡ i)
    by_case (inl e) = inr e
    by_case (inr n) = inl (sym (get_or-set_other ms j i true false n) ∙ m)

-- A marked number stays marked while others are set, one after another.
pub all_stay : (ms : List Bool) (is : List ℕ) (i : ℕ) → IsMarked ms i → IsMarked (marked_at ms is) i
all_stay ms [] i m = m
all_stay ms (j ∷ is) i m = all_stay (slice_set ms j true) is i (set_stays ms j i m)

-- A number of the list is marked after all are.
pub all_here : (ms : List Bool) (is : List ℕ) (i : ℕ) → i < length ms → In is i → IsMarked (marked_at ms is) i
all_here ms [] i h k = absurd k
all_here ms (j ∷ is) i h (inl e) = all_stay (slice_set ms j true) is i (subst (IsMarked (slice_set ms j true)) e (set_here ms j (omega (arith, e))))
all_here ms (j ∷ is) i h (inr k) = all_here (slice_set ms j true) is i (let l : length (slice_set ms j true) ≡ length ms = length-set ms j true in omega arith) k

-- What is marked now was marked before, or is one of the numbers.
pub all_only : (ms : List Bool) (is : List ℕ) (i : ℕ) → IsMarked (marked_at ms is) i → IsMarked ms i ⊎ In is i
all_only ms [] i m = inl m
all_only ms (j ∷ is) i m = by_case (all_only (slice_set ms j true) is i m)
  where
    by_set : IsMarked ms i ⊎ (j ≡ i) → IsMarked ms i ⊎ In (j ∷ is) i
    by_set (inl k) = inl k
    by_set (inr e) = inr (inl e)

    by_case : IsMarked (slice_set ms j true) i ⊎ In is i → IsMarked ms i ⊎ In (j ∷ is) i
    by_case (inl k) = by_set (set_only ms j i k)
    by_case (inr k) = inr (inr k)

-- Two lists of numbers that are marked one after the other.
pub all_append : (ms : List Bool) (is js : List ℕ) → marked_at ms (is ++ js) ≡ marked_at (marked_at ms is) js
all_append ms [] js = refl
all_append ms (i ∷ is) js = all_append (slice_set ms i true) is js

-- Nothing changes if a marked number is set.
pub set_old : (ms : List Bool) (j : ℕ) → is_marked ms j ≡ true → slice_set ms j true ≡ ms
set_old [] j m = refl
set_old (true ∷ ms) zero m = refl
set_old (false ∷ ms) zero m = cc
set_old (b ∷ ms) (suc j) m = ap (λ z. b ∷ z) (set_old ms j m)

-- Nothing is marked at first.
pub none_marked : (n i : ℕ) → IsMarked (replicate n false) i → ⊥
none_marked zero i m = cc
none_marked (suc n) zero m = cc
none_marked (suc n) (suc i) m = none_marked n i m

-- There are as many flags as before.
pub all_size : (ms : List Bool) (is : List ℕ) → length (marked_at ms is) ≡ length ms
all_size ms [] = refl
all_size ms (i ∷ is) = all_size (slice_set ms i true) is ∙ length-set ms i true

pub swept_size : (next : ℕ → List ℕ) (k : ℕ) (ms : List Bool) → length (swept k next ms) ≡ length ms
swept_size next zero ms = refl
swept_size next (suc k) ms = all_size (swept k next ms) (led_to (swept k next ms) next) ∙ swept_size next k ms

-- Two lists of flags are the same if the same numbers are marked.
pub same_flags : (f g : List Bool) → length f ≡ length g → ((i : ℕ) → IsMarked f i ↔ IsMarked g i) → f ≡ g
same_flags [] [] l h = refl
same_flags [] (b ∷ g) l h = absurd (omega arith)
same_flags (a ∷ f) [] l h = absurd (omega arith)
same_flags (a ∷ f) (b ∷ g) l h = by_flag a b (h 0) (same_flags f g (omega arith) (λ i. h (suc i)))
  where
    by_flag : (a b : Bool) → (a ≡ true) ↔ (b ≡ true) → f ≡ g → a ∷ f ≡ b ∷ g
    by_flag true true k e = ap (λ z. true ∷ z) e
    by_flag false false k e = ap (λ z. false ∷ z) e
    by_flag true false k e = let z : false ≡ true = k.0 refl in cc
    by_flag false true k e = let z : false ≡ true = k.1 refl in cc
