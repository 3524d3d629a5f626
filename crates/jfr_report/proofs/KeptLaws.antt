-- The kept events, one after another.
use Rattle.std.proofs.Common.{◌≡◌, ℕ, zero, suc, ◌+◌, ◌∙◌, refl, sym, ap, Bool, true, false, List, [], ◌∷◌, drop, None, Some, slice_get, ◌<◌, ◌≤◌, length, arith}
use Rattle.std.proofs.Math.ListN.{drop_of_length-le}
use Rattle.std.specs.Prelude.{unwrap_or}
use Rattle.jfr_chunk.specs.Reach.{marked}

none_marked : {X : Type 0} (fs : List Bool) → marked {X = X} fs [] ≡ []
none_marked [] = refl
none_marked (f ∷ fs) = refl

drop_none : (X : Type 0) (n : ℕ) (xs : List X) → xs ≡ [] → drop n xs ≡ []
drop_none X zero xs e = e
drop_none X (suc n) [] e = refl
drop_none X (suc n) (x ∷ xs) e = cc

-- A member that isn't marked is passed.
skips : {X : Type 0} (fs : List Bool) (xs : List X) (n : ℕ) → unwrap_or (slice_get fs n) false ≡ false → marked (drop n fs) (drop n xs) ≡ marked (drop (suc n) fs) (drop (suc n) xs)
skips [] xs n e = ap (λ z. marked z (drop n xs)) (drop_none Bool n [] refl)
skips {X} (f ∷ fs) [] n e = ap (λ z. marked (drop n (f ∷ fs)) z) (drop_none X n [] refl) ∙ (none_marked (drop n (f ∷ fs)) ∙ sym (none_marked (drop (suc n) (f ∷ fs))))
skips (true ∷ fs) (x ∷ xs) zero e = cc
skips (false ∷ fs) (x ∷ xs) zero e = refl
skips (f ∷ fs) (x ∷ xs) (suc n) e = skips fs xs n e

-- A member that is marked is the next one.
takes : {X : Type 0} (fs : List Bool) (xs : List X) (x : X) (n : ℕ) → unwrap_or (slice_get fs n) false ≡ true → slice_get xs n ≡ Some x
    → marked (drop n fs) (drop n xs) ≡ x ∷ marked (drop (suc n) fs) (drop (suc n) xs)
takes [] xs x n e h = cc
takes (f ∷ fs) [] x n e h = cc
takes (true ∷ fs) (y ∷ ys) x zero e h = cc
takes (false ∷ fs) (y ∷ ys) x zero e h = cc
takes (f ∷ fs) (y ∷ ys) x (suc n) e h = takes fs ys x n e h

one_more : (n : ℕ) → suc n ≡ n + 1
one_more n = omega arith

pub kept_skips : {X : Type 0} (fs : List Bool) (xs : List X) (n : ℕ) → unwrap_or (slice_get fs n) false ≡ false → marked (drop n fs) (drop n xs) ≡ marked (drop (n + 1) fs) (drop (n + 1) xs)
kept_skips fs xs n e = skips fs xs n e ∙ ap (λ k. marked (drop k fs) (drop k xs)) (one_more n)

pub kept_takes : {X : Type 0} (fs : List Bool) (xs : List X) (x : X) (n : ℕ) → unwrap_or (slice_get fs n) false ≡ true → slice_get xs n ≡ Some x
    → marked (drop n fs) (drop n xs) ≡ x ∷ marked (drop (n + 1) fs) (drop (n + 1) xs)
kept_takes fs xs x n e h = takes fs xs x n e h ∙ ap (λ k. x ∷ marked (drop k fs) (drop k xs)) (one_more n)

-- Past the last one nothing is left.
pub kept_past : {X : Type 0} (fs : List Bool) (xs : List X) (n : ℕ) → length xs ≤ n → marked (drop n fs) (drop n xs) ≡ []
kept_past fs xs n l = ap (λ z. marked (drop n fs) z) (drop_of_length-le xs l) ∙ none_marked (drop n fs)
