-- Whether some element passes a test, one after another.
use Rattle.std.specs.Prelude.{◌≡◌, ℕ, zero, suc, ◌+◌, ◌≤◌, Bool, true, false, ◌||◌, List, [], ◌∷◌, length, drop, slice_get, Some}
use Rattle.std.specs.List.{list_any}
use Rattle.std.proofs.Common.{ap, refl, sym, ◌∙◌, arith, drop_of_length-le}

-- The item with an index, and those after it.
pub drop_at_get : {X : Type 0} (xs : List X) (i : ℕ) (x : X) → slice_get xs i ≡ Some x → drop i xs ≡ x ∷ drop (i + 1) xs
drop_at_get [] i x e = cc
drop_at_get (y ∷ ys) zero x e = let h : y ≡ x = cc in ap (λ z. z ∷ ys) h
drop_at_get (y ∷ ys) (suc i) x e = let h : suc i + 1 ≡ suc (i + 1) = omega arith in rw h (drop_at_get ys i x e)

pub any_found : {X : Type 0} (f : X → Bool) (xs : List X) (i : ℕ) (x : X) → slice_get xs i ≡ Some x → f x ≡ true → list_any f (drop i xs) ≡ true
any_found f xs i x e t = ap (list_any f) (drop_at_get xs i x e) ∙ ap (λ b. b || list_any f (drop (i + 1) xs)) t

pub any_next : {X : Type 0} (f : X → Bool) (xs : List X) (i : ℕ) (x : X) → slice_get xs i ≡ Some x → f x ≡ false → list_any f (drop (i + 1) xs) ≡ list_any f (drop i xs)
any_next f xs i x e t = sym (ap (list_any f) (drop_at_get xs i x e) ∙ ap (λ b. b || list_any f (drop (i + 1) xs)) t)

pub any_end : {X : Type 0} (f : X → Bool) (xs : List X) (i : ℕ) → length xs ≤ i → list_any f (drop i xs) ≡ false
any_end f xs i h = ap (list_any f) (drop_of_length-le xs h)

pub any_same : {X : Type 0} (f g : X → Bool) → ((x : X) → f x ≡ g x) → (xs : List X) → list_any f xs ≡ list_any g xs
any_same f g h [] = refl
any_same f g h (x ∷ xs) = ap (λ b. b || list_any f xs) (h x) ∙ ap (λ b. g x || b) (any_same f g h xs)

or_swap : (a b c d : Bool) → ((a || b) || (c || d)) ≡ ((a || c) || (b || d))
or_swap true b c d = refl
or_swap false true true d = refl
or_swap false true false d = refl
or_swap false false c d = refl

-- One of two tests.
pub any_or : {X : Type 0} (f g : X → Bool) (xs : List X) → (list_any f xs || list_any g xs) ≡ list_any (λ x. f x || g x) xs
any_or f g [] = refl
any_or f g (x ∷ xs) = or_swap (f x) (list_any f xs) (g x) (list_any g xs) ∙ ap (λ b. (f x || g x) || b) (any_or f g xs)

pub any_never : {X : Type 0} (xs : List X) → list_any (λ x. false) xs ≡ false
any_never [] = refl
any_never (x ∷ xs) = any_never xs

-- Some pair, from either side.
pub any_swap : {X Y : Type 0} (f : X → Y → Bool) (xs : List X) (ys : List Y) → list_any (λ y. list_any (λ x. f x y) xs) ys ≡ list_any (λ x. list_any (f x) ys) xs
any_swap f xs [] = sym (any_never xs)
any_swap f xs (y ∷ ys) = ap (λ b. list_any (λ x. f x y) xs || b) (any_swap f xs ys) ∙ any_or (λ x. f x y) (λ x. list_any (f x) ys) xs
