-- Lists are compared part by part.
use Rattle.std.specs.Prelude.{◌≡◌, ◌<◌, ◌≤◌, ◌+◌, ◌==◌, ℕ, zero, suc, Bool, true, false, List, [], ◌∷◌, length, map, slice_get, slice_index_or, Some}
use Rattle.std.proofs.Common.{ap, arith, refl, sym, ◌∙◌, subst}

-- Up to a number, two lists have the same members.
abbrev pub SameUpTo : {X : Type 0} → List X → List X → ℕ → Type 0
SameUpTo xs ys n = (i : ℕ) → i < n → slice_get xs i ≡ slice_get ys i

up_to_next : {X : Type 0} (xs ys : List X) (n : ℕ) → SameUpTo xs ys n → slice_get xs n ≡ slice_get ys n → SameUpTo xs ys (n + 1)
up_to_next xs ys n f e i l = by_last (i == n) refl
  where
    by_last : (b : Bool) → (i == n) ≡ b → slice_get xs i ≡ slice_get ys i
    by_last true q = let h : n ≡ i = grind (arith, q) in subst (λ z. slice_get xs z ≡ slice_get ys z) h e
    by_last false q = f i (grind (arith, q))

pub up_to_end : {X : Type 0} (xs ys : List X) (n : ℕ) → length xs ≡ length ys → length xs ≤ n → SameUpTo xs ys n → xs ≡ ys
up_to_end [] [] n s l f = refl
up_to_end [] (y ∷ ys) n s l f = absurd (omega (arith, s))
up_to_end (x ∷ xs) [] n s l f = absurd (omega (arith, s))
up_to_end {X = X} (x ∷ xs) (y ∷ ys) zero s l f = absurd (omega arith)
up_to_end {X = X} (x ∷ xs) (y ∷ ys) (suc n) s l f =
    let h : x ≡ y = (let z : Some x ≡ Some y = f 0 (omega arith) in cc) in
    let t : xs ≡ ys = up_to_end xs ys n (omega (arith, s)) (omega arith) (λ i k. f (suc i) (omega (arith, k))) in
    ap (λ z. z ∷ xs) h ∙ ap (λ z. y ∷ z) t

pub get_map : {X Y : Type 0} (f : X → Y) (xs : List X) (i : ℕ) (x : X) → slice_get xs i ≡ Some x → slice_get (map f xs) i ≡ Some (f x)
get_map f [] i x e = cc
get_map f (y ∷ ys) zero x e = (let h : y ≡ x = cc in ap (λ z. Some (f z)) h)
get_map f (y ∷ ys) (suc i) x e = get_map f ys i x e

pub map_at : {X Y : Type 0} (f : X → Y) (xs : List X) (i : ℕ) (d : X) → i < length xs → slice_get (map f xs) i ≡ Some (f (slice_index_or xs i d))
map_at f [] i d h = absurd (omega arith)
map_at f (x ∷ xs) zero d h = refl
map_at f (x ∷ xs) (suc i) d h = map_at f xs i d (omega arith)

-- Lists with different members are different.
pub differ_at : {X : Type 0} (xs ys : List X) (i : ℕ) (x y : X) → slice_get xs i ≡ Some x → slice_get ys i ≡ Some y → (x ≡ y → ⊥) → xs ≡ ys → ⊥
differ_at xs ys i x y a b n e = n (let z : Some x ≡ Some y = sym a ∙ (ap (λ z. slice_get z i) e ∙ b) in cc)

pub same_next : {X : Type 0} (xs ys : List X) (i : ℕ) (x y : X) → slice_get xs i ≡ Some x → slice_get ys i ≡ Some y → x ≡ y → SameUpTo xs ys i → SameUpTo xs ys (i + 1)
same_next xs ys i x y a b e s = up_to_next xs ys i s (a ∙ (ap (λ z. Some z) e ∙ sym b))
