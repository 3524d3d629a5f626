-- The index of the class with an id, and the class at this index.
use Rattle.std.proofs.Common.{◌≡◌, ℕ, suc, ◌+◌, ◌<◌, List, [], ◌∷◌, ◌++◌, length, Some, None, Bool, true, false, cond, ◌||◌, sym, ◌∙◌, ap, refl, arith}
use Rattle.std.specs.Prelude.{is_some, position, find, nat_lt, ◌==◌}
use Rattle.std.specs.Option.{option_or}
use Rattle.std.specs.List.{slice_get, list_any, position_from, position_or_len}
use Rattle.std.proofs.lemmas.List.Folds.{find_at}
use Rattle.std.proofs.lemmas.List.Quantifiers.{position-Some}
use Rattle.std.proofs.lemmas.Option.{cond_some}
use Rattle.std.proofs.lemmas.Iterator.Adapters.{position_from-zero}
use Rattle.jfr_layout.specs.Classes.{Class, Classes, class_index, find_class}

-- By cases on what a test gives.
by_test : {A : Type 0} (f g : Bool → A) → f true ≡ g true → f false ≡ g false → (b : Bool) → f b ≡ g b
by_test f g t e true = t
by_test f g t e false = e

from_push : {X : Type 0} (p : X → Bool) (i : ℕ) (xs : List X) (x : X) → position_from p i (xs ++ x ∷ []) ≡ option_or (position_from p i xs) (cond (p x) (Some (i + length xs)) None)
from_push p i [] x = let e : i + 0 ≡ i = omega arith in ap (λ n. cond (p x) (Some n) None) (sym e)
from_push p i (y ∷ xs) x = by_test (λ t. cond t (Some i) (position_from p (i + 1) (xs ++ x ∷ [])))
    (λ t. option_or (cond t (Some i) (position_from p (i + 1) xs)) (cond (p x) (Some (i + suc (length xs))) None))
    refl
    (from_push p (i + 1) xs x ∙ (let e : (i + 1) + length xs ≡ i + suc (length xs) = omega arith in ap (λ n. option_or (position_from p (i + 1) xs) (cond (p x) (Some n) None)) e))
    (p y)

pub position_push : {X : Type 0} (p : X → Bool) (xs : List X) (x : X) → position p (xs ++ x ∷ []) ≡ option_or (position p xs) (cond (p x) (Some (length xs)) None)
position_push p xs x = position_from-zero p (xs ++ x ∷ []) ∙ (from_push p 0 xs x ∙ (let e : 0 + length xs ≡ length xs = omega arith in
    ap (λ n. option_or (position_from p 0 xs) (cond (p x) (Some n) None)) e ∙ ap (λ o. option_or o (cond (p x) (Some (length xs)) None)) (sym (position_from-zero p xs))))

from_some : {X : Type 0} (p : X → Bool) (i : ℕ) (xs : List X) → is_some (position_from p i xs) ≡ list_any p xs
from_some p i [] = refl
from_some p i (x ∷ xs) = by_test (λ t. is_some (cond t (Some i) (position_from p (i + 1) xs))) (λ t. t || list_any p xs) refl (from_some p (i + 1) xs) (p x)

pub is_some-position : {X : Type 0} (p : X → Bool) (xs : List X) → is_some (position p xs) ≡ list_any p xs
is_some-position p xs = ap is_some (position_from-zero p xs) ∙ from_some p 0 xs

some_found : {X : Type 0} (p : X → Bool) (xs : List X) → is_some (find p xs) ≡ list_any p xs
some_found p [] = refl
some_found p (x ∷ xs) = by_test (λ t. is_some (cond t (Some x) (find p xs))) (λ t. t || list_any p xs) refl (some_found p xs) (p x)

-- There is a class with the id exactly if it has an index.
pub is_some-find : {X : Type 0} (p : X → Bool) (xs : List X) → is_some (find p xs) ≡ is_some (position p xs)
is_some-find p xs = some_found p xs ∙ sym (is_some-position p xs)

-- The class with an id is at its index.
pub find-position : {X : Type 0} (p : X → Bool) (xs : List X) (i : ℕ) → position p xs ≡ Some i → find p xs ≡ slice_get xs i
find-position p xs i e = find_at p xs ∙ ap (slice_get xs) (cond_some (nat_lt (position_or_len p xs) (length xs)) (position_or_len p xs) i e).1

-- And within the list.
pub index_within : (k : Classes) (id p : ℕ) → class_index k id ≡ Some p → p < length k
index_within [] id p e = cc
index_within (c ∷ k) id p e = (position-Some (λ (d : Class). d.id == id) (c ∷ k) p c e).0

pub holds : (k : Classes) (id p : ℕ) → class_index k id ≡ Some p → find_class k id ≡ slice_get k p
holds k id p e = find-position (λ (c : Class). c.id == id) k p e
