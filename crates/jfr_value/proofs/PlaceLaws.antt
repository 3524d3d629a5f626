-- The class at the index of an id is the class with this id.
use Rattle.std.specs.Prelude.{◌≡◌, ℕ, zero, suc, ◌+◌, ◌<◌, Bool, true, false, cond, List, [], ◌∷◌, length, Option, Some, None, IsSome, IfSome, find, position, unwrap_or, slice_get, ◌==◌}
use Rattle.std.specs.List.{position_from}
use Rattle.std.proofs.Common.{ap, arith, refl, sym, ◌∙◌, subst}
use Rattle.std.proofs.lemmas.Iterator.Adapters.{position_from-zero}
use Rattle.jfr_layout.specs.Classes.{Class, Classes, find_class, class_index, kind_of}
use Rattle.jfr_layout.specs.declared.kind.Kind.{Kind}

record FoundAt {X : Type 0} (p : X → Bool) (xs : List X) (n i : ℕ) : Type 0 where
  number : ℕ
  place : n ≡ i + number
  within : number < length xs
  found : find p xs ≡ slice_get xs number

found_from : {X : Type 0} (p : X → Bool) (i : ℕ) (xs : List X) (n : ℕ) → position_from p i xs ≡ Some n → FoundAt p xs n i
found_from p i [] n e = cc
found_from {X = X} p i (x ∷ xs) n e = by_test (p x) refl e (λ q. found_from p (i + 1) xs n q)
  where
    by_test : (t : Bool) → p x ≡ t → cond t (Some i) (position_from p (i + 1) xs) ≡ Some n → (position_from p (i + 1) xs ≡ Some n → FoundAt p xs n (i + 1)) → FoundAt p (x ∷ xs) n i
    by_test true q e r = let h : i ≡ n = cc in record { number = 0; place = omega arith; within = omega arith; found = ap (λ t. cond t (Some x) (find p xs)) q }
    by_test false q e r =
        let f = r e in
        record { number = suc f.number; place = omega (arith, f.place); within = omega (arith, f.within); found = ap (λ t. cond t (Some x) (find p xs)) q ∙ f.found }

found_at : {X : Type 0} (p : X → Bool) (xs : List X) (n : ℕ) → position p xs ≡ Some n → (n < length xs) × (find p xs ≡ slice_get xs n)
found_at p xs n e =
    let f = found_from p 0 xs n (sym (position_from-zero p xs) ∙ e) in
    let q : f.number ≡ n = omega (arith, f.place) in
    (omega (arith, f.within), subst (λ z. find p xs ≡ slice_get xs z) q f.found)

pub placed_within : (k : Classes) (id place : ℕ) → class_index k id ≡ Some place → place < length k
placed_within k id place e = (found_at (λ c. c.id == id) k place e).0

pub placed_class : (k : Classes) (id place : ℕ) → class_index k id ≡ Some place → find_class k id ≡ slice_get k place
placed_class k id place e = (found_at (λ c. c.id == id) k place e).1

-- The kind of the class at a place.
pub kind_there : (k : Classes) (place : ℕ) (c : Class) (kind : Kind) → IfSome (slice_get k place) (λ c. kind ≡ kind_of c.name) → slice_get k place ≡ Some c → kind ≡ kind_of c.name
kind_there k place c kind e q = subst (λ o. IfSome o (λ c. kind ≡ kind_of c.name)) q e

none_found : {X : Type 0} (p : X → Bool) (i : ℕ) (xs : List X) → position_from p i xs ≡ None → find p xs ≡ None
none_found p i [] e = refl
none_found {X = X} p i (x ∷ xs) e = by_test (p x) refl e (λ q. none_found p (i + 1) xs q)
  where
    by_test : (t : Bool) → p x ≡ t → cond t (Some i) (position_from p (i + 1) xs) ≡ None → (position_from p (i + 1) xs ≡ None → find p xs ≡ None) → cond (p x) (Some x) (find p xs) ≡ None
    by_test true q e r = cc
    by_test false q e r = ap (λ t. cond t (Some x) (find p xs)) q ∙ r e

-- A known class has a place.
pub known_placed : (k : Classes) (id : ℕ) → IsSome (find_class k id) → class_index k id ≡ None → ⊥
known_placed k id h e = let n : find_class k id ≡ None = none_found (λ c. c.id == id) 0 k (sym (position_from-zero (λ c. c.id == id) k) ∙ e) in let q : IsSome {T = Class} None =
    subst (λ o. IsSome o) n h in cc

pub get_within : {X : Type 0} (xs : List X) (i : ℕ) → i < length xs → (x : X) × (slice_get xs i ≡ Some x)
get_within [] i h = absurd (omega arith)
get_within (x ∷ xs) zero h = (x, refl)
get_within (x ∷ xs) (suc i) h = get_within xs i (omega arith)

-- There is a class with this index.
pub placed_some : (k : Classes) (id place : ℕ) → class_index k id ≡ Some place → (c : Class) × (slice_get k place ≡ Some c)
placed_some k id place e = get_within k place (placed_within k id place e)

-- The index of a known class, when another number is used for no index.
pub known_place : (k : Classes) (id place other : ℕ) (o : Option ℕ) → o ≡ class_index k id → place ≡ unwrap_or o other → IsSome (find_class k id) → class_index k id ≡ Some place
known_place k id place other None e u h = absurd (known_placed k id h (sym e))
known_place k id place other (Some p) e u h = sym e ∙ ap (λ z. Some z) (sym u)
