-- Members of lists, and the values that a function has at them.
use Rattle.std.specs.Prelude.{◌≡◌, ℕ, zero, suc, List, [], ◌∷◌, ◌++◌, Bool, true, false, Contains, find, slice_get, if◌then◌else◌, Option, Some, None, ◌⊎◌}
use Rattle.std.specs.List.{AllByRecursion, filter_map, cons_option}
use Rattle.std.proofs.Common.{ap, arith, refl, subst, sym, ◌∙◌, inl, inr}
use Rattle.jfr_worklist.specs.Members.{In}
use Rattle.jfr_worklist.specs.Marks.{add, those}

pub contains_in : {X : Type 0} (xs : List X) (x : X) → Contains xs x → In xs x
contains_in [] x (k, l, e) = absurd (omega (arith, l))
contains_in (y ∷ ys) x (zero, l, e) = inl e
contains_in (y ∷ ys) x (suc k, l, e) = inr (contains_in ys x (k, omega (arith, l), e))

pub in_contains : {X : Type 0} (xs : List X) (x : X) → In xs x → Contains xs x
in_contains [] x i = absurd i
in_contains (y ∷ ys) x (inl e) = (0, omega arith, e)
in_contains (y ∷ ys) x (inr i) = let r = in_contains ys x i in (suc r.0, omega (arith, r.1), r.2)

pub get_in : {A : Type 0} (xs : List A) (i : ℕ) (x : A) → slice_get xs i ≡ Some x → In xs x
get_in [] i x e = cc
get_in (y ∷ ys) zero x e = inl (let h : Some y ≡ Some x = e in cc)
get_in (y ∷ ys) (suc i) x e = inr (get_in ys i x e)

pub in_left : {X : Type 0} (xs ys : List X) (x : X) → In xs x → In (xs ++ ys) x
in_left [] ys x i = absurd i
in_left (z ∷ xs) ys x (inl e) = inl e
in_left (z ∷ xs) ys x (inr i) = inr (in_left xs ys x i)

pub in_right : {X : Type 0} (xs ys : List X) (x : X) → In ys x → In (xs ++ ys) x
in_right [] ys x i = i
in_right (z ∷ xs) ys x i = inr (in_right xs ys x i)

pub in_cases : {X : Type 0} (xs ys : List X) (x : X) → In (xs ++ ys) x → In xs x ⊎ In ys x
in_cases [] ys x i = inr i
in_cases (z ∷ xs) ys x (inl e) = inl (inl e)
in_cases (z ∷ xs) ys x (inr i) = by_case (in_cases xs ys x i)
  where
    by_case : In xs x ⊎ In ys x → In (z ∷ xs) x ⊎ In ys x
    by_case (inl j) = inl (inr j)
    by_case (inr j) = inr j

pub those_in : {A B : Type 0} (f : A → Option B) (xs : List A) (x : A) (y : B) → In xs x → f x ≡ Some y → In (those f xs) y
those_in f [] x y i e = absurd i
those_in {B = B} f (z ∷ xs) x y i e = by_value (f z) refl i (λ j. those_in f xs x y j e)
  where
    by_value : (o : Option B) → f z ≡ o → (z ≡ x) ⊎ In xs x → (In xs x → In (those f xs) y) → In (add o (those f xs)) y
    by_value None q (inl h) k = cc (ap f h)
    by_value (Some w) q (inl h) k = inl (cc (ap f h))
    by_value None q (inr j) k = k j
    by_value (Some w) q (inr j) k = inr (k j)

pub in_those : {A B : Type 0} (f : A → Option B) (xs : List A) (y : B) → In (those f xs) y → (x : A) × In xs x × (f x ≡ Some y)
in_those f [] y i = absurd i
in_those {A = A} {B = B} f (z ∷ xs) y i = by_value (f z) refl i (λ j. in_those f xs y j)
  where
    by_value : (o : Option B) → f z ≡ o → In (add o (those f xs)) y → (In (those f xs) y → (x : A) × In xs x × (f x ≡ Some y)) → (x : A) × In (z ∷ xs) x × (f x ≡ Some y)
    by_value None q j k = let r = k j in (r.0, inr r.1, r.2)
    by_value (Some w) q (inl h) k = (z, inl refl, q ∙ ap (λ u. Some u) h)
    by_value (Some w) q (inr j) k = let r = k j in (r.0, inr r.1, r.2)

-- The values for two lists, one after another.
pub those_append : {A B : Type 0} (f : A → Option B) (xs ys : List A) → those f (xs ++ ys) ≡ those f xs ++ those f ys
those_append f [] ys = refl
those_append {B = B} f (x ∷ xs) ys = by_value (f x) (those_append f xs ys)
  where
    by_value : (o : Option B) → those f (xs ++ ys) ≡ those f xs ++ those f ys → add o (those f (xs ++ ys)) ≡ add o (those f xs) ++ those f ys
    by_value None e = e
    by_value (Some y) e = ap (λ z. y ∷ z) e

-- They are those that `filter_map` gives.
those_are : {A B : Type 0} (f : A → Option B) (xs : List A) → those f xs ≡ filter_map f xs
those_are f [] = refl
those_are {B = B} f (x ∷ xs) = by_value (f x) (those_are f xs)
  where
    by_value : (o : Option B) → those f xs ≡ filter_map f xs → add o (those f xs) ≡ cons_option o (filter_map f xs)
    by_value None e = e
    by_value (Some y) e = ap (λ z. y ∷ z) e

-- The value at a member is in the list of values.
pub filter_map_in : {A B : Type 0} (f : A → Option B) (xs : List A) (x : A) (y : B) → In xs x → f x ≡ Some y → In (filter_map f xs) y
filter_map_in f xs x y i e = subst (λ z. In z y) (those_are f xs) (those_in f xs x y i e)

-- Each value is that at a member.
pub in_filter_map : {A B : Type 0} (f : A → Option B) (xs : List A) (y : B) → In (filter_map f xs) y → (x : A) × In xs x × (f x ≡ Some y)
in_filter_map f xs y i = in_those f xs y (subst (λ z. In z y) (sym (those_are f xs)) i)

-- What is found is in the list.
pub found_get : {X : Type 0} (t : X → Bool) (xs : List X) (x : X) → find t xs ≡ Some x → (i : ℕ) × (slice_get xs i ≡ Some x)
found_get t [] x e = cc
found_get {X = X} t (y ∷ ys) x e = by_test (t y) e (found_get t ys x)
  where
    by_test : (b : Bool) → (if b then Some y else find t ys) ≡ Some x → (find t ys ≡ Some x → (i : ℕ) × (slice_get ys i ≡ Some x)) → (i : ℕ) × (slice_get (y ∷ ys) i ≡ Some x)
    by_test true e f = (0, e)
    by_test false e f = let r = f e in (suc r.0, r.1)

-- What holds at each index holds of all.
pub all_from_get : {X : Type 0} (P : X → Type 0) (xs : List X) → ((i : ℕ) (x : X) → slice_get xs i ≡ Some x → P x) → AllByRecursion P xs
all_from_get P [] f = tt
all_from_get P (x ∷ xs) f = (f 0 x refl, all_from_get P xs (λ i y e. f (suc i) y e))
