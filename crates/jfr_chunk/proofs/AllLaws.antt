-- What holds of each member of a list.
use Rattle.std.specs.Prelude.{◌≡◌, ℕ, zero, suc, Bool, true, false, List, [], ◌∷◌, ◌++◌, reverse, filter, slice_get, Option, Some, None, cond}
use Rattle.std.specs.List.{AllByRecursion, filter_map, cons_option}
use Rattle.std.proofs.Common.{ap, refl, sym, subst, inl, inr}
use Rattle.std.proofs.lemmas.List.{reverse-append}
use Rattle.jfr_worklist.specs.Members.{In}

pub all_get : {X : Type 0} (P : X → Type 0) (xs : List X) (i : ℕ) (x : X) → AllByRecursion P xs → slice_get xs i ≡ Some x → P x
all_get P [] i x a e = cc
all_get P (y ∷ ys) zero x a e = let h : y ≡ x = cc in subst P h a.0
all_get P (y ∷ ys) (suc i) x a e = all_get P ys i x a.1 e

pub all_append : {X : Type 0} (P : X → Type 0) (xs ys : List X) → AllByRecursion P xs → AllByRecursion P ys → AllByRecursion P (xs ++ ys)
all_append P [] ys a b = b
all_append P (x ∷ xs) ys a b = (a.0, all_append P xs ys a.1 b)

pub all_reverse : {X : Type 0} (P : X → Type 0) (xs : List X) → AllByRecursion P xs → AllByRecursion P (reverse xs)
all_reverse P [] a = tt
all_reverse P (x ∷ xs) a = subst (AllByRecursion P) (sym (reverse-append (x ∷ []) xs)) (all_append P (reverse xs) (x ∷ []) (all_reverse P xs a.1) (a.0, tt))

pub all_in : {X : Type 0} (P : X → Type 0) (xs : List X) (x : X) → AllByRecursion P xs → In xs x → P x
all_in P [] x a i = absurd i
all_in P (y ∷ ys) x a (inl e) = subst P e a.0
all_in P (y ∷ ys) x a (inr i) = all_in P ys x a.1 i

pub in_filter : {X : Type 0} (test : X → Bool) (xs : List X) (x : X) → In (filter test xs) x → In xs x
in_filter test [] x i = absurd i
in_filter {X = X} test (y ∷ ys) x i = by_test (test y) i (λ j. in_filter test ys x j)
  where
    by_test : (b : Bool) → In (cond b (y ∷ filter test ys) (filter test ys)) x → (In (filter test ys) x → In ys x) → In (y ∷ ys) x
    by_test true (inl e) f = inl e
    by_test true (inr j) f = inr (f j)
    by_test false j f = inr (f j)

pub in_filter_map : {X Y : Type 0} (h : X → Option Y) (xs : List X) (y : Y) → In (filter_map h xs) y → (x : X) × In xs x × (h x ≡ Some y)
in_filter_map h [] y i = absurd i
in_filter_map {X = X} {Y = Y} h (x ∷ xs) y i = by_value (h x) refl i (λ j. in_filter_map h xs y j)
  where
    by_value : (o : Option Y) → h x ≡ o → In (cons_option o (filter_map h xs)) y → (In (filter_map h xs) y → (x : X) × In xs x × (h x ≡ Some y)) → (z : X) × In (x ∷ xs) z × (h z ≡ Some y)
    by_value None q j f = let r = f j in (r.0, inr r.1, r.2)
    by_value (Some z) q (inl e) f = (x, inl refl, (let k : Some z ≡ Some y = ap (λ u. Some u) e in cc))
    by_value (Some z) q (inr j) f = let r = f j in (r.0, inr r.1, r.2)

pub filter_all : {X : Type 0} (P : X → Type 0) (test : X → Bool) (xs : List X) → AllByRecursion P xs → AllByRecursion P (filter test xs)
filter_all P test [] a = tt
filter_all {X = X} P test (x ∷ xs) a = by_test (test x) (filter_all P test xs a.1)
  where
    by_test : (b : Bool) → AllByRecursion P (filter test xs) → AllByRecursion P (cond b (x ∷ filter test xs) (filter test xs))
    by_test true h = (a.0, h)
    by_test false h = h
