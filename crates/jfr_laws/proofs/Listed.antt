-- Members of lists that a function makes, or that pass a test.
use Rattle.std.specs.Prelude.{◌≡◌, Bool, true, false, ◌||◌, List, [], ◌∷◌, map, filter, if◌then◌else◌}
use Rattle.std.specs.List.{AllByRecursion, list_any}
use Rattle.std.proofs.Common.{ap, refl, ◌∙◌, subst, inl, inr}
use Rattle.jfr_worklist.specs.Members.{In}

-- What holds of every member holds of all.
pub all_each : {X : Type 0} (P : X → Type 0) (xs : List X) → ((x : X) → In xs x → P x) → AllByRecursion P xs
all_each P [] f = tt
all_each P (x ∷ xs) f = (f x (inl refl), all_each P xs (λ y i. f y (inr i)))

-- Where a member passes, one of all does, and back.
pub in_any : {X : Type 0} (test : X → Bool) (xs : List X) (x : X) → In xs x → test x ≡ true → list_any test xs ≡ true
in_any test [] x i t = absurd i
in_any test (y ∷ ys) x (inl e) t = let h : test y ≡ true = ap test e ∙ t in rw h refl
in_any test (y ∷ ys) x (inr i) t = by_test (test y) (in_any test ys x i t)
  where
    by_test : (b : Bool) → list_any test ys ≡ true → (b || list_any test ys) ≡ true
    by_test true e = refl
    by_test false e = e

pub any_in : {X : Type 0} (test : X → Bool) (xs : List X) → list_any test xs ≡ true → (x : X) × In xs x × (test x ≡ true)
any_in test [] e = cc
any_in {X = X} test (y ∷ ys) e = by_test (test y) refl e (any_in test ys)
  where
    by_test : (b : Bool) → test y ≡ b → (b || list_any test ys) ≡ true → (list_any test ys ≡ true → (x : X) × In ys x × (test x ≡ true)) → (x : X) × In (y ∷ ys) x × (test x ≡ true)
    by_test true q e f = (y, inl refl, q)
    by_test false q e f = let r = f e in (r.0, inr r.1, r.2)

-- What a function makes of a member, and back.
pub in_map : {X Y : Type 0} (f : X → Y) (xs : List X) (x : X) → In xs x → In (map f xs) (f x)
in_map f [] x i = absurd i
in_map f (y ∷ ys) x (inl e) = inl (ap f e)
in_map f (y ∷ ys) x (inr i) = inr (in_map f ys x i)

pub map_in : {X Y : Type 0} (f : X → Y) (xs : List X) (y : Y) → In (map f xs) y → (x : X) × In xs x × (f x ≡ y)
map_in f [] y i = absurd i
map_in f (x ∷ xs) y (inl e) = (x, inl refl, e)
map_in f (x ∷ xs) y (inr i) = let r = map_in f xs y i in (r.0, inr r.1, r.2)

-- A member that passes is one of those that do, and each of those passes.
pub passes_in : {X : Type 0} (test : X → Bool) (xs : List X) (x : X) → In xs x → test x ≡ true → In (filter test xs) x
passes_in test [] x i t = absurd i
passes_in test (y ∷ ys) x (inl e) t = let h : test y ≡ true = ap test e ∙ t in rw h (inl e)
passes_in test (y ∷ ys) x (inr i) t = by_test (test y) (passes_in test ys x i t)
  where
    by_test : (b : Bool) → In (filter test ys) x → In (if b then y ∷ filter test ys else filter test ys) x
    by_test true j = inr j
    by_test false j = j

pub in_passes : {X : Type 0} (test : X → Bool) (xs : List X) (x : X) → In (filter test xs) x → test x ≡ true
in_passes test [] x i = absurd i
in_passes test (y ∷ ys) x i = by_test (test y) refl i (in_passes test ys x)
  where
    by_test : (b : Bool) → test y ≡ b → In (if b then y ∷ filter test ys else filter test ys) x → (In (filter test ys) x → test x ≡ true) → test x ≡ true
    by_test true q (inl e) f = subst (λ z. test z ≡ true) e q
    by_test true q (inr j) f = f j
    by_test false q j f = f j
