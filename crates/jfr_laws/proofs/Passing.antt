-- What holds of those members of a list that pass a test.
use Rattle.std.specs.Prelude.{◌≡◌, Bool, true, false, ◌&&◌, List, [], ◌∷◌, filter, if◌then◌else◌}
use Rattle.std.specs.List.{AllByRecursion}
use Rattle.std.proofs.Common.{ap, refl}

-- No test both passes and fails.
pub clash : (t : Bool) → t ≡ true → t ≡ false → ⊥
clash t h e = cc

-- The property holds if the member passes the test.
abbrev pub IfPasses : {X : Type 0} → (X → Bool) → (X → Type 0) → X → Type 0
IfPasses test P x = test x ≡ true → P x

pub if_passes : {X : Type 0} (P : X → Type 0) (test : X → Bool) (xs : List X) → AllByRecursion P (filter test xs) → AllByRecursion (IfPasses test P) xs
if_passes P test [] a = tt
if_passes {X = X} P test (x ∷ xs) a = by_test (test x) refl (if_passes P test xs) a
  where
    by_test : (t : Bool) → test x ≡ t → (AllByRecursion P (filter test xs) → AllByRecursion (IfPasses test P) xs) → AllByRecursion P (if t then x ∷ filter test xs else filter test xs)
        → IfPasses test P x × AllByRecursion (IfPasses test P) xs
    by_test true e f a = ((λ h. a.0), f a.1)
    by_test false e f a = ((λ h. absurd (clash (test x) h e)), f a)

pub passes_all : {X : Type 0} (P : X → Type 0) (test : X → Bool) (xs : List X) → AllByRecursion (IfPasses test P) xs → AllByRecursion P (filter test xs)
passes_all P test [] a = tt
passes_all P test (x ∷ xs) a = by_test (test x) refl (passes_all P test xs a.1)
  where
    by_test : (t : Bool) → test x ≡ t → AllByRecursion P (filter test xs) → AllByRecursion P (if t then x ∷ filter test xs else filter test xs)
    by_test true e i = (a.0 e, i)
    by_test false e i = i

-- Those that pass two tests.
pub filter_both : {X : Type 0} (q t : X → Bool) (xs : List X) → filter (λ x. q x && t x) xs ≡ filter t (filter q xs)
filter_both q t [] = refl
filter_both q t (x ∷ xs) = by_test (q x) (t x) refl (filter_both q t xs)
  where
    by_test : (u v : Bool) → t x ≡ v → filter (λ x. q x && t x) xs ≡ filter t (filter q xs)
        → (if u && v then x ∷ filter (λ x. q x && t x) xs else filter (λ x. q x && t x) xs) ≡ filter t (if u then x ∷ filter q xs else filter q xs)
    by_test true true e i = rw e (ap (λ z. x ∷ z) i)
    by_test true false e i = rw e i
    by_test false v e i = i
