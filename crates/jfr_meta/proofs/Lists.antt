-- Members of lists, and two lists whose members are related one by one.
use Rattle.std.specs.Prelude.{◌≡◌, suc, Bool, true, false, not, ◌||◌, List, [], ◌∷◌, ◌++◌, length, map, filter, find, Option, Some, None, ◌⊎◌, ⊤, if◌then◌else◌}
use Rattle.std.specs.List.{AllZip, AllByRecursion, filter_map, cons_option, flat_map}
use Rattle.std.proofs.Common.{ap, refl, sym, ◌∙◌, subst, inl, inr}
use Rattle.jfr_worklist.specs.Members.{In}

pub in_map : {A B : Type 0} (f : A → B) (xs : List A) (x : A) → In xs x → In (map f xs) (f x)
in_map f [] x i = absurd i
in_map f (y ∷ xs) x (inl e) = inl (ap f e)
in_map f (y ∷ xs) x (inr i) = inr (in_map f xs x i)

pub in_filter : {A : Type 0} (p : A → Bool) (xs : List A) (x : A) → In (filter p xs) x → In xs x × (p x ≡ true)
in_filter p [] x i = absurd i
in_filter p (y ∷ xs) x i = by_test (p y) refl i (in_filter p xs x)
  where
    by_test : (t : Bool) → p y ≡ t → In (if t then y ∷ filter p xs else filter p xs) x → (In (filter p xs) x → In xs x × (p x ≡ true)) → In (y ∷ xs) x × (p x ≡ true)
    by_test true q (inl e) f = (inl e, subst (λ z. p z ≡ true) e q)
    by_test true q (inr i) f = let r = f i in (inr r.0, r.1)
    by_test false q i f = let r = f i in (inr r.0, r.1)

pub filter_in : {A : Type 0} (p : A → Bool) (xs : List A) (x : A) → In xs x → p x ≡ true → In (filter p xs) x
filter_in p [] x i e = absurd i
filter_in p (y ∷ xs) x i e = by_test (p y) refl i (λ i. filter_in p xs x i e)
  where
    by_test : (t : Bool) → p y ≡ t → (y ≡ x) ⊎ In xs x → (In xs x → In (filter p xs) x) → In (if t then y ∷ filter p xs else filter p xs) x
    by_test true q (inl h) f = inl h
    by_test true q (inr i) f = inr (f i)
    by_test false q (inl h) f = let z : true ≡ false = sym e ∙ (ap p (sym h) ∙ q) in cc
    by_test false q (inr i) f = f i

pub all_members : {X : Type 0} (P : X → Type 0) (xs : List X) → ((x : X) → In xs x → P x) → AllByRecursion P xs
all_members P [] f = tt
all_members P (x ∷ xs) f = (f x (inl refl), all_members P xs (λ y i. f y (inr i)))

pub all_in : {X : Type 0} (P : X → Type 0) (xs : List X) (x : X) → AllByRecursion P xs → In xs x → P x
all_in P [] x a i = absurd i
all_in P (y ∷ xs) x a (inl e) = subst P e a.0
all_in P (y ∷ xs) x a (inr i) = all_in P xs x a.1 i

-- Two lists whose members are related one by one.
pub filter_zip : {A B : Type 0} (R : A → B → Type 0) (p : A → Bool) (q : B → Bool) → ((a : A) (b : B) → R a b → p a ≡ q b) → (xs : List A) (ys : List B) → AllZip R xs ys
    → AllZip R (filter p xs) (filter q ys)
filter_zip R p q s [] [] z = tt
filter_zip R p q s [] (y ∷ ys) z = absurd z
filter_zip R p q s (x ∷ xs) [] z = absurd z
filter_zip R p q s (x ∷ xs) (y ∷ ys) z = by_test (p x) (q y) (s x y z.0) (filter_zip R p q s xs ys z.1)
  where
    by_test : (t u : Bool) → t ≡ u → AllZip R (filter p xs) (filter q ys) → AllZip R (if t then x ∷ filter p xs else filter p xs) (if u then y ∷ filter q ys else filter q ys)
    by_test true true e r = (z.0, r)
    by_test false false e r = r
    by_test true false e r = cc
    by_test false true e r = cc

-- Both are there, and related, or neither is.
abbrev pub Beside : {A B : Type 0} → (A → B → Type 0) → Option A → Option B → Type 0
Beside R None None = ⊤
Beside R None (Some b) = ⊥
Beside R (Some a) None = ⊥
Beside R (Some a) (Some b) = R a b

pub find_zip : {A B : Type 0} (R : A → B → Type 0) (p : A → Bool) (q : B → Bool) → ((a : A) (b : B) → R a b → p a ≡ q b) → (xs : List A) (ys : List B) → AllZip R xs ys
    → Beside R (find p xs) (find q ys)
find_zip R p q s [] [] z = tt
find_zip R p q s [] (y ∷ ys) z = absurd z
find_zip R p q s (x ∷ xs) [] z = absurd z
find_zip R p q s (x ∷ xs) (y ∷ ys) z = by_test (p x) (q y) (s x y z.0) (find_zip R p q s xs ys z.1)
  where
    by_test : (t u : Bool) → t ≡ u → Beside R (find p xs) (find q ys) → Beside R (if t then Some x else find p xs) (if u then Some y else find q ys)
    by_test true true e r = z.0
    by_test false false e r = r
    by_test true false e r = cc
    by_test false true e r = cc

pub filter_map_zip : {A B C : Type 0} (R : A → B → Type 0) (f : A → Option C) (g : B → Option C) → ((a : A) (b : B) → R a b → f a ≡ g b) → (xs : List A) (ys : List B) → AllZip R xs ys
    → filter_map f xs ≡ filter_map g ys
filter_map_zip R f g s [] [] z = refl
filter_map_zip R f g s [] (y ∷ ys) z = absurd z
filter_map_zip R f g s (x ∷ xs) [] z = absurd z
filter_map_zip R f g s (x ∷ xs) (y ∷ ys) z = ap (λ o. cons_option o (filter_map f xs)) (s x y z.0) ∙ ap (cons_option (g y)) (filter_map_zip R f g s xs ys z.1)

pub flat_map_none : {A B C : Type 0} (R : A → B → Type 0) (f : A → List C) (g : B → List C) → ((a : A) (b : B) → R a b → f a ≡ [] → g b ≡ []) → (xs : List A) (ys : List B) → AllZip R xs ys
    → AllByRecursion (λ a. f a ≡ []) xs → flat_map g ys ≡ []
flat_map_none R f g s [] [] z e = refl
flat_map_none R f g s [] (y ∷ ys) z e = absurd z
flat_map_none R f g s (x ∷ xs) [] z e = absurd z
flat_map_none R f g s (x ∷ xs) (y ∷ ys) z e = ap (λ w. w ++ flat_map g ys) (s x y z.0 e.0) ∙ flat_map_none R f g s xs ys z.1 e.1

-- Where nothing is made of all, nothing is made of each.
pub nothing_each : {A C : Type 0} (f : A → List C) (xs : List A) → flat_map f xs ≡ [] → AllByRecursion (λ a. f a ≡ []) xs
nothing_each f [] e = tt
nothing_each {C = C} f (x ∷ xs) e = by_parts (f x) refl e (nothing_each f xs)
  where
    by_parts : (w : List C) → f x ≡ w → w ++ flat_map f xs ≡ [] → (flat_map f xs ≡ [] → AllByRecursion (λ a. f a ≡ []) xs) → (f x ≡ []) × AllByRecursion (λ a. f a ≡ []) xs
    by_parts [] q e k = (q, k e)
    by_parts (c ∷ w) q e k = cc

pub zip_length : {A B : Type 0} (R : A → B → Type 0) (xs : List A) (ys : List B) → AllZip R xs ys → length xs ≡ length ys
zip_length R [] [] z = refl
zip_length R [] (y ∷ ys) z = absurd z
zip_length R (x ∷ xs) [] z = absurd z
zip_length R (x ∷ xs) (y ∷ ys) z = ap (λ n. suc n) (zip_length R xs ys z.1)

-- Two filters, one after the other.
pub filter_both : {A : Type 0} (p q : A → Bool) (xs : List A) → filter p (filter (λ x. not (p x) || q x) xs) ≡ filter q (filter p xs)
filter_both p q [] = refl
filter_both p q (x ∷ xs) = by_tests (p x) refl (q x) refl (filter_both p q xs)
  where
    by_tests : (t : Bool) → p x ≡ t → (u : Bool) → q x ≡ u → filter p (filter (λ x. not (p x) || q x) xs) ≡ filter q (filter p xs)
        → filter p (if not t || u then x ∷ filter (λ x. not (p x) || q x) xs else filter (λ x. not (p x) || q x) xs) ≡ filter q (if t then x ∷ filter p xs else filter p xs)
    by_tests true e true f h =
        ap (λ b. if b then x ∷ filter p (filter (λ x. not (p x) || q x) xs) else filter p (filter (λ x. not (p x) || q x) xs)) e
        ∙ (ap (λ z. x ∷ z) h ∙ ap (λ b. if b then x ∷ filter q (filter p xs) else filter q (filter p xs)) (sym f))
    by_tests true e false f h = h ∙ ap (λ b. if b then x ∷ filter q (filter p xs) else filter q (filter p xs)) (sym f)
    by_tests false e u f h = ap (λ b. if b then x ∷ filter p (filter (λ x. not (p x) || q x) xs) else filter p (filter (λ x. not (p x) || q x) xs)) e ∙ h

-- Filtering before a map is filtering after it, if the tests agree.
pub filter_map_filter : {A B : Type 0} (f : A → Option B) (p : A → Bool) (q : B → Bool) (xs : List A) → AllByRecursion (λ x. (y : B) × (f x ≡ Some y) × (p x ≡ q y)) xs
    → filter_map f (filter p xs) ≡ filter q (filter_map f xs)
filter_map_filter f p q [] a = refl
filter_map_filter {B = B} f p q (x ∷ xs) a = by_test (p x) refl (filter_map_filter f p q xs a.1)
  where
    y : B
    y = a.0.0

    by_test : (t : Bool) → p x ≡ t → filter_map f (filter p xs) ≡ filter q (filter_map f xs)
        → filter_map f (if t then x ∷ filter p xs else filter p xs) ≡ filter q (cons_option (f x) (filter_map f xs))
    by_test true e h =
        ap (λ o. cons_option o (filter_map f (filter p xs))) a.0.1
        ∙ (ap (λ z. y ∷ z) h
        ∙ (ap (λ b. if b then y ∷ filter q (filter_map f xs) else filter q (filter_map f xs)) (sym e ∙ a.0.2)
        ∙ ap (λ o. filter q (cons_option o (filter_map f xs))) (sym a.0.1)))
    by_test false e h =
        h
        ∙ (ap (λ b. if b then y ∷ filter q (filter_map f xs) else filter q (filter_map f xs)) (sym e ∙ a.0.2)
        ∙ ap (λ o. filter q (cons_option o (filter_map f xs))) (sym a.0.1))

pub same_filter_map : {A B : Type 0} (f g : A → Option B) (xs : List A) → AllByRecursion (λ x. f x ≡ g x) xs → filter_map f xs ≡ filter_map g xs
same_filter_map f g [] a = refl
same_filter_map f g (x ∷ xs) a = ap (λ o. cons_option o (filter_map f xs)) a.0 ∙ ap (cons_option (g x)) (same_filter_map f g xs a.1)

pub same_find : {A : Type 0} (p q : A → Bool) (xs : List A) → AllByRecursion (λ x. p x ≡ q x) xs → find p xs ≡ find q xs
same_find p q [] a = refl
same_find p q (x ∷ xs) a = ap (λ b. if b then Some x else find p xs) a.0 ∙ ap (λ o. if q x then Some x else o) (same_find p q xs a.1)

pub all_filter : {A : Type 0} (P : A → Type 0) (p : A → Bool) (xs : List A) → AllByRecursion P xs → AllByRecursion P (filter p xs)
all_filter P p [] a = tt
all_filter P p (x ∷ xs) a = by_test (p x) (all_filter P p xs a.1)
  where
    by_test : (t : Bool) → AllByRecursion P (filter p xs) → AllByRecursion P (if t then x ∷ filter p xs else filter p xs)
    by_test true r = (a.0, r)
    by_test false r = r
