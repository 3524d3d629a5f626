-- Lists whose members correspond one to one.
use Rattle.std.specs.Prelude.{◌≡◌, suc, List, [], ◌∷◌, length}
use Rattle.std.proofs.Common.{ap, refl, subst, inl, inr}
use Rattle.jfr_worklist.specs.Members.{In}
use Rattle.jfr_rewrite.specs.Rewritten.{OneToOne}

-- What follows for each pair.
pub each_to : {A B : Type 0} {R S : A → B → Type 0} → (xs : List A) (ys : List B) → ((a : A) (b : B) → In xs a → In ys b → R a b → S a b) → OneToOne R xs ys → OneToOne S xs ys
each_to [] [] f c = tt
each_to [] (y ∷ ys) f c = absurd c
each_to (x ∷ xs) [] f c = absurd c
each_to (x ∷ xs) (y ∷ ys) f c = (f x y (inl refl) (inl refl) c.0, each_to xs ys (λ a b i j. f a b (inr i) (inr j)) c.1)

-- What is beside a member of one list.
pub second : {A B : Type 0} (R : A → B → Type 0) (xs : List A) (ys : List B) → OneToOne R xs ys → (a : A) → In xs a → (b : B) × In ys b × R a b
second R [] ys c a i = absurd i
second R (x ∷ xs) [] c a i = absurd c
second R (x ∷ xs) (y ∷ ys) c a (inl h) = (y, inl refl, subst (λ z. R z y) h c.0)
second R (x ∷ xs) (y ∷ ys) c a (inr i) = let r = second R xs ys c.1 a i in (r.0, inr r.1, r.2)

pub first : {A B : Type 0} (R : A → B → Type 0) (xs : List A) (ys : List B) → OneToOne R xs ys → (b : B) → In ys b → (a : A) × In xs a × R a b
first R [] [] c b i = absurd i
first R [] (y ∷ ys) c b i = absurd c
first R (x ∷ xs) [] c b i = absurd c
first R (x ∷ xs) (y ∷ ys) c b (inl h) = (x, inl refl, subst (λ z. R x z) h c.0)
first R (x ∷ xs) (y ∷ ys) c b (inr i) = let r = first R xs ys c.1 b i in (r.0, inr r.1, r.2)

pub same_count : {A B : Type 0} (R : A → B → Type 0) (xs : List A) (ys : List B) → OneToOne R xs ys → length xs ≡ length ys
same_count R [] [] c = refl
same_count R [] (y ∷ ys) c = absurd c
same_count R (x ∷ xs) [] c = absurd c
same_count R (x ∷ xs) (y ∷ ys) c = ap suc (same_count R xs ys c.1)
