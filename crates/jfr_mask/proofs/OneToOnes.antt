-- Lists whose members correspond one to one, in order.
use Rattle.std.specs.Prelude.{◌≡◌, ℕ, suc, List, [], ◌∷◌, ◌++◌, map, length}
use Rattle.std.specs.List.{flat_map}
use Rattle.std.proofs.Common.{ap, refl, sym, ◌∙◌}
use Rattle.std.proofs.lemmas.List.{map-append}
use Rattle.jfr_rewrite.specs.Rewritten.{OneToOne}

pub flat_map_alike : {A B X : Type 0} (R : A → B → Type 0) (f : A → List X) (h : B → List X) → ((x : A) (y : B) → R x y → h y ≡ f x)
    → (xs : List A) (ys : List B) → OneToOne R xs ys → flat_map h ys ≡ flat_map f xs
flat_map_alike R f h one [] [] a = refl
flat_map_alike R f h one [] (y ∷ ys) a = absurd a
flat_map_alike R f h one (x ∷ xs) [] a = absurd a
flat_map_alike R f h one (x ∷ xs) (y ∷ ys) a = ap (λ z. z ++ flat_map h ys) (one x y a.0) ∙ ap (λ z. f x ++ z) (flat_map_alike R f h one xs ys a.1)

pub flat_map_mapped : {A B : Type 0} (R : A → B → Type 0) (g : List ℕ → List ℕ) (f : A → List (List ℕ)) (h : B → List (List ℕ)) → ((x : A) (y : B) → R x y → h y ≡ map g (f x))
    → (xs : List A) (ys : List B) → OneToOne R xs ys → flat_map h ys ≡ map g (flat_map f xs)
flat_map_mapped R g f h one [] [] a = refl
flat_map_mapped R g f h one [] (y ∷ ys) a = absurd a
flat_map_mapped R g f h one (x ∷ xs) [] a = absurd a
flat_map_mapped R g f h one (x ∷ xs) (y ∷ ys) a =
    ap (λ z. z ++ flat_map h ys) (one x y a.0) ∙ (ap (λ z. map g (f x) ++ z) (flat_map_mapped R g f h one xs ys a.1) ∙ sym (map-append g (f x) (flat_map f xs)))

pub same_length : {A B : Type 0} (R : A → B → Type 0) (xs : List A) (ys : List B) → OneToOne R xs ys → length ys ≡ length xs
same_length R [] [] a = refl
same_length R [] (y ∷ ys) a = absurd a
same_length R (x ∷ xs) [] a = absurd a
same_length R (x ∷ xs) (y ∷ ys) a = ap suc (same_length R xs ys a.1)
