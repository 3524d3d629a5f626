-- Lists, one member after another.
use Rattle.std.specs.Prelude.{◌≡◌, ℕ, zero, suc, ◌+◌, ◌<◌, List, [], ◌∷◌, ◌++◌, length, map, take, slice_get, slice_index_or, slice_set, Option, Some, IfSome}
use Rattle.std.specs.List.{AllZip}
use Rattle.std.proofs.Common.{ap, sym, ◌∙◌, subst}
use Rattle.std.proofs.lemmas.List.{map-append, take_more, take_more_set}
use Rattle.std.proofs.lemmas.Option.{slice_get_within, get_or_from_slice_get}
use Rattle.jfr_layout.proofs.Lists.{zip_push}

take_next : {X : Type 0} (xs : List X) (i : ℕ) (x : X) → slice_get xs i ≡ Some x → take (i + 1) xs ≡ take i xs ++ x ∷ []
take_next xs i x g = take_more xs i x (slice_get_within xs i x g) ∙ ap (λ z. take i xs ++ z ∷ []) (get_or_from_slice_get xs i x x g)

-- A list whose members are set one after another to those of another list.
pub set_next : {X : Type 0} (xs ys : List X) (i : ℕ) (y : X) → i < length xs → slice_get ys i ≡ Some y → take i xs ≡ take i ys → take (i + 1) (slice_set xs i y) ≡ take (i + 1) ys
set_next xs ys i y l g e = take_more_set xs i y l ∙ (ap (λ z. z ++ y ∷ []) e ∙ sym (take_next ys i y g))

-- A list of what a function gives, one member more.
pub map_next : {X Y : Type 0} (f : X → Y) (xs : List X) (i : ℕ) (x : X) → slice_get xs i ≡ Some x → map f (take (i + 1) xs) ≡ map f (take i xs) ++ f x ∷ []
map_next f xs i x g = ap (map f) (take_next xs i x g) ∙ map-append f (take i xs) (x ∷ [])

-- A list that is made of one for each member of another.
pub zip_next : {X Y : Type 0} (R : X → Y → Type 0) (xs : List X) (ys : List Y) (i : ℕ) (x : X) (y : Y) → slice_get xs i ≡ Some x → AllZip R (take i xs) ys → R x y
    → AllZip R (take (i + 1) xs) (ys ++ y ∷ [])
zip_next R xs ys i x y g a r = subst (λ z. AllZip R z (ys ++ y ∷ [])) (sym (take_next xs i x g)) (zip_push R (take i xs) ys x y a r)

-- The one for a member.
pub zip_at : {X Y : Type 0} (R : X → Y → Type 0) (xs : List X) (ys : List Y) (i : ℕ) (d : Y) (o : Option X) → AllZip R xs ys → slice_get xs i ≡ o → IfSome o (λ x. R x (slice_index_or ys i d))
zip_at R [] ys i d o a e = subst (λ z. IfSome z (λ x. R x (slice_index_or ys i d))) e tt
zip_at R (x ∷ xs) [] i d o a e = absurd a
zip_at R (x ∷ xs) (y ∷ ys) zero d o a e = subst (λ z. IfSome z (λ x. R x y)) e a.0
zip_at R (x ∷ xs) (y ∷ ys) (suc i) d o a e = zip_at R xs ys i d o a.1 e
