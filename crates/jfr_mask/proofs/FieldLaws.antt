-- The full names of fields, and flags by their numbers.
use Rattle.std.specs.Prelude.{◌≡◌, ℕ, zero, suc, ◌+◌, ◌||◌, Bool, true, false, List, [], ◌∷◌, ◌++◌, map, take, get_or, slice_get, Some, IsUtf8}
use Rattle.std.specs.List.{list_any}
use Rattle.std.specs.Str.{chars}
use Rattle.std.proofs.Common.{ap, append_assoc, refl, ◌∙◌}
use Rattle.std.proofs.lemmas.List.Folds.{list_any-append}
use Rattle.std.proofs.lemmas.Str.{IsUtf8-append, chars-append}
use lib.Utf8.{encode}
use Rattle.jfr_layout.proofs.Lists.{take_next}

dot_utf8 : IsUtf8 (46 ∷ [])
unfolding encode
dot_utf8 = (46 ∷ [], (refl, refl))

-- The characters of two texts with a dot between them.
pub dot_joined : (a b : List ℕ) → IsUtf8 a → chars ((a ++ 46 ∷ []) ++ b) ≡ chars a ++ 46 ∷ chars b
unfolding chars
dot_joined a b u =
    chars-append (a ++ 46 ∷ []) b (IsUtf8-append a (46 ∷ []) u dot_utf8)
    ∙ (ap (λ z. z ++ chars b) (chars-append a (46 ∷ []) u) ∙ append_assoc (chars a) (46 ∷ []) (chars b))

pub flag_is : {X : Type 0} (f : X → Bool) (xs : List X) (i : ℕ) (x : X) → slice_get xs i ≡ Some x → get_or (map f xs) i false ≡ f x
flag_is f [] i x e = cc
flag_is f (y ∷ ys) zero x e = let h : y ≡ x = cc in ap f h
flag_is f (y ∷ ys) (suc i) x e = flag_is f ys i x e

-- Some item passes, after one more.
pub any_taken : {X : Type 0} (f : X → Bool) (xs : List X) (i : ℕ) (x : X) → slice_get xs i ≡ Some x → list_any f (take (i + 1) xs) ≡ (list_any f (take i xs) || f x)
any_taken f xs i x e = ap (list_any f) (take_next xs i x e) ∙ (list_any-append f (take i xs) (x ∷ []) ∙ ap (λ b. list_any f (take i xs) || b) (or_false (f x)))
  where
    or_false : (b : Bool) → (b || false) ≡ b
    or_false true = refl
    or_false false = refl
