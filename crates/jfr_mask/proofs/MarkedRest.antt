-- The marked members of a list, from a place on.
use Rattle.std.specs.Prelude.{◌≡◌, ℕ, zero, suc, ◌+◌, ◌<◌, Bool, true, false, List, [], ◌∷◌, ◌++◌, drop, get_or, length, None, Some, option_to_list, slice_get, unwrap_or, if◌then◌else◌}
use Rattle.std.proofs.Common.{ap, append_assoc, arith, refl, sym, ◌∙◌}
use Rattle.jfr_chunk.specs.Reach.{marked}
use Rattle.jfr_mask.specs.Reaching.{marked_get}

-- A mark, which is false past the end.
pub mark_at : (flags : List Bool) (i : ℕ) → get_or flags i false ≡ unwrap_or (slice_get flags i) false
mark_at [] i = refl
mark_at (b ∷ flags) zero = refl
mark_at (b ∷ flags) (suc i) = mark_at flags i

-- The member with a number, by its mark.
pub get_unmarked : {X : Type 0} (flags : List Bool) (xs : List X) (i : ℕ) → unwrap_or (slice_get flags i) false ≡ false → marked_get flags xs i ≡ None
get_unmarked flags xs i m = ap (λ b. if b then slice_get xs i else None) m

pub get_marked : {X : Type 0} (flags : List Bool) (xs : List X) (i : ℕ) (x : X) → unwrap_or (slice_get flags i) false ≡ true → slice_get xs i ≡ Some x → marked_get flags xs i ≡ Some x
get_marked flags xs i x m e = ap (λ b. if b then slice_get xs i else None) m ∙ e

none_in : {X : Type 0} (flags : List Bool) → marked {X = X} flags [] ≡ []
none_in [] = refl
none_in (b ∷ flags) = refl

none_at : {X : Type 0} (i : ℕ) (b : Bool) → (if b then slice_get {X = X} [] i else None) ≡ None
none_at i true = refl
none_at i false = refl

marked_suc : {X : Type 0} (flags : List Bool) (xs : List X) (i : ℕ) → i < length flags
    → marked (drop i flags) (drop i xs) ≡ option_to_list (marked_get flags xs i) ++ marked (drop (suc i) flags) (drop (suc i) xs)
marked_suc [] xs i h = absurd (omega arith)
marked_suc (b ∷ flags) [] zero h = sym (ap (λ o. option_to_list o ++ marked flags []) (none_at 0 b) ∙ none_in flags)
marked_suc (true ∷ flags) (x ∷ xs) zero h = refl
marked_suc (false ∷ flags) (x ∷ xs) zero h = refl
marked_suc (b ∷ flags) [] (suc i) h =
    none_in (drop i flags) ∙ sym (ap (λ o. option_to_list o ++ marked (drop (suc i) flags) []) (none_at (suc i) (unwrap_or (slice_get flags i) false)) ∙ none_in (drop (suc i) flags))
marked_suc (b ∷ flags) (x ∷ xs) (suc i) h = marked_suc flags xs i (omega arith)

-- The next one, if it is marked, comes before the rest.
pub marked_next : {X : Type 0} (flags : List Bool) (xs : List X) (i : ℕ) → i < length flags
    → marked (drop i flags) (drop i xs) ≡ option_to_list (marked_get flags xs i) ++ marked (drop (i + 1) flags) (drop (i + 1) xs)
marked_next flags xs i h =
    let e : suc i ≡ i + 1 = omega arith in
    marked_suc flags xs i h ∙ ap (λ n. option_to_list (marked_get flags xs i) ++ marked (drop n flags) (drop n xs)) e

-- Those so far and the rest are all.
pub collected_next : {X : Type 0} (flags : List Bool) (xs got new : List X) (i : ℕ) → i < length flags → got ++ marked (drop i flags) (drop i xs) ≡ marked flags xs
    → new ≡ got ++ option_to_list (marked_get flags xs i) → new ++ marked (drop (i + 1) flags) (drop (i + 1) xs) ≡ marked flags xs
collected_next flags xs got new i h w e =
    ap (λ z. z ++ marked (drop (i + 1) flags) (drop (i + 1) xs)) e
    ∙ (append_assoc got (option_to_list (marked_get flags xs i)) (marked (drop (i + 1) flags) (drop (i + 1) xs)) ∙ (ap (λ z. got ++ z) (sym (marked_next flags xs i h)) ∙ w))
