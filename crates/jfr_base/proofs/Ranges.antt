-- Ranges of a list.
use Rattle.std.specs.Prelude.{◌≡◌, ℕ, suc, ◌+◌, ◌-◌, ◌<◌, ◌≤◌, List, [], ◌∷◌, ◌++◌, length, take, drop, slice_range, slice_index}
use Rattle.std.proofs.Common.{ap, arith, sym, ◌∙◌, add-one}
use Rattle.std.proofs.lemmas.List.{length-take, length-drop, drop-drop}
use Rattle.std.proofs.Math.Seq.{take-add, drop-cons}

pub range_split : {X : Type 0} (xs : List X) (p m q : ℕ) → p ≤ m → m ≤ q → slice_range xs p q ≡ slice_range xs p m ++ slice_range xs m q
range_split xs p m q h i =
    let e : q - p ≡ (m - p) + (q - m) = omega arith in
    let f : p + (m - p) ≡ m = omega arith in
    ap (λ n. take n (drop p xs)) e ∙ (take-add (m - p) (q - m) (drop p xs) ∙ ap (λ z. take (m - p) (drop p xs) ++ take (q - m) z) (drop-drop (m - p) p xs ∙ ap (λ n. drop n xs) f))

pub range_length : {X : Type 0} (xs : List X) (p q : ℕ) → q ≤ length xs → length (slice_range xs p q) ≡ q - p
range_length xs p q h = simp (length-take, length-drop) (omega arith)

-- A range begins with the byte at its place.
pub range_cons : (x : List ℕ) (p q : ℕ) → p < q → p < length x → slice_range x p q ≡ slice_index x p ∷ slice_range x (p + 1) q
range_cons x p q h i =
    let e : q - p ≡ suc (q - (p + 1)) = omega arith in
    let d : drop p x ≡ slice_index x p ∷ drop (suc p) x = drop-cons x p 0 i in
    let f : drop (suc p) x ≡ drop (p + 1) x = ap (λ n. drop n x) (sym (add-one p)) in
    ap (λ n. take n (drop p x)) e ∙ (ap (take (suc (q - (p + 1)))) d ∙ ap (λ z. slice_index x p ∷ take (q - (p + 1)) z) f)

pub range_none : (x : List ℕ) (p q : ℕ) → q ≤ p → slice_range x p q ≡ []
range_none x p q h =
    let e : q - p ≡ 0 = omega arith in
    ap (λ n. take n (drop p x)) e

pub range_one : (x : List ℕ) (p : ℕ) → p < length x → slice_range x p (p + 1) ≡ slice_index x p ∷ []
range_one x p h = range_cons x p (p + 1) (omega arith) h ∙ ap (λ z. slice_index x p ∷ z) (range_none x (p + 1) (p + 1) (omega arith))
