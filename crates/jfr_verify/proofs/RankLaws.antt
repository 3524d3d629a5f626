-- The marked members of a list, and their ranks among themselves.
use Rattle.std.specs.Prelude.{◌≡◌, ◌↔◌, ℕ, zero, suc, ◌<◌, Bool, true, false, List, [], ◌∷◌, ◌++◌, length, take, slice_get, Some, if◌then◌else◌}
use Rattle.std.proofs.Common.{ap, arith, refl, ◌∙◌}
use Rattle.std.proofs.lemmas.Option.{slice_get_within}
use Rattle.jfr_worklist.specs.Marks.{IsMarked}
use Rattle.jfr_chunk.specs.Reach.{marked}
use Rattle.jfr_laws.proofs.Marks.{rank, rank_get}

-- Two marked members with the same number of marked ones before them are the same.
pub rank_once : (marks : List Bool) (m n : ℕ) → IsMarked marks m → IsMarked marks n → rank marks m ≡ rank marks n → m ≡ n
rank_once [] m n a b e = cc
rank_once (true ∷ ms) zero zero a b e = refl
rank_once (true ∷ ms) zero (suc n) a b e = absurd (omega (arith, e))
rank_once (true ∷ ms) (suc m) zero a b e = absurd (omega (arith, e))
rank_once (true ∷ ms) (suc m) (suc n) a b e = ap (λ z. suc z) (rank_once ms m n a b (omega (arith, e)))
rank_once (false ∷ ms) zero n a b e = cc
rank_once (false ∷ ms) (suc m) zero a b e = cc
rank_once (false ∷ ms) (suc m) (suc n) a b e = ap (λ z. suc z) (rank_once ms m n a b e)

-- A marked member is among those that are marked.
pub rank_within : {X : Type 0} (marks : List Bool) (xs : List X) (n : ℕ) (x : X) → IsMarked marks n → slice_get xs n ≡ Some x → rank marks n < length (marked marks xs)
rank_within marks xs n x m e = slice_get_within (marked marks xs) (rank marks n) x (rank_get marks xs n m ∙ e)

-- Two lists of marks that mark the same members select the same.
pub marked_same : {X : Type 0} (a b : List Bool) (xs : List X) → ((i : ℕ) → i < length xs → IsMarked a i ↔ IsMarked b i) → marked a xs ≡ marked b xs
marked_same [] [] xs h = refl
marked_same [] (n ∷ ns) [] h = refl
marked_same (m ∷ ms) [] [] h = refl
marked_same (m ∷ ms) (n ∷ ns) [] h = refl
marked_same {X = X} [] (n ∷ ns) (x ∷ xs) h = by_mark n (h 0 (omega arith)) (marked_same [] ns xs (λ i l. ((λ e. cc), (λ e. (h (suc i) (omega arith)).1 e))))
  where
    by_mark : (t : Bool) → IsMarked [] 0 ↔ IsMarked (t ∷ ns) 0 → [] ≡ marked ns xs → [] ≡ marked (t ∷ ns) (x ∷ xs)
    by_mark true k e = let z : IsMarked [] 0 = k.1 refl in cc
    by_mark false k e = e
marked_same {X = X} (m ∷ ms) [] (x ∷ xs) h = by_mark m (h 0 (omega arith)) (marked_same ms [] xs (λ i l. ((λ e. (h (suc i) (omega arith)).0 e), (λ e. cc))))
  where
    by_mark : (t : Bool) → IsMarked (t ∷ ms) 0 ↔ IsMarked [] 0 → marked ms xs ≡ [] → marked (t ∷ ms) (x ∷ xs) ≡ []
    by_mark true k e = let z : IsMarked [] 0 = k.0 refl in cc
    by_mark false k e = e
marked_same {X = X} (m ∷ ms) (n ∷ ns) (x ∷ xs) h = by_mark m n (h 0 (omega arith)) (marked_same ms ns xs (λ i l. h (suc i) (omega arith)))
  where
    by_mark : (t u : Bool) → (t ≡ true) ↔ (u ≡ true) → marked ms xs ≡ marked ns xs → marked (t ∷ ms) (x ∷ xs) ≡ marked (u ∷ ns) (x ∷ xs)
    by_mark true true k e = ap (λ z. x ∷ z) e
    by_mark false false k e = e
    by_mark true false k e = let z : false ≡ true = k.0 refl in cc
    by_mark false true k e = let z : false ≡ true = k.1 refl in cc

-- One more member, which is marked or not.
pub marked_one : {X : Type 0} (ms : List Bool) (xs : List X) (n : ℕ) (b : Bool) (x : X) → slice_get ms n ≡ Some b → slice_get xs n ≡ Some x
    → marked (take (suc n) ms) (take (suc n) xs) ≡ marked (take n ms) (take n xs) ++ (if b then x ∷ [] else [])
marked_one [] xs n b x f g = cc
marked_one (m ∷ ms) [] n b x f g = cc
marked_one {X = X} (m ∷ ms) (y ∷ xs) zero b x f g = let q : m ≡ b = cc in let r : y ≡ x = cc in by_mark b q r
  where
    by_mark : (b : Bool) → m ≡ b → y ≡ x → marked (m ∷ []) (y ∷ []) ≡ (if b then x ∷ [] else [])
    by_mark true q r = ap (λ z. marked (z ∷ []) (y ∷ [])) q ∙ ap (λ z. z ∷ []) r
    by_mark false q r = ap (λ z. marked (z ∷ []) (y ∷ [])) q
marked_one (true ∷ ms) (y ∷ xs) (suc n) b x f g = ap (λ z. y ∷ z) (marked_one ms xs n b x f g)
marked_one (false ∷ ms) (y ∷ xs) (suc n) b x f g = marked_one ms xs n b x f g
