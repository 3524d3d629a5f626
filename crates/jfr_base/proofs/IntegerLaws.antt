use Rattle.std.specs.Prelude.{◌≡◌, ℕ, zero, suc, ◌<◌, ◌≤◌, List, [], ◌∷◌, ◌++◌, ◌⊎◌}
use Rattle.std.proofs.lemmas.Bool.{cases_lt}
use Rattle.std.proofs.Common.{ap, arith, refl, inl, inr}
use Rattle.jfr_base.specs.Integer.{IsSpellingWithin}

-- No spelling is a proper prefix of another.
pub one_front : (k : ℕ) (a b x y : List ℕ) → IsSpellingWithin k a → IsSpellingWithin k b → a ++ x ≡ b ++ y → a ≡ b
one_front k [] b x y p q e = absurd p
one_front k (a ∷ ys) [] x y p q e = absurd q
one_front zero (a ∷ ys) (b ∷ bs) x y p q e = cc
one_front (suc k) (a ∷ []) (b ∷ []) x y p q e = cc
one_front (suc k) (a ∷ []) (b ∷ c ∷ bs) x y p q e = let h : a ≡ b = cc in absurd (omega arith)
one_front (suc k) (a ∷ c ∷ ys) (b ∷ []) x y p q e = let h : a ≡ b = cc in absurd (omega arith)
one_front (suc k) (a ∷ c ∷ ys) (b ∷ d ∷ bs) x y p q e =
    let h : a ≡ b = cc in
    let t : (c ∷ ys) ++ x ≡ (d ∷ bs) ++ y = cc in
    let i : c ∷ ys ≡ d ∷ bs = one_front k (c ∷ ys) (d ∷ bs) x y p.1 q.1 t in
    cc

-- Either the list begins with a spelling or it doesn't.
pub front_or_none : (k : ℕ) (bytes : List ℕ) →
    ((front rest : List ℕ) × (bytes ≡ front ++ rest) × IsSpellingWithin k front)
    ⊎ ((front rest : List ℕ) → bytes ≡ front ++ rest → IsSpellingWithin k front → ⊥)
front_or_none k [] = inr (nothing k)
  where
    nothing : (k : ℕ) (front rest : List ℕ) → [] ≡ front ++ rest → IsSpellingWithin k front → ⊥
    nothing k [] rest e s = s
    nothing k (f ∷ fs) rest e s = cc
front_or_none zero (b ∷ bs) = inl (b ∷ [], bs, refl, refl)
front_or_none (suc k) (b ∷ bs) = by_test (cases_lt b 128) (front_or_none k bs)
  where
    more : (front : List ℕ) → 128 ≤ b → IsSpellingWithin k front → IsSpellingWithin (suc k) (b ∷ front)
    more [] h s = absurd s
    more (f ∷ fs) h s = (h, s)

    less : (front rest : List ℕ) → 128 ≤ b → ((f r : List ℕ) → bs ≡ f ++ r → IsSpellingWithin k f → ⊥) → b ∷ bs ≡ front ++ rest → IsSpellingWithin (suc k) front → ⊥
    less [] rest h n e s = s
    less (f ∷ []) rest h n e s = let i : b ≡ f = cc in omega arith
    less (f ∷ g ∷ fs) rest h n e s = n (g ∷ fs) rest (cc) s.1

    by_rest : 128 ≤ b → (((f r : List ℕ) × (bs ≡ f ++ r) × IsSpellingWithin k f) ⊎ ((f r : List ℕ) → bs ≡ f ++ r → IsSpellingWithin k f → ⊥))
        → ((front rest : List ℕ) × (b ∷ bs ≡ front ++ rest) × IsSpellingWithin (suc k) front) ⊎ ((front rest : List ℕ) → b ∷ bs ≡ front ++ rest → IsSpellingWithin (suc k) front → ⊥)
    by_rest h (inl found) = inl (b ∷ found.0, found.1, ap (λ xs. b ∷ xs) found.2, more found.0 h found.3)
    by_rest h (inr n) = inr (λ front rest. less front rest h n)

    by_test : ((b < 128) ⊎ (128 ≤ b)) → (((f r : List ℕ) × (bs ≡ f ++ r) × IsSpellingWithin k f) ⊎ ((f r : List ℕ) → bs ≡ f ++ r → IsSpellingWithin k f → ⊥))
        → ((front rest : List ℕ) × (b ∷ bs ≡ front ++ rest) × IsSpellingWithin (suc k) front) ⊎ ((front rest : List ℕ) → b ∷ bs ≡ front ++ rest → IsSpellingWithin (suc k) front → ⊥)
    by_test (inl h) r = inl (b ∷ [], bs, refl, h)
    by_test (inr h) r = by_rest h r
