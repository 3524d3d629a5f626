-- A worklist marks exactly what the roots lead to.
use Rattle.std.specs.Prelude.{◌≡◌, ℕ, List, [], ◌∷◌, ◌⊎◌}
use Rattle.std.proofs.Common.{refl, inl, inr, subst, sym}
use Rattle.jfr_worklist.specs.Members.{In}
use Rattle.jfr_worklist.proofs.SweepLaws.{Reach, root, more}

-- M are the marked numbers, P those of them that have not been visited, and left the numbers that have still
-- to be marked.
pub record Work (next : ℕ → List ℕ) (roots : List ℕ) (M P : ℕ → Type 0) (left : List ℕ) : Type 0 where
  pub found : (i : ℕ) → M i → Reach next roots i
  pub listed : (i : ℕ) → P i → M i
  pub to_find : (i : ℕ) → In left i → Reach next roots i
  pub rooted : (i : ℕ) → In roots i → In left i ⊎ M i
  pub walked : (j : ℕ) → M j → P j ⊎ ((i : ℕ) → In (next j) i → In left i ⊎ M i)

module _ (next : ℕ → List ℕ) (roots : List ℕ) where
  pub work_starts : (M P : ℕ → Type 0) → ((i : ℕ) → M i → ⊥) → ((i : ℕ) → P i → ⊥) → Work next roots M P roots
  work_starts M P none empty = record {
    found = λ i m. absurd (none i m);
    listed = λ i p. absurd (empty i p);
    to_find = λ i j. root j;
    rooted = λ i j. inl j;
    walked = λ j m. absurd (none j m);
  }

  later : (M N : ℕ → Type 0) (j : ℕ) (left : List ℕ) → ((i : ℕ) → M i → N i) → N j → (i : ℕ) → In (j ∷ left) i ⊎ M i → In left i ⊎ N i
  later M N j left grows m i (inl (inl e)) = inr (subst N e m)
  later M N j left grows m i (inl (inr k)) = inl k
  later M N j left grows m i (inr h) = inr (grows i h)

  -- The first number that is left is marked: it was before, or it is listed.
  pub work_puts : (M N P Q : ℕ → Type 0) (j : ℕ) (left : List ℕ) → Work next roots M P (j ∷ left)
      → ((i : ℕ) → M i → N i) → N j → ((i : ℕ) → N i → M i ⊎ (j ≡ i))
      → ((i : ℕ) → P i → Q i) → ((i : ℕ) → Q i → P i ⊎ (j ≡ i)) → M j ⊎ Q j → Work next roots N Q left
  work_puts M N P Q j left w grows here only up down new = record {
    found = λ i n. by_new i (only i n);
    listed = λ i q. by_listed i (down i q);
    to_find = λ i k. w.to_find i (inr k);
    rooted = λ i k. later M N j left grows here i (w.rooted i k);
    walked = λ i n. by_walked i (only i n);
  }
    where
      by_new : (i : ℕ) → M i ⊎ (j ≡ i) → Reach next roots i
      by_new i (inl m) = w.found i m
      by_new i (inr h) = subst (Reach next roots) h (w.to_find j (inl refl))

      by_listed : (i : ℕ) → P i ⊎ (j ≡ i) → N i
      by_listed i (inl p) = grows i (w.listed i p)
      by_listed i (inr h) = subst N h here

      by_case : (i : ℕ) → P i ⊎ ((u : ℕ) → In (next i) u → In (j ∷ left) u ⊎ M u) → Q i ⊎ ((u : ℕ) → In (next i) u → In left u ⊎ N u)
      by_case i (inl p) = inl (up i p)
      by_case i (inr f) = inr (λ u k. later M N j left grows here u (f u k))

      by_new_one : (i : ℕ) → j ≡ i → M j ⊎ Q j → Q i ⊎ ((u : ℕ) → In (next i) u → In left u ⊎ N u)
      by_new_one i h (inl m) = by_case i (w.walked i (subst M h m))
      by_new_one i h (inr q) = inl (subst Q h q)

      by_walked : (i : ℕ) → M i ⊎ (j ≡ i) → Q i ⊎ ((u : ℕ) → In (next i) u → In left u ⊎ N u)
      by_walked i (inl m) = by_case i (w.walked i m)
      by_walked i (inr h) = by_new_one i h new

  -- Where nothing is left, a listed one is walked.
  pub work_takes : (M P Q : ℕ → Type 0) (j : ℕ) → Work next roots M P [] → P j → ((i : ℕ) → Q i → P i) → ((i : ℕ) → P i → Q i ⊎ (j ≡ i)) → Work next roots M Q (next j)
  work_takes M P Q j w p down up = record {
    found = w.found;
    listed = λ i q. w.listed i (down i q);
    to_find = λ i k. more (w.found j (w.listed j p)) k;
    rooted = λ i k. by_left i (w.rooted i k);
    walked = λ i m. by_walked i (w.walked i m);
  }
    where
      by_left : (i : ℕ) → ⊥ ⊎ M i → In (next j) i ⊎ M i
      by_left i (inl z) = absurd z
      by_left i (inr m) = inr m

      by_listed : (i : ℕ) → Q i ⊎ (j ≡ i) → Q i ⊎ ((u : ℕ) → In (next i) u → In (next j) u ⊎ M u)
      by_listed i (inl q) = inl q
      by_listed i (inr h) = inr (λ u k. inl (subst (λ z. In (next z) u) (sym h) k))

      by_walked : (i : ℕ) → P i ⊎ ((u : ℕ) → In (next i) u → ⊥ ⊎ M u) → Q i ⊎ ((u : ℕ) → In (next i) u → In (next j) u ⊎ M u)
      by_walked i (inl q) = by_listed i (up i q)
      by_walked i (inr f) = inr (λ u k. by_left u (f u k))

  pub work_done : (M P : ℕ → Type 0) → Work next roots M P [] → ((i : ℕ) → P i → ⊥) → {i : ℕ} → Reach next roots i → M i
  work_done M P w empty {i} (root k) = only i (w.rooted i k)
    where
      only : (i : ℕ) → ⊥ ⊎ M i → M i
      only i (inl z) = absurd z
      only i (inr m) = m
  work_done M P w empty {i} (more {j = j} r k) = by_walked (w.walked j (work_done M P w empty r)) k
    where
      only : (i : ℕ) → ⊥ ⊎ M i → M i
      only i (inl z) = absurd z
      only i (inr m) = m

      by_walked : P j ⊎ ((u : ℕ) → In (next j) u → ⊥ ⊎ M u) → In (next j) i → M i
      by_walked (inl p) k = absurd (empty j p)
      by_walked (inr f) k = only i (f i k)
