-- Rounds that only add marks change nothing after n rounds, if there are n flags.
use Rattle.std.specs.Prelude.{◌≡◌, ℕ, zero, suc, ◌<◌, ◌≤◌, List, [], ◌∷◌, length, Bool, true, false, ◌⊎◌, ⊤}
use Rattle.std.proofs.Common.{ap, arith, refl, sym, ◌∙◌, inl, inr}
use Rattle.jfr_worklist.specs.Worklists.{marked_count}
use Rattle.jfr_worklist.proofs.Counts.{count_le}

-- What is marked stays marked.
abbrev pub Grows : List Bool → List Bool → Type 0
Grows [] [] = ⊤
Grows [] (n ∷ ns) = ⊥
Grows (m ∷ ms) [] = ⊥
Grows (m ∷ ms) (n ∷ ns) = (m ≡ true → n ≡ true) × Grows ms ns

same_length : (ms ns : List Bool) → Grows ms ns → length ms ≡ length ns
same_length [] [] g = refl
same_length [] (n ∷ ns) g = absurd g
same_length (m ∷ ms) [] g = absurd g
same_length (m ∷ ms) (n ∷ ns) g = ap (λ z. suc z) (same_length ms ns g.1)

same_or_more : (ms ns : List Bool) → Grows ms ns → (ms ≡ ns) ⊎ (marked_count ms < marked_count ns)
same_or_more [] [] g = inl refl
same_or_more [] (n ∷ ns) g = absurd g
same_or_more (m ∷ ms) [] g = absurd g
same_or_more (m ∷ ms) (n ∷ ns) g = by_case m n g.0 (same_or_more ms ns g.1)
  where
    le : ((ms ≡ ns) ⊎ (marked_count ms < marked_count ns)) → marked_count ms ≤ marked_count ns
    le (inl e) = let h : marked_count ms ≡ marked_count ns = ap marked_count e in omega arith
    le (inr h) = omega arith

    by_case : (a b : Bool) → (a ≡ true → b ≡ true) → ((ms ≡ ns) ⊎ (marked_count ms < marked_count ns)) → (a ∷ ms ≡ b ∷ ns) ⊎ (marked_count (a ∷ ms) < marked_count (b ∷ ns))
    by_case true true h (inl e) = inl (ap (λ z. true ∷ z) e)
    by_case true true h (inr l) = inr (omega arith)
    by_case false false h (inl e) = inl (ap (λ z. false ∷ z) e)
    by_case false false h (inr l) = inr l
    by_case false true h r = let l = le r in inr (omega arith)
    by_case true false h r = let e : false ≡ true = h refl in cc

module _ (next : List Bool → List Bool) (grows : (ms : List Bool) → Grows ms (next ms)) where
  abbrev pub rounds : ℕ → List Bool → List Bool
  rounds zero ms = ms
  rounds (suc n) ms = next (rounds n ms)

  rests_or_many : (n : ℕ) (ms : List Bool) → (next (rounds n ms) ≡ rounds n ms) ⊎ (n ≤ marked_count (rounds n ms))
  rests_or_many zero ms = inr (omega arith)
  rests_or_many (suc n) ms = by_case (rests_or_many n ms) (same_or_more (rounds n ms) (next (rounds n ms)) (grows (rounds n ms)))
    where
      by_case : ((next (rounds n ms) ≡ rounds n ms) ⊎ (n ≤ marked_count (rounds n ms))) → ((rounds n ms ≡ next (rounds n ms)) ⊎ (marked_count (rounds n ms) < marked_count (next (rounds n ms))))
          → (next (next (rounds n ms)) ≡ next (rounds n ms)) ⊎ (suc n ≤ marked_count (next (rounds n ms)))
      by_case (inl e) r = inl (ap next e)
      by_case (inr l) (inl e) = inl (ap next (sym e))
      by_case (inr l) (inr m) = inr (omega arith)

  rounds_length : (n : ℕ) (ms : List Bool) → length (rounds n ms) ≡ length ms
  rounds_length zero ms = refl
  rounds_length (suc n) ms = sym (same_length (rounds n ms) (next (rounds n ms)) (grows (rounds n ms))) ∙ rounds_length n ms

  pub rests : (ms : List Bool) → next (rounds (length ms) ms) ≡ rounds (length ms) ms
  rests ms = by_case (rests_or_many (length ms) ms) (same_or_more (rounds (length ms) ms) (next (rounds (length ms) ms)) (grows (rounds (length ms) ms)))
    where
      by_case : ((next (rounds (length ms) ms) ≡ rounds (length ms) ms) ⊎ (length ms ≤ marked_count (rounds (length ms) ms)))
          → ((rounds (length ms) ms ≡ next (rounds (length ms) ms)) ⊎ (marked_count (rounds (length ms) ms) < marked_count (next (rounds (length ms) ms))))
          → next (rounds (length ms) ms) ≡ rounds (length ms) ms
      by_case (inl e) r = e
      by_case (inr l) (inl e) = sym e
      by_case (inr l) (inr m) =
          let a = count_le (next (rounds (length ms) ms)) in
          let b : length (next (rounds (length ms) ms)) ≡ length ms =
          sym (same_length (rounds (length ms) ms) (next (rounds (length ms) ms)) (grows (rounds (length ms) ms))) ∙ rounds_length (length ms) ms in
          absurd (omega arith)
