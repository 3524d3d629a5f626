-- The loop that counts marks.
use Rattle.std.specs.Prelude.{◌≡◌, ◌+◌, ◌<◌, ◌≤◌, ◌⊎◌, ℕ, zero, suc, Bool, true, false, List, [], ◌∷◌, ◌++◌, length, take, slice_index_or}
use Rattle.std.proofs.Common.{ap, arith, refl, sym, ◌∙◌, inl, inr}
use Rattle.std.proofs.Math.ListN.{get_or-append}
use Rattle.std.proofs.Math.Seq.{get_or-append_seam}
use Rattle.std.proofs.lemmas.Bool.{cases_lt}
use Rattle.std.proofs.lemmas.List.{length-append, take_more}
use Rattle.jfr_worklist.specs.Worklists.{marked_count}
use Rattle.jfr_verify.specs.Ranks.{AreRanks}

-- One more if the flag is set.
abbrev pub one_if : Bool → ℕ
one_if true = 1
one_if false = 0

pub one_most : (b : Bool) → one_if b ≤ 1
one_most true = omega arith
one_most false = omega arith

count_more : (xs : List Bool) (b : Bool) → marked_count (xs ++ b ∷ []) ≡ marked_count xs + one_if b
count_more [] true = refl
count_more [] false = refl
count_more (true ∷ xs) b = let i : marked_count (xs ++ b ∷ []) ≡ marked_count xs + one_if b = count_more xs b in omega arith
count_more (false ∷ xs) b = count_more xs b

pub count_few : (xs : List Bool) (n : ℕ) → marked_count (take n xs) ≤ n
count_few [] zero = omega arith
count_few [] (suc n) = omega arith
count_few (b ∷ xs) zero = omega arith
count_few (true ∷ xs) (suc n) = omega (arith, count_few xs n)
count_few (false ∷ xs) (suc n) = omega (arith, count_few xs n)

-- The ranks of the first numbers, and the number of marks below n.
pub record Ranking (marks : List Bool) (n rank : ℕ) (ranks : List ℕ) : Type 0 where
  pub size : length ranks ≡ n
  pub each : (i : ℕ) → i < n → slice_index_or ranks i 0 ≡ marked_count (take i marks)
  pub count : rank ≡ marked_count (take n marks)

pub ranking_starts : (marks : List Bool) (ranks : List ℕ) → ranks ≡ [] → Ranking marks 0 0 ranks
ranking_starts marks ranks e = record { size = ap length e; each = λ i h. absurd (omega (arith, h)); count = refl }

pub ranking_next : (marks : List Bool) (n rank next : ℕ) (ranks more : List ℕ) → n < length marks → Ranking marks n rank ranks → more ≡ ranks ++ rank ∷ []
    → next ≡ rank + one_if (slice_index_or marks n false) → Ranking marks (n + 1) next more
ranking_next marks n rank next ranks more h r e f = record {
  size = ap length e ∙ (let l = length-append ranks (rank ∷ []) in let s = r.size in omega arith);
  each = λ i k. ap (λ z. slice_index_or z i 0) e ∙ by_order i k (cases_lt i n);
  count = f ∙ (ap (λ z. z + one_if (slice_index_or marks n false)) r.count ∙ (sym (count_more (take n marks) (slice_index_or marks n false)) ∙ ap marked_count (sym (take_more marks n false h))));
}
  where
    by_order : (i : ℕ) → i < n + 1 → (i < n) ⊎ (n ≤ i) → slice_index_or (ranks ++ rank ∷ []) i 0 ≡ marked_count (take i marks)
    by_order i k (inl l) = get_or-append ranks (rank ∷ []) 0 i (omega (arith, l, r.size)) ∙ r.each i l
    by_order i k (inr l) =
        let s : length ranks ≡ n = r.size in
        let q : length ranks ≡ i = omega arith in
        let w : n ≡ i = omega arith in
        ap (λ z. slice_index_or (ranks ++ rank ∷ []) z 0) (sym q) ∙ (get_or-append_seam ranks rank [] 0 ∙ (r.count ∙ ap (λ z. marked_count (take z marks)) w))

pub ranking_ends : (marks : List Bool) (n rank : ℕ) (ranks : List ℕ) → n ≡ length marks → Ranking marks n rank ranks → AreRanks marks ranks
ranking_ends marks n rank ranks e r = record { size = r.size ∙ e; each = λ i h. r.each i (omega (arith, h, e)) }
