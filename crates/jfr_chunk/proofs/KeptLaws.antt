-- If the number of kept events is that of all events, all are kept.
use Rattle.std.specs.Prelude.{◌≡◌, ℕ, suc, ◌+◌, ◌≤◌, Bool, true, false, ◌==◌, List, [], ◌∷◌, length, cond}
use Rattle.std.specs.List.{count_by, list_all}
use Rattle.std.proofs.Common.{ap, arith, refl, ◌∙◌}
use Rattle.std.proofs.lemmas.Bool.Decides.{nat_tests}
use Rattle.std.proofs.lemmas.List.Sums.{count_by-le-length, sum_by-cons}

one_more : (m n : ℕ) → (1 + m == suc n) ≡ (m == n)
one_more m n = grind (arith, nat_tests)

one_less : (m n : ℕ) → m ≤ n → (0 + m == suc n) ≡ false
one_less m n h = grind (arith, nat_tests)

pub all_kept : (flags : List Bool) → (count_by (λ keep. keep) flags == length flags) ≡ list_all (λ keep. keep) flags
all_kept [] = refl
all_kept (keep ∷ flags) = ap (λ n. n == suc (length flags)) (sum_by-cons (λ keep. cond keep 1 0) keep flags) ∙ by_flag keep (all_kept flags)
  where
    by_flag : (keep : Bool) → (count_by (λ keep. keep) flags == length flags) ≡ list_all (λ keep. keep) flags
        → (cond keep 1 0 + count_by (λ keep. keep) flags == suc (length flags)) ≡ list_all (λ keep. keep) (keep ∷ flags)
    by_flag true e = one_more (count_by (λ keep. keep) flags) (length flags) ∙ e
    by_flag false e = one_less (count_by (λ keep. keep) flags) (length flags) (count_by-le-length (λ keep. keep) flags)
