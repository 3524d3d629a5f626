-- How many events are kept.
use Rattle.std.specs.Prelude.{◌≡◌, ◌+◌, Bool, true, false, List, [], ◌∷◌, length, cond}
use Rattle.std.specs.List.{count_by}
use Rattle.std.proofs.Common.{arith, refl, ◌∙◌}
use Rattle.std.proofs.lemmas.List.Sums.{sum_by-cons}
use Rattle.jfr_chunk.specs.Reach.{marked}

-- As many are marked as there are marks.
pub marked_count : {X : Type 0} (flags : List Bool) (xs : List X) → length flags ≡ length xs → count_by (λ keep. keep) flags ≡ length (marked flags xs)
marked_count [] xs e = refl
marked_count (f ∷ flags) [] e = absurd (omega (arith, e))
marked_count {X = X} (f ∷ flags) (x ∷ xs) e = sum_by-cons (λ keep. cond keep 1 0) f flags ∙ by_flag f (marked_count flags xs (omega (arith, e)))
  where
    by_flag : (f : Bool) → count_by (λ keep. keep) flags ≡ length (marked flags xs) → cond f 1 0 + count_by (λ keep. keep) flags ≡ length (marked (f ∷ flags) (x ∷ xs))
    by_flag true e = omega (arith, e)
    by_flag false e = omega (arith, e)
