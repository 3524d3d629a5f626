-- How many are marked.
use Rattle.std.specs.Prelude.{◌≡◌, ℕ, zero, suc, ◌+◌, ◌<◌, ◌≤◌, Bool, true, false, List, [], ◌∷◌, length, replicate, slice_set}
use Rattle.std.proofs.Common.{ap, arith, refl}
use Rattle.jfr_worklist.specs.Marks.{is_marked, IsMarked}
use Rattle.jfr_worklist.specs.Worklists.{marked_count}

pub count_set : (ms : List Bool) (j : ℕ) → j < length ms → is_marked ms j ≡ false → marked_count (slice_set ms j true) ≡ marked_count ms + 1
count_set [] j h m = absurd (omega arith)
count_set (true ∷ ms) zero h m = cc
count_set (false ∷ ms) zero h m = omega arith
count_set (true ∷ ms) (suc j) h m = let i : marked_count (slice_set ms j true) ≡ marked_count ms + 1 = count_set ms j (omega arith) m in omega arith
count_set (false ∷ ms) (suc j) h m = count_set ms j (omega arith) m

pub count_le : (ms : List Bool) → marked_count ms ≤ length ms
count_le [] = omega arith
count_le (true ∷ ms) = omega (arith, count_le ms)
count_le (false ∷ ms) = omega (arith, count_le ms)

pub count_none : (n : ℕ) → marked_count (replicate n false) ≡ 0
count_none zero = refl
count_none (suc n) = count_none n

-- All are marked.
pub count_all : (ms : List Bool) → ((i : ℕ) → i < length ms → IsMarked ms i) → marked_count ms ≡ length ms
count_all [] f = refl
count_all (true ∷ ms) f = ap (λ z. suc z) (count_all ms (λ i h. f (suc i) (omega arith)))
count_all (false ∷ ms) f = let e : IsMarked (false ∷ ms) 0 = f 0 (omega arith) in cc
