-- When the keys of two lists have the same order.
use Rattle.std.specs.Prelude.{◌≡◌, ℕ, ◌<◌, Bool, List, Contains}

-- The classes and keys of the first list correspond to those of the second: the classes are the same, the same
-- keys are together, and of two keys of a class the smaller one corresponds to the smaller one.
pub record SameOrder (together together_there : ℕ × ℕ → ℕ × ℕ → Bool) (us vs : List (ℕ × ℕ)) (to : ℕ × ℕ → ℕ × ℕ) : Type 0 where
  pub there : (t : ℕ × ℕ) → Contains us t → Contains vs (to t)
  pub back : (v : ℕ × ℕ) → Contains vs v → (t : ℕ × ℕ) × Contains us t × (to t ≡ v)
  pub class : (t : ℕ × ℕ) → Contains us t → (to t).0 ≡ t.0
  pub alike : (t u : ℕ × ℕ) → Contains us t → Contains us u → together t u ≡ together_there (to t) (to u)
  pub rising : (t u : ℕ × ℕ) → Contains us t → Contains us u → t.0 ≡ u.0 → t.1 < u.1 → (to t).1 < (to u).1
