-- The results of tests.
use Rattle.std.specs.Prelude.{◌≡◌, ℕ, Bool, true, false, ◌&&◌, ◌==◌}
use Rattle.std.proofs.Common.{arith, refl}

pub left_true : (a b : Bool) → (a && b) ≡ true → a ≡ true
left_true true b e = refl
left_true false b e = e

pub right_true : (a b : Bool) → (a && b) ≡ true → b ≡ true
right_true true b e = e
right_true false b e = cc

pub is_eq : (a b : ℕ) → a ≡ b → (a == b) ≡ true
is_eq a b e = grind arith
