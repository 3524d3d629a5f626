-- Following references, a number of times.
use Rattle.std.specs.Prelude.{◌≡◌, ℕ, zero, suc, ◌+◌, ◌-◌, ◌<◌, Bool, true, false, Some, None, if◌then◌else◌}
use Rattle.std.specs.Option.{option_map_or}
use Rattle.std.proofs.Common.{ap, arith, refl, sym, ◌∙◌}
use Rattle.jfr_value.specs.Nodes.{NodeAt}
use Rattle.jfr_chunk.specs.Parts.{Parts}
use Rattle.jfr_chunk.specs.Paths.{follow, follow_while}

module _ (test : NodeAt → Bool) (p : Parts) where
  pub followed : (k : ℕ) (n m : NodeAt) → test n ≡ true → follow p n ≡ Some m → follow_while (suc k) test p n ≡ follow_while k test p m
  followed k n m t e = ap (λ z. if z then option_map_or (follow_while k test p) (follow p n) n else n) t ∙ ap (λ z. option_map_or (follow_while k test p) z n) e

  -- Following once more.
  pub follows_on : (most count : ℕ) (start n m : NodeAt) → count < most → follow_while most test p start ≡ follow_while (most - count) test p n → test n ≡ true → Some m ≡ follow p n
      → follow_while most test p start ≡ follow_while (most - (count + 1)) test p m
  follows_on most count start n m l h t e =
      let q : most - count ≡ suc (most - (count + 1)) = omega arith in
      h ∙ (ap (λ z. follow_while z test p n) q ∙ followed (most - (count + 1)) n m t (sym e))

  pub stays : (k : ℕ) (n : NodeAt) → test n ≡ false → follow_while k test p n ≡ n
  stays zero n t = refl
  stays (suc k) n t = ap (λ z. if z then option_map_or (follow_while k test p) (follow p n) n else n) t

  pub ends : (k : ℕ) (n : NodeAt) → follow p n ≡ None → follow_while k test p n ≡ n
  ends zero n e = refl
  ends (suc k) n e = by_test (test n)
    where
      by_test : (b : Bool) → (if b then option_map_or (follow_while k test p) (follow p n) n else n) ≡ n
      by_test true = ap (λ z. option_map_or (follow_while k test p) z n) e
      by_test false = refl
