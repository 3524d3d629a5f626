-- Texts without escapes.
use Rattle.std.specs.Prelude.{◌≡◌, ◌≢◌, ℕ, ◌≤◌, ◌==◌, false, List, [], ◌∷◌, ◌++◌, drop, nat_lt}
use Rattle.std.proofs.Common.{ap, arith, refl}
use Rattle.std.proofs.lemmas.Bool.Decides.{nat_tests}
use Rattle.serde_json.specs.Data.{string}
use Rattle.serde_json.specs.Written.{compact_text}
use Rattle.serde_json.proofs.OnLiterals.{serde_json_on_literals}

-- No byte needs an escape.
abbrev pub IsPlain : List ℕ → Type 0
IsPlain bytes = compact_text (string bytes) ≡ 34 ∷ (bytes ++ 34 ∷ [])

pub none_plain : IsPlain []
none_plain = refl

pub one_plain : (x : ℕ) (xs : List ℕ) → 32 ≤ x → x ≢ 34 → x ≢ 92 → IsPlain xs → IsPlain (x ∷ xs)
unfolding serde_json_on_literals
one_plain x xs l q b h =
    let control : nat_lt x 32 ≡ false = grind (arith, nat_tests) in
    let quote : (x == 34) ≡ false = grind (arith, nat_tests) in
    let slash : (x == 92) ≡ false = grind (arith, nat_tests) in
    let e8 : (x == 8) ≡ false = grind (arith, nat_tests) in
    let e9 : (x == 9) ≡ false = grind (arith, nat_tests) in
    let e10 : (x == 10) ≡ false = grind (arith, nat_tests) in
    let e12 : (x == 12) ≡ false = grind (arith, nat_tests) in
    let e13 : (x == 13) ≡ false = grind (arith, nat_tests) in
    rw quote (rw slash (rw e8 (rw e12 (rw e10 (rw e13 (rw e9 (rw control (ap (λ z. 34 ∷ x ∷ drop 1 z) h))))))))
