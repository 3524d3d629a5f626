-- An id that is written in decimal is read back.
use Rattle.std.specs.Prelude.{◌≡◌, ℕ, ◌^◌, ◌<◌, ◌≤◌, List, [], ◌∷◌, length, Some, option_and_then}
use Rattle.std.specs.Fmt.{decimal}
use Rattle.std.proofs.Common.{ap, arith, refl, ◌∙◌}
use Rattle.std.proofs.lemmas.Fmt.{decimal_is_IsNumeral, length-decimal-le}
use Rattle.jfr_base.specs.Decimal.{below, decimal_number}
use Rattle.jfr_base.proofs.DecimalLaws.{own, spelled}
use Rattle.jfr_meta.specs.Attributes.{id_of, not_empty}
use Rattle.jfr_build.proofs.WordLaws.{below_yes}

is_id : (text : List ℕ) (n : ℕ) → decimal_number text ≡ Some n → n < 2 ^ 63 → id_of text ≡ Some n
unfolding id_of
is_id text n e h = ap (option_and_then (below (2 ^ 63))) e ∙ below_yes (2 ^ 63) n h

not_none : (cs : List ℕ) → 0 < length cs → not_empty cs ≡ Some cs
not_none [] h = absurd (omega arith)
not_none (c ∷ cs) h = refl

pub decimal_id : (text : List ℕ) (n : ℕ) → text ≡ decimal n → n < 2 ^ 63 → option_and_then id_of (not_empty text) ≡ Some n
decimal_id text n e h =
    let d = decimal_is_IsNumeral n (omega (arith, h)) in
    let short : length (decimal n) ≤ 19 = length-decimal-le 19 n (omega arith) (omega (arith, h)) (omega (arith, h)) in
    ap (λ z. option_and_then id_of (not_empty z)) e
    ∙ (ap (option_and_then id_of) (not_none (decimal n) d.0.0)
    ∙ is_id (decimal n) n (spelled (decimal n) (own.from (decimal n) d.0.1) d.0.0 short ∙ ap (λ z. Some z) d.1) h)
