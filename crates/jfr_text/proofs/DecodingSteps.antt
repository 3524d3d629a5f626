-- The characters of units of UTF-16, one by one.
use Rattle.std.specs.Prelude.{◌≡◌, ℕ, true, false, List, [], ◌∷◌, unwrap_or}
use Rattle.std.specs.Char.Utf16.{utf16_chars, utf16_lossy_chars, lone_unit_char, surrogate_pair_char, is_high_surrogate, is_low_surrogate}
use Rattle.std.proofs.Common.{ap, sym, ◌∙◌}

-- The character of a unit in no pair.
abbrev pub lone_char : ℕ → ℕ
lone_char unit = unwrap_or (lone_unit_char unit) 0xFFFD

pub decode_none : (units : List ℕ) → units ≡ [] → utf16_lossy_chars units ≡ []
unfolding utf16_chars
decode_none units e = ap utf16_lossy_chars e

pub decode_pair : (units rest : List ℕ) (high low : ℕ) → units ≡ high ∷ low ∷ rest → is_high_surrogate high ≡ true → is_low_surrogate low ≡ true
    → utf16_lossy_chars units ≡ surrogate_pair_char high low ∷ utf16_lossy_chars rest
unfolding utf16_chars
decode_pair units rest high low e h l = ap utf16_lossy_chars e ∙ rw (h, l)

pub decode_lone : (units rest : List ℕ) (unit : ℕ) → units ≡ unit ∷ rest → is_high_surrogate unit ≡ false → utf16_lossy_chars units ≡ lone_char unit ∷ utf16_lossy_chars rest
unfolding utf16_chars
decode_lone units [] unit e h = ap utf16_lossy_chars e
decode_lone units (next ∷ rest) unit e h = ap utf16_lossy_chars e ∙ rw h

pub decode_last : (units before after : List ℕ) (unit : ℕ) → units ≡ unit ∷ before → before ≡ [] → after ≡ [] → utf16_lossy_chars units ≡ lone_char unit ∷ utf16_lossy_chars after
unfolding utf16_chars
decode_last units before after unit e f g = ap utf16_lossy_chars (e ∙ ap (λ us. unit ∷ us) f) ∙ ap (λ us. lone_char unit ∷ utf16_lossy_chars us) (sym g)

pub decode_apart : (units rest : List ℕ) (high next : ℕ) → units ≡ high ∷ next ∷ rest → is_high_surrogate high ≡ true → is_low_surrogate next ≡ false
    → utf16_lossy_chars units ≡ lone_char high ∷ utf16_lossy_chars (next ∷ rest)
unfolding utf16_chars
decode_apart units rest high next e h l = ap utf16_lossy_chars e ∙ rw (h, l)
