-- The numbers that words spell.
use Rattle.std.specs.Prelude.{◌≡◌, ℕ, zero, suc, ◌^◌, ◌<◌, ◌≤◌, if◌then◌else◌, Bool, true, false, ◌&&◌, nat_lt, nat_le, List, [], ◌∷◌, length, Some, None, Result, Ok, Err}
use Rattle.std.proofs.Common.{rules, ap, arith, refl, sym, ◌∙◌}
use Rattle.std.proofs.lemmas.Bool.Decides.{nat_tests}
use Rattle.std.proofs.lemmas.Str.{encodes-chars, chars-IsAscii}
use Rattle.std.proofs.lemmas.Str.Ascii.{encodes-IsAscii, IsAscii-cons, IsAscii-nil}
use Rattle.std.proofs.lemmas.Str.Parse.{IsNumeralModel, numerals_by_fold, parse_digits, digits_value_short}
use Rattle.std.specs.Char.{is_ascii_digit}
use Rattle.std.specs.List.{list_all}
use Rattle.std.specs.Result.{result_ok}
use Rattle.std.specs.Str.{chars, IsUtf8, IsAscii}
use Rattle.std.specs.Str.Parse.{digits_value, digits_value_after, ParsesUnsigned}
use Rattle.jfr_base.specs.Decimal.{decimal_number}

abbrev pub digits : List ℕ → Bool
digits word = list_all is_ascii_digit word

digits_ascii : (word : List ℕ) → digits word ≡ true → IsAscii word
digits_ascii [] e = IsAscii-nil
digits_ascii (c ∷ cs) e = by_test (is_ascii_digit c) refl e (digits_ascii cs)
  where
    by_test : (t : Bool) → is_ascii_digit c ≡ t → (t && digits cs) ≡ true → (digits cs ≡ true → IsAscii cs) → IsAscii (c ∷ cs)
    by_test true f g h = IsAscii-cons c cs (grind (arith, nat_tests)) (h g)
    by_test false f g h = cc

pub own : IsNumeralModel (λ word. digits word ≡ true) (digits_value 10)
own = numerals_by_fold _ (search rules) (digits_value_after 10) (search rules)

-- One to nineteen digits are a number, and other words are none.
pub spelled : (word : List ℕ) → digits word ≡ true → 0 < length word → length word ≤ 19 → decimal_number word ≡ Some (digits_value 10 word)
unfolding decimal_number
spelled word e a b =
    let f : nat_lt 0 (length word) ≡ true = grind arith in
    let g : nat_le (length word) 19 ≡ true = grind arith in
    rw (e, f, g) refl

nothing : (word : List ℕ) → length word ≡ 0 → None ≡ decimal_number word
unfolding decimal_number
nothing [] h = refl
nothing (c ∷ cs) h = absurd (omega arith)

pub no_digits : (word : List ℕ) → digits word ≡ false → decimal_number word ≡ None
unfolding decimal_number
no_digits word e = rw e refl

pub too_long : (word : List ℕ) → 19 < length word → decimal_number word ≡ None
unfolding decimal_number
too_long word h = by_tests (digits word) (nat_lt 0 (length word))
  where
    long : nat_le (length word) 19 ≡ false
    long = grind arith

    by_tests : (s t : Bool) → (if s && t && nat_le (length word) 19 then Some (digits_value 10 word) else None) ≡ None
    by_tests true true = rw long refl
    by_tests true false = refl
    by_tests false t = refl

-- A text spells the same number as bytes and as characters.
pub same_number : (text : List ℕ) → IsUtf8 text → decimal_number text ≡ decimal_number (chars text)
same_number text u = by_tests (digits text) (digits (chars text)) refl refl
  where
    by_tests : (s t : Bool) → digits text ≡ s → digits (chars text) ≡ t → decimal_number text ≡ decimal_number (chars text)
    by_tests true t e f = ap decimal_number (sym (chars-IsAscii text (digits_ascii text e)))
    by_tests false true e f = ap decimal_number (sym (encodes-chars text u) ∙ encodes-IsAscii (chars text) (digits_ascii (chars text) f))
    by_tests false false e f = no_digits text e ∙ sym (no_digits (chars text) f)

-- At most nineteen digits are a number exactly if they parse, and the number is what they parse to.
pub parsed : {E : Type 0} (word : List ℕ) (r : Result ℕ E) → digits word ≡ true → length word ≤ 19 → ParsesUnsigned 64 10 word r → result_ok r ≡ decimal_number word
parsed {E = E} word (Ok n) e l p =
    let q = parse_digits own {E = E} 64 word (Ok n) p e in
    let v : n ≡ digits_value 10 word = q.1 in
    ap (λ z. Some z) v ∙ sym (spelled word e q.0.0 l)
parsed {E = E} word (Err w) e l p = nothing word (by_length (length word) refl (parse_digits own {E = E} 64 word (Err w) p e) (digits_value_short own word 19 e l))
  where
    by_length : (n : ℕ) → length word ≡ n → ((0 < length word) × (digits_value 10 word < 2 ^ 64) → ⊥) → digits_value 10 word < 10 ^ 19 → length word ≡ 0
    by_length zero f q v = f
    by_length (suc n) f q v = absurd (q (omega arith, omega arith))
