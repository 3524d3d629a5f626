-- What is shown is one to one, and no known text is shown for another.
use Rattle.std.specs.Prelude.{◌≡◌, ℕ, ◌<◌, ◌^◌, ◌&&◌, ◌||◌, ◌==◌, not, Bool, true, false, List, [], ◌∷◌, ◌++◌, codes, decimal, encode_utf8_all, IsUtf8, length, if◌then◌else◌}
use Rattle.std.specs.Str.{chars}
use Rattle.std.proofs.Common.{ap, append_assoc, arith, refl, sym, ◌∙◌}
use Rattle.std.proofs.lemmas.Bool.{eqb-true}
use Rattle.std.proofs.lemmas.Fmt.{IsAscii-decimal, decimal_injective}
use Rattle.std.proofs.lemmas.List.{append_cancel_left}
use Rattle.std.proofs.lemmas.Str.{chars-nil, encodes-IsAscii, encodes-append, encodes-chars}
use lib.Utf8.{encode, encodes}
use Rattle.jfr_base.specs.Integer.{spell}
use Rattle.jfr_filter.specs.Patterns.{glob, some_suffix}
use Rattle.jfr_meta.specs.Written.{text_bytes}
use Rattle.jfr_mask.specs.Laws.{AreDistinct}
use Rattle.jfr_mask.specs.Pseudonyms.{has_text, number_of, is_descriptor, is_known, is_like_pseudonym, pseudonym, shown, is_unmasked}
use Rattle.jfr_mask.proofs.NumberLaws.{number_most, number_one}

abbrev first : List ℕ → ℕ
first [] = 0
first (x ∷ xs) = x

differ : (x y : ℕ) → x ≡ 40 → y ≡ 109 → x ≡ y → ⊥
differ x y h i e = omega arith

-- The number can be read from a pseudonym.
pseudonym_one : (a b : Bool) (m n : ℕ) → m < 2 ^ 64 → n < 2 ^ 64 → pseudonym a m ≡ pseudonym b n → m ≡ n
pseudonym_one true true m n h i e = decimal_injective m n h i (append_cancel_left (codes "()masked-") (decimal m) (decimal n) e)
pseudonym_one false false m n h i e = decimal_injective m n h i (append_cancel_left (codes "masked-") (decimal m) (decimal n) e)
pseudonym_one true false m n h i e = absurd (differ _ _ refl refl (ap first e))
pseudonym_one false true m n h i e = absurd (differ _ _ refl refl (sym (ap first e)))

-- A star at the end matches any text.
star_matches : (t : List ℕ) → some_suffix (glob []) t ≡ true
unfolding glob
star_matches [] = refl
star_matches (c ∷ cs) = star_matches cs

-- A pseudonym begins as one.
pseudonym_begins : (a : Bool) (n : ℕ) → is_like_pseudonym (pseudonym a n) ≡ true
unfolding glob
pseudonym_begins true n = star_matches (decimal n)
pseudonym_begins false n = ap (λ b. b || glob (codes "()masked-*") (pseudonym false n)) (star_matches (decimal n))

stays_by : (known : List ℕ → Bool) (a : Bool) (n : ℕ) → is_unmasked known (pseudonym a n) ≡ known (pseudonym a n)
stays_by known true n = refl
stays_by known false n = refl

and_false : (b : Bool) → (b && false) ≡ false
and_false true = refl
and_false false = refl

module _ (lines d : List (List ℕ)) (small : length d < 2 ^ 63) where
  abbrev known : List ℕ → Bool
  known = is_known lines

  -- A pseudonym isn't shown as it is.
  not_staying : (a : Bool) (n : ℕ) → is_unmasked known (pseudonym a n) ≡ false
  not_staying a n =
      stays_by known a n
      ∙ (ap (λ b. has_text lines (pseudonym a n) && not b) (pseudonym_begins a n) ∙ and_false (has_text lines (pseudonym a n)))

  in_range : (t : List ℕ) → number_of d t < 2 ^ 64
  in_range t = let h = number_most d t in omega arith

  abbrev Shown : Bool → List ℕ → List ℕ
  Shown b t = if b then t else pseudonym (is_descriptor t) (number_of d t)

  by_stay : (t u : List ℕ) → has_text d t ≡ true → has_text d u ≡ true → (a b : Bool) → is_unmasked known t ≡ a → is_unmasked known u ≡ b → Shown a t ≡ Shown b u → t ≡ u
  by_stay t u h i true true p q e = e
  by_stay t u h i false false p q e = number_one d t u h i (pseudonym_one (is_descriptor t) (is_descriptor u) (number_of d t) (number_of d u) (in_range t) (in_range u) e)
  by_stay t u h i true false p q e = let z : true ≡ false = sym p ∙ (ap (is_unmasked known) e ∙ not_staying (is_descriptor u) (number_of d u)) in cc
  by_stay t u h i false true p q e = let z : true ≡ false = sym q ∙ (ap (is_unmasked known) (sym e) ∙ not_staying (is_descriptor t) (number_of d t)) in cc

  apart_by : (t u : List ℕ) (a b : Bool) → is_unmasked known t ≡ a → is_unmasked known u ≡ b → a ≡ true → b ≡ false → Shown a t ≡ Shown b u → ⊥
  apart_by t u true false p q r s e = let z : true ≡ false = sym p ∙ (ap (is_unmasked known) e ∙ not_staying (is_descriptor u) (number_of d u)) in cc
  apart_by t u false b p q r s e = cc
  apart_by t u a true p q r s e = cc

  begins : (t : List ℕ) (a : Bool) → is_descriptor (Shown a t) ≡ is_descriptor t
  begins t true = refl
  begins t false = by_begin (is_descriptor t)
    where
      by_begin : (b : Bool) → is_descriptor (pseudonym b (number_of d t)) ≡ b
      by_begin true = refl
      by_begin false = refl

  pub are_distinct : AreDistinct known d
  are_distinct = record {
    one = λ t u h i e. by_stay t u h i (is_unmasked known t) (is_unmasked known u) refl refl e;
    apart = λ t u p q e. apart_by t u (is_unmasked known t) (is_unmasked known u) refl refl p q e;
    descriptors = λ t. begins t (is_unmasked known t);
  }

-- A pseudonym in UTF-8 is itself.
pub pseudonym_bytes : (a : Bool) (n : ℕ) → n < 2 ^ 64 → encode_utf8_all (pseudonym a n) ≡ pseudonym a n
unfolding encode
pseudonym_bytes true n h = encodes-append (codes "()masked-") (decimal n) ∙ ap (λ z. codes "()masked-" ++ z) (encodes-IsAscii (decimal n) (IsAscii-decimal n h))
pseudonym_bytes false n h = encodes-append (codes "masked-") (decimal n) ∙ ap (λ z. codes "masked-" ++ z) (encodes-IsAscii (decimal n) (IsAscii-decimal n h))

-- What is shown, in UTF-8.
pub text_shown : (known : List ℕ → Bool) (d : List (List ℕ)) (text : List ℕ) → IsUtf8 text → is_unmasked known (chars text) ≡ true → text ≡ encode_utf8_all (shown known d (chars text))
text_shown known d text u h = sym (encodes-chars text u) ∙ ap (λ b. encode_utf8_all (if b then chars text else pseudonym (is_descriptor (chars text)) (number_of d (chars text)))) (sym h)

pub pseudonym_shown : (known : List ℕ → Bool) (d : List (List ℕ)) (t : List ℕ) (a : Bool) (n : ℕ)
    → n < 2 ^ 64 → a ≡ is_descriptor t → n ≡ number_of d t → is_unmasked known t ≡ false → pseudonym a n ≡ encode_utf8_all (shown known d t)
pseudonym_shown known d t a n small is e h =
    sym (pseudonym_bytes a n small)
    ∙ (ap (λ z. encode_utf8_all (pseudonym z n)) is ∙ (ap (λ z. encode_utf8_all (pseudonym (is_descriptor t) z)) e
    ∙ ap (λ b. encode_utf8_all (if b then t else pseudonym (is_descriptor t) (number_of d t))) (sym h)))

-- The empty text, and any other, by its bytes.
pub empty_stays : (known : List ℕ → Bool) (text : List ℕ) → length text ≡ 0 → is_unmasked known (chars text) ≡ true
unfolding chars
empty_stays known [] h = refl
empty_stays known (b ∷ bs) h = absurd (omega arith)

pub other_stays : (known : List ℕ → Bool) (text : List ℕ) → IsUtf8 text → (length text ≡ 0 → ⊥) → is_unmasked known (chars text) ≡ known (chars text)
other_stays known text u some = by_chars (chars text) refl
  where
    by_chars : (t : List ℕ) → chars text ≡ t → is_unmasked known t ≡ known t
    by_chars [] e = let z : length text ≡ 0 = ap length (sym (encodes-chars text u)) ∙ ap (λ z. length (encodes z)) e in absurd (some z)
    by_chars (c ∷ cs) e = refl

-- The empty text, as a string.
pub empty_string : (known : List ℕ → Bool) (d : List (List ℕ)) (text : List ℕ) → (length text == 0) ≡ true → text_bytes (shown known d (chars text)) ≡ 1 ∷ []
empty_string known d [] h = ap (λ t. text_bytes (shown known d t)) chars-nil
empty_string known d (b ∷ bs) h = let z : length (b ∷ bs) ≡ 0 = eqb-true (length (b ∷ bs)) 0 h in absurd (omega arith)

-- What is shown for any other text isn't empty.
pub other_string : (known : List ℕ → Bool) (d : List (List ℕ)) (text u : List ℕ) → IsUtf8 text → (length text == 0) ≡ false → u ≡ encode_utf8_all (shown known d (chars text))
    → text_bytes (shown known d (chars text)) ≡ 3 ∷ (spell (length u) ++ u)
other_string known d text u w some e = by_chars (chars text) refl ∙ ap (λ z. 3 ∷ (spell (length z) ++ z)) (sym e)
  where
    filled : List ℕ → List ℕ
    filled t = 3 ∷ (spell (length (encode_utf8_all t)) ++ encode_utf8_all t)

    by_descriptor : (b : Bool) (n : ℕ) → text_bytes (pseudonym b n) ≡ filled (pseudonym b n)
    by_descriptor true n = refl
    by_descriptor false n = refl

    by_stay : (b : Bool) (c : ℕ) (cs : List ℕ)
        → text_bytes (if b then c ∷ cs else pseudonym (is_descriptor (c ∷ cs)) (number_of d (c ∷ cs))) ≡ filled (if b then c ∷ cs else pseudonym (is_descriptor (c ∷ cs)) (number_of d (c ∷ cs)))
    by_stay true c cs = refl
    by_stay false c cs = by_descriptor (is_descriptor (c ∷ cs)) (number_of d (c ∷ cs))

    by_chars : (t : List ℕ) → chars text ≡ t → text_bytes (shown known d t) ≡ filled (shown known d t)
    by_chars [] f =
        let z : length text ≡ 0 = ap length (sym (encodes-chars text w)) ∙ ap (λ z. length (encodes z)) f in
        let both : true ≡ false = sym (ap (λ n. n == 0) z) ∙ some in
        cc
    by_chars (c ∷ cs) f = by_stay (is_unmasked known (c ∷ cs)) c cs

-- A kind byte, a length and these bytes, one after another.
pub string_steps : (o p q r b : List ℕ) (n : ℕ) → p ≡ o ++ 3 ∷ [] → q ≡ p ++ spell n → r ≡ q ++ b → n ≡ length b → r ≡ o ++ (3 ∷ (spell (length b) ++ b))
string_steps o p q r b n e f g h =
    let k : r ≡ ((o ++ 3 ∷ []) ++ spell (length b)) ++ b = cc in
    k ∙ (append_assoc (o ++ 3 ∷ []) (spell (length b)) b ∙ append_assoc o (3 ∷ []) (spell (length b) ++ b))
