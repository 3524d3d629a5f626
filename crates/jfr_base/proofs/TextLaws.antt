-- Texts, and their characters.
use Rattle.std.specs.Prelude.{Bool, true, false, ◌&&◌, [], ◌∷◌}
use Rattle.std.specs.Char.{is_ascii}
use Rattle.std.specs.List.{list_all}
use Rattle.std.specs.Str.{chars, bytes_eq, IsAscii, IsUtf8, encode_utf8_all}
use Rattle.std.proofs.Common.{◌≡◌, ℕ, List, arith, refl, sym, ◌∙◌, ap}
use Rattle.std.proofs.lemmas.Bool.Decides.{same_from_decides, Decides-like, nat_tests}
use Rattle.std.proofs.lemmas.Str.Ascii.{IsAscii-cons, IsAscii-nil}
use Rattle.std.proofs.lemmas.Str.{encodes-chars, encodes_same}
use Rattle.std.proofs.lemmas.Slice.Eq.{bytes_eq-Decides}

-- Two texts are equal exactly if their characters are.
pub bytes_eq-chars : (a b : List ℕ) → IsUtf8 a → IsUtf8 b → bytes_eq a b ≡ bytes_eq (chars a) (chars b)
bytes_eq-chars a b u v = same_from_decides (bytes_eq a b) (bytes_eq (chars a) (chars b)) (bytes_eq-Decides a b)
    (Decides-like (bytes_eq (chars a) (chars b)) (λ e. sym (encodes-chars a u) ∙ (ap encode_utf8_all e ∙ encodes-chars b v)) (ap chars) (bytes_eq-Decides (chars a) (chars b)))

-- The spellings of two lists of characters are equal exactly if the lists are.
pub bytes_eq-encodes : (a b : List ℕ) → bytes_eq (encode_utf8_all a) (encode_utf8_all b) ≡ bytes_eq a b
bytes_eq-encodes a b = same_from_decides (bytes_eq (encode_utf8_all a) (encode_utf8_all b)) (bytes_eq a b)
    (Decides-like (bytes_eq (encode_utf8_all a) (encode_utf8_all b)) (encodes_same a b) (ap encode_utf8_all) (bytes_eq-Decides (encode_utf8_all a) (encode_utf8_all b)))
    (bytes_eq-Decides a b)

-- A word of which each character is ASCII.
pub word_ascii : (ws : List ℕ) → list_all is_ascii ws ≡ true → IsAscii ws
word_ascii [] e = IsAscii-nil
word_ascii (c ∷ cs) e = by_test (is_ascii c) refl e (word_ascii cs)
  where
    by_test : (t : Bool) → is_ascii c ≡ t → (t && list_all is_ascii cs) ≡ true → (list_all is_ascii cs ≡ true → IsAscii cs) → IsAscii (c ∷ cs)
    by_test true f g h = IsAscii-cons c cs (grind (arith, nat_tests)) (h g)
    by_test false f g h = cc
