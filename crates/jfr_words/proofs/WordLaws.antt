-- The words of the command line as lists of characters.
use Rattle.std.specs.Prelude.{◌≡◌, ℕ, zero, suc, Bool, true, false, List, [], ◌∷◌, drop, None, slice_get}
use Rattle.std.specs.Char.{is_ascii}
use Rattle.std.specs.List.{list_all}
use Rattle.std.specs.Str.{chars, bytes_eq, IsUtf8}
use Rattle.std.proofs.Common.{ap, arith, refl, sym, ◌∙◌}
use Rattle.std.proofs.Math.ListN.{drop_of_length-le}
use Rattle.std.proofs.lemmas.Slice.Eq.{bytes_eq-Decides}
use Rattle.std.proofs.lemmas.Str.{chars-IsAscii, IsUtf8-from_ascii}
use Rattle.jfr_base.proofs.TextLaws.{bytes_eq-chars, word_ascii}

-- Past the end nothing is left.
pub none_left : {X : Type 0} (xs : List X) (i : ℕ) → slice_get xs i ≡ None → drop i xs ≡ []
none_left [] i e = drop_of_length-le [] (omega arith)
none_left (x ∷ xs) zero e = cc
none_left (x ∷ xs) (suc i) e = none_left xs i e

pub no_first : {X : Type 0} (xs : List X) → slice_get xs 0 ≡ None → xs ≡ []
no_first [] e = refl
no_first (x ∷ xs) e = cc

-- The characters of a text that is a word in ASCII.
pub chars_of : (t word : List ℕ) → list_all is_ascii word ≡ true → t ≡ word → chars t ≡ word
chars_of t word a e = ap chars e ∙ chars-IsAscii word (word_ascii word a)

-- A text is a word in ASCII exactly if its characters are.
pub same_word : (t word : List ℕ) → IsUtf8 t → list_all is_ascii word ≡ true → bytes_eq t word ≡ bytes_eq (chars t) word
same_word t word u a = bytes_eq-chars t word u (IsUtf8-from_ascii word (word_ascii word a)) ∙ ap (bytes_eq (chars t)) (chars-IsAscii word (word_ascii word a))

-- Another text has other characters.
pub is_other : (t word : List ℕ) → IsUtf8 t → list_all is_ascii word ≡ true → (t ≡ word → ⊥) → bytes_eq (chars t) word ≡ false
is_other t word u a n = by_test (bytes_eq t word) (same_word t word u a) (bytes_eq-Decides t word).0
  where
    by_test : (r : Bool) → r ≡ bytes_eq (chars t) word → (r ≡ true → t ≡ word) → bytes_eq (chars t) word ≡ false
    by_test true e d = absurd (n (d refl))
    by_test false e d = sym e
