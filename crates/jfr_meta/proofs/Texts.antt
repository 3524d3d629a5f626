-- Texts as lists of characters.
use Rattle.std.proofs.Common.{◌≡◌, ℕ, List, [], ◌∙◌, ap, arith, refl, sym, eqb-true, get_or}
use Rattle.std.specs.Prelude.{Option, Some, None, unwrap_or, slice_get, suc, true, false, ◌==◌, ◌∷◌, length}
use Rattle.jfr_meta.specs.Attributes.{not_empty}
use Rattle.std.specs.Borrow.{Bor}
use Rattle.jfr_base.specs.Texts.{text_in}
use Rattle.jfr_base.proofs.TextLaws.{bytes_eq-chars, word_ascii}
use Rattle.std.specs.Str.{chars, bytes_eq, IsUtf8, encode_utf8_all}
use Rattle.std.proofs.lemmas.Str.{encodes-chars, chars-nil, chars-IsAscii}
use Rattle.std.proofs.lemmas.Option.{unwrap_or-slice_get}
use Rattle.std.specs.Char.{is_ascii}
use Rattle.std.specs.List.{list_all}

pub text_or : (o : Option (Bor (List ℕ))) (d : Bor (List ℕ)) → chars d.now ≡ [] → chars (unwrap_or o d).now ≡ unwrap_or (text_in o) []
text_or None d e = e
text_or (Some t) d e = refl

pub no_length : {X : Type 0} (t : List X) → (length t == 0) ≡ true → t ≡ []
no_length [] e = refl
no_length (x ∷ t) e = let n : suc (length t) ≡ 0 = eqb-true (length (x ∷ t)) 0 e in absurd (omega arith)

-- An empty text has no characters, and no other has none.
pub not_empty-none : (t : List ℕ) → (length t == 0) ≡ true → not_empty (chars t) ≡ None
not_empty-none t e = ap (λ z. not_empty (chars z)) (no_length t e) ∙ ap not_empty chars-nil

pub not_empty-some : (t : List ℕ) → IsUtf8 t → (length t == 0) ≡ false → not_empty (chars t) ≡ Some (chars t)
not_empty-some t u e = by_chars (chars t) (encodes-chars t u)
  where
    by_chars : (cs : List ℕ) → encode_utf8_all cs ≡ t → not_empty cs ≡ Some cs
    by_chars [] f = absurd (no_other (ap (λ z. length z == 0) f ∙ e))
      where
        no_other : true ≡ false → ⊥
        no_other g = cc
    by_chars (c ∷ cs) f = refl

-- A word's bytes are its characters.
pub word_eq : (t ws : List ℕ) → IsUtf8 t → IsUtf8 ws → list_all is_ascii ws ≡ true → bytes_eq t ws ≡ bytes_eq (chars t) ws
word_eq t ws u v e = bytes_eq-chars t ws u v ∙ ap (bytes_eq (chars t)) (chars-IsAscii ws (word_ascii ws e))

-- The text of an index, if the table has it, and if it doesn't.
pub text_there : (texts : List (List ℕ)) (i : ℕ) (t : List ℕ) → slice_get texts i ≡ Some t → get_or texts i [] ≡ t
text_there texts i t e = sym (unwrap_or-slice_get texts i []) ∙ ap (λ z. unwrap_or z []) e

pub text_missing : (texts : List (List ℕ)) (i : ℕ) → slice_get texts i ≡ None → get_or texts i [] ≡ []
text_missing texts i e = sym (unwrap_or-slice_get texts i []) ∙ ap (λ z. unwrap_or z []) e
