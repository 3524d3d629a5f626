-- Laws of quoted texts, words and values.
use Rattle.std.specs.Prelude.{◌≡◌, ◌↔◌, ℕ, ◌/◌, ◌%◌, ◌==◌, ◌||◌, List, [], ◌∷◌, ◌++◌, Some, None, if◌then◌else◌}
use Rattle.std.specs.Char.{digit_char}
use Rattle.std.specs.List.{flat_map}
use Rattle.jfr_base.specs.Formats.{Exactly}
use Rattle.jfr_layout.specs.Classes.{Classes}
use Rattle.jfr_layout.specs.declared.shape.Shape.{Shape}
use Rattle.jfr_value.specs.Values.{Value, bytes_of, shape_of, Fits}
use Rattle.jfr_value.specs.Reading.{value_format}
use Rattle.jfr_value.specs.Leaves.{leaves_at}
use Rattle.jfr_build.specs.LeafWords.{AreWordsOf, is_coded, unquoted}
use Rattle.jfr_build.specs.Taking.{value_taken, took}

-- A quote and a backslash get a backslash before them; a space, a byte below it, and 127 are \u and their number
-- in four hexadecimal digits, in lower case; every other byte is unchanged.
abbrev pub escaped : ℕ → List ℕ
escaped c =
    if (c == 34) || (c == 92) then 92 ∷ c ∷ []
    else if is_coded c then 92 ∷ 117 ∷ 48 ∷ 48 ∷ digit_char (c / 16) ∷ digit_char (c % 16) ∷ []
    else c ∷ []

-- A text between two quotes.
abbrev pub quoted : List ℕ → List ℕ
quoted text = 34 ∷ (flat_map escaped text ++ 34 ∷ [])

-- The word is a quoted text, and this is the text, exactly if the text between quotes is the word.
abbrev pub UnquotesExactly : List ℕ → List ℕ → Type 0
UnquotesExactly word text = (unquoted word ≡ Some text) ↔ (word ≡ quoted text)

-- The words are those of the leaves of this value, which has the shape.
pub record SpellValue (k : Classes) (s : Shape) (words : List (List ℕ)) (v : Value) : Type 0 where
  pub fits : Fits k v
  pub shape : shape_of v ≡ s
  pub leaves : (at : ℕ) → AreWordsOf words (leaves_at None at v)

-- A value is taken from the words, and none is left, exactly if the words are those of its leaves.
abbrev pub TakesExactly : Classes → Shape → List (List ℕ) → Value → Type 0
TakesExactly k s words v = (value_taken k s words ≡ took v []) ↔ SpellValue k s words v

-- If a value is taken from words, and none is left, its bytes are read as this value.
abbrev pub TakenIsRead : Classes → Shape → List (List ℕ) → Value → Type 0
TakenIsRead k s words v = value_taken k s words ≡ took v [] → Exactly (value_format k s) (bytes_of v) v
