-- Numbers for the strings of two tables.
use Rattle.std.specs.Prelude.{◌≡◌, ◌<◌, ◌≤◌, ℕ, Bool, false, ◌==◌, List, get_or, Option, Some, None}
use Rattle.std.specs.Borrow.{Bor}
use Rattle.std.specs.BTreeMap.{BTreeMap}
use Rattle.std.specs.Str.{bytes_eq}
use Rattle.jfr_layout.specs.Names.{value_under}
use Rattle.jfr_meta.specs.Attributes.{text_at}

-- This is the index of the first string with the text. An index past the end of the table counts as that of an
-- empty string.
pub record IsFirst (texts : List (List ℕ)) (x : List ℕ) (n : ℕ) : Type 0 where
  pub text : text_at texts n ≡ x
  pub first : (i : ℕ) → text_at texts i ≡ x → n ≤ i

-- The number of each text in the map is the index of the first string with this text.
abbrev pub AreIndices : List (List ℕ) → BTreeMap (Bor (List ℕ)) ℕ → Type 0
AreIndices texts firsts = (x : List ℕ) (n : ℕ) → value_under firsts x ≡ Some n → IsFirst texts x n

-- The map has a number for the text of this string.
abbrev pub HasText : List (List ℕ) → BTreeMap (Bor (List ℕ)) ℕ → ℕ → Type 0
HasText texts firsts i = (n : ℕ) × (value_under firsts (text_at texts i) ≡ Some n)

-- The map has the index of the first string with each text of the table, and with the empty text.
pub record AreFirsts (texts : List (List ℕ)) (firsts : BTreeMap (Bor (List ℕ)) ℕ) : Type 0 where
  pub indices : AreIndices texts firsts
  pub each : (i : ℕ) → HasText texts firsts i

-- The map has the same numbers as before, and one for the text of this string. If all strings before it had
-- theirs, a new number is the index of a first string.
pub record AddsText (texts : List (List ℕ)) (i : ℕ) (old new : BTreeMap (Bor (List ℕ)) ℕ) : Type 0 where
  pub indices : ((m : ℕ) → m < i → HasText texts old m) → AreIndices texts old → AreIndices texts new
  pub kept : (x : List ℕ) (n : ℕ) → value_under old x ≡ Some n → value_under new x ≡ Some n
  pub here : HasText texts new i

-- Whether both numbers exist and are equal.
abbrev pub same_number : Option ℕ → Option ℕ → Bool
same_number (Some m) (Some n) = m == n
same_number (Some m) None = false
same_number None o = false

-- A string of the first table and one of the second have the same number exactly if they have the same text.
abbrev pub AreNumbers : List (List ℕ) → List (List ℕ) → List (Option ℕ) → List (Option ℕ) → Option ℕ → Type 0
AreNumbers ones others of_ones of_others of_empty = (i j : ℕ) → same_number (get_or of_ones i of_empty) (get_or of_others j of_empty) ≡ bytes_eq (text_at ones i) (text_at others j)
