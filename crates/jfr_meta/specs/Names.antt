-- Numbers for the names of fields.
use Rattle.std.specs.Prelude.{◌≡◌, ℕ, List, Option, Some}
use Rattle.std.specs.BTreeMap as tree
use Rattle.std.specs.Ordering.{nat_cmp}
use Rattle.jfr_layout.specs.Names.{value_under}
use Rattle.jfr_meta.specs.declared.names.NameNumbers.{NameNumbers}
use Rattle.jfr_meta.specs.Attributes.{text_at}

-- The number of a text, if it has one.
abbrev pub number_of : NameNumbers → List ℕ → Option ℕ
number_of numbers text = value_under numbers.by_text text

-- The number of a text is the index of a string with this text, and the number kept for an index is that of
-- the string's text.
pub record AreNumbers (texts : List (List ℕ)) (numbers : NameNumbers) : Type 0 where
  pub text : (name : List ℕ) (n : ℕ) → number_of numbers name ≡ Some n → text_at texts n ≡ name
  pub index : (i n : ℕ) → tree.get nat_cmp numbers.by_index i ≡ Some n → number_of numbers (text_at texts i) ≡ Some n

-- The new numbers are right too, and each text that had a number still has it.
pub record Grow (texts : List (List ℕ)) (old new : NameNumbers) : Type 0 where
  pub numbers : AreNumbers texts new
  pub kept : (name : List ℕ) (n : ℕ) → number_of old name ≡ Some n → number_of new name ≡ Some n
