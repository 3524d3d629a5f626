-- A new table of strings, built from the strings of an old one.
use Rattle.std.specs.Prelude.{◌≡◌, ℕ, Bool, true, false, List, [], ◌∷◌, ◌++◌, map, slice_get, Some, None, if◌then◌else◌}
use Rattle.std.specs.List.{list_any}
use Rattle.std.specs.Str.{bytes_eq}
use Rattle.jfr_layout.specs.Names.{value_under}
use Rattle.jfr_meta.specs.declared.tabling.NewTable.{NewTable}
use Rattle.jfr_meta.specs.Attributes.{text_at}
use Rattle.jfr_meta.specs.Slimmed.{index_in}

-- Whether the text is in the table.
abbrev pub has_text : List (List ℕ) → List ℕ → Bool
has_text table x = list_any (λ t. bytes_eq t x) table

-- The table with the text added at its end, unless it is there already.
abbrev pub with_text : List (List ℕ) → List ℕ → List (List ℕ)
with_text table x = if has_text table x then table else table ++ x ∷ []

-- The table with these texts added, one after another.
abbrev pub added : List (List ℕ) → List (List ℕ) → List (List ℕ)
added table [] = table
added table (x ∷ xs) = added (with_text table x) xs

-- The index, in the new table, of the string with this index in the old one.
abbrev pub number_in : List (List ℕ) → List (List ℕ) → ℕ → ℕ
number_in table texts i = index_in table (text_at texts i)

-- The index kept for a text is its index in the table, and each text of the table has one; the index kept for
-- a string of the old table is that of its text.
pub record IsTable (texts : List (List ℕ)) (t : NewTable) : Type 0 where
  pub text : (x : List ℕ) (n : ℕ) → value_under t.by_text x ≡ Some n → (index_in t.words x ≡ n) × (has_text t.words x ≡ true)
  pub lacks : (x : List ℕ) → value_under t.by_text x ≡ None → has_text t.words x ≡ false
  pub index : (i n : ℕ) → slice_get t.numbers.items i ≡ Some (Some n) → (number_in t.words texts i ≡ n) × (has_text t.words (text_at texts i) ≡ true)

-- The new table is the old one with the texts of these strings added.
pub record Tabled (texts : List (List ℕ)) (is : List ℕ) (old new : NewTable) : Type 0 where
  pub words : new.words ≡ added old.words (map (text_at texts) is)
  pub table : IsTable texts new
