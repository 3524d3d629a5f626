-- The body of a metadata record: three integers, the number of strings, the strings, and one element.
use Rattle.std.specs.Prelude.{◌≡◌, ℕ, zero, suc, ◌-◌, ◌<◌, false, List, [], ◌∷◌, length, Option, Some, None, nat_lt, unwrap_or, if◌then◌else◌}
use Rattle.jfr_base.specs.declared.reason.Reason.{Reason}
use Rattle.jfr_base.specs.declared.reason.Reason.TheVariants.{StringIndex, TreeDeep}
use Rattle.jfr_base.specs.Integer.{IntAt}
use Rattle.jfr_base.specs.Formats.{Format, Done, Stop, Int, Here, Refuse, ◌>>=◌, times, integer}
use Rattle.jfr_text.specs.Strings.{Content, string_format}
use Rattle.jfr_text.specs.Strings as strings
use Rattle.jfr_meta.specs.Trees.{Tree, Node, Trees, Nil, Cons, tree}

-- The contents of a body. The texts of the strings are lists of characters.
pub record Body : Type 0 where
  pub start : ℕ
  pub duration : ℕ
  pub id : ℕ
  pub strings : List (List ℕ)
  pub root : Tree

-- The text of a string of the table: that of a null string is empty.
abbrev pub table_text : Content → List ℕ
table_text s = unwrap_or (strings.text_of s) []

-- The format of a string of the table, read as its text. It can't be a key.
abbrev pub table_string : Format (List ℕ)
table_string = string_format false >>= λ s. Done (table_text s)

-- An index into the table of strings is refused unless it is below their number.
abbrev pub index_check : ℕ → ℕ → Option Reason
index_check limit v = if nat_lt v limit then None else Some StringIndex

-- The format of an index into a table with this number of strings.
abbrev pub index : ℕ → Format ℕ
index limit = Int (index_check limit) (λ v s. Done v)

-- The format of an attribute: the index of its key, and the index of its value.
abbrev pub pair : ℕ → Format (ℕ × ℕ)
pair limit = index limit >>= λ key. index limit >>= λ value. Done (key, value)

-- The format of an element with at most this number of levels: its name, the number of its attributes and the
-- attributes, the number of its children and the children.
unfoldable pub element_format : ℕ → ℕ → Format Tree
element_format zero limit = Refuse TreeDeep
element_format (suc levels) limit =
    Here λ at. index limit >>= λ name. integer >>= λ n. times n (pair limit) >>= λ pairs. integer >>= λ m.
    times m (element_format levels limit) >>= λ children. Done (tree at name pairs children)

-- The format of the body, without its end.
unfoldable pub body_format : Format Body
body_format =
    integer >>= λ start. integer >>= λ duration. integer >>= λ id. integer >>= λ n. times n table_string >>= λ strings.
    element_format 16 n >>= λ root. Done (record { start = start; duration = duration; id = id; strings = strings; root = root })

-- The format of the body, which nothing may follow.
unfoldable pub meta_format : Format Body
meta_format = body_format >>= λ b. Stop (Done b)

-- The bytes of x from p up to q spell these attributes, whose indices are below the limit.
abbrev pub ArePairs : List ℕ → ℕ → ℕ → ℕ → List (ℕ × ℕ) → Type 0
ArePairs x limit p q [] = q ≡ p
ArePairs x limit p q (a ∷ rest) =
    (m n : ℕ) × IntAt x p m a.0 × (a.0 < limit) × IntAt x m n a.1 × (a.1 < limit) × ArePairs x limit n q rest

-- The number of elements in a list, without those inside them.
abbrev pub how_many : Trees → ℕ
how_many Nil = 0
how_many (Cons t ts) = suc (how_many ts)

-- The bytes of x from p up to q spell this element, with at most this number of levels; by cases on its tree.
abbrev mutual
  pub IsElement : List ℕ → ℕ → ℕ → ℕ → ℕ → Tree → Type 0
  IsElement x limit levels p q (Node place name pairs children) =
      (place ≡ p) × (0 < levels) × (a b c d : ℕ) × IntAt x p a name × (name < limit) × IntAt x a b (length pairs)
      × ArePairs x limit b c pairs × IntAt x c d (how_many children) × AreElements x limit (levels - 1) d q children

  pub AreElements : List ℕ → ℕ → ℕ → ℕ → ℕ → Trees → Type 0
  AreElements x limit levels p q Nil = q ≡ p
  AreElements x limit levels p q (Cons t ts) = (m : ℕ) × IsElement x limit levels p m t × AreElements x limit levels m q ts
