-- The bytes of a metadata record that is written.
use Rattle.std.specs.Prelude.{◌≡◌, ℕ, suc, ◌+◌, ◌<◌, max, min, List, [], ◌∷◌, ◌++◌, length, Ok}
use Rattle.std.specs.List.{flat_map, AllByRecursion}
use Rattle.std.specs.Str.{chars, encode_utf8_all, IsUtf8}
use Rattle.jfr_base.specs.Integer.{spell, spell_in}
use Rattle.jfr_base.specs.Formats.{Reads}
use Rattle.jfr_frame.specs.declared.framed.Framed.{Framed}
use Rattle.jfr_frame.specs.Records.{IsRecord}
use Rattle.jfr_meta.specs.Trees.{Tree, Node, Trees, Nil, Cons}
use Rattle.jfr_layout.specs.Classes.{Classes}
use Rattle.jfr_meta.specs.Described.{described}
use Rattle.jfr_meta.specs.Body.{meta_format, how_many}

-- The list is the characters of some text in UTF-8.
abbrev pub IsText : List ℕ → Type 0
IsText cs = (bytes : List ℕ) × IsUtf8 bytes × (chars bytes ≡ cs)

-- A text: kind 3, its length and its bytes; or only kind 1 if it is empty.
abbrev pub text_bytes : List ℕ → List ℕ
text_bytes [] = 1 ∷ []
text_bytes (c ∷ cs) = 3 ∷ (spell (length (encode_utf8_all (c ∷ cs))) ++ encode_utf8_all (c ∷ cs))

-- An attribute: the two indices.
abbrev pub pair_bytes : ℕ × ℕ → List ℕ
pair_bytes p = spell p.0 ++ spell p.1

-- An element: its name, the number of its attributes and the attributes, the number of its children and the
-- children.
abbrev mutual
  pub tree_bytes : Tree → List ℕ
  tree_bytes (Node place name pairs children) =
      spell name ++ (spell (length pairs) ++ (flat_map pair_bytes pairs ++ (spell (how_many children) ++ trees_bytes children)))

  pub trees_bytes : Trees → List ℕ
  trees_bytes Nil = []
  trees_bytes (Cons t ts) = tree_bytes t ++ trees_bytes ts

-- The strings and the tree, without the number of strings.
abbrev pub table_bytes : List (List ℕ) → Tree → List ℕ
table_bytes strings root = flat_map text_bytes strings ++ tree_bytes root

-- The number, but at most the largest number of 64 bits.
abbrev pub capped : ℕ → ℕ
capped n = min n 18446744073709551615

-- The body: the start, the duration, the id, the number of strings, the strings, and the tree.
abbrev pub body_bytes : ℕ → ℕ → ℕ → List (List ℕ) → Tree → List ℕ
body_bytes start duration id strings root = spell start ++ (spell duration ++ (spell id ++ (spell (length strings) ++ table_bytes strings root)))

-- The record: its size in five bytes, its type, its body.
abbrev pub record_bytes : ℕ → ℕ → ℕ → List (List ℕ) → Tree → List ℕ
record_bytes start duration id strings root = spell_in 5 (6 + length (body_bytes start duration id strings root)) ++ (0 ∷ body_bytes start duration id strings root)

-- What precedes the tree in a record of this size.
abbrev pub opening_bytes : ℕ → ℕ → ℕ → ℕ → List (List ℕ) → List ℕ
opening_bytes size start duration id strings = spell_in 5 size ++ (0 ∷ (spell start ++ (spell duration ++ (spell id ++ (spell (length strings) ++ flat_map text_bytes strings)))))

-- The number of levels of a tree.
abbrev mutual
  pub depth : Tree → ℕ
  depth (Node place name pairs children) = suc (depths children)

  pub depths : Trees → ℕ
  depths Nil = 0
  depths (Cons t ts) = max (depth t) (depths ts)

-- Every index in the tree is below a limit.
abbrev mutual
  pub HasIndices : ℕ → Tree → Type 0
  HasIndices limit (Node place name pairs children) = (name < limit) × AllByRecursion (λ p. (p.0 < limit) × (p.1 < limit)) pairs × HaveIndices limit children

  pub HaveIndices : ℕ → Trees → Type 0
  HaveIndices limit Nil = Unit {0}
  HaveIndices limit (Cons t ts) = HasIndices limit t × HaveIndices limit ts

-- The tree with 0 in place of each offset.
abbrev mutual
  pub bare : Tree → Tree
  bare (Node place name pairs children) = Node 0 name pairs (bares children)

  pub bares : Trees → Trees
  bares Nil = Nil
  bares (Cons t ts) = Cons (bare t) (bares ts)

-- The bytes are a metadata record. Reading it gives the same integers, strings and tree, except for the
-- offsets of the elements, and it describes the same classes.
pub record ReadsBack (x : List ℕ) (start duration id : ℕ) (strings : List (List ℕ)) (root : Tree) : Type 0 where
  pub frame : Framed
  pub first : frame.at ≡ 0
  pub whole : frame.size ≡ length x
  pub type_zero : frame.type_id ≡ 0
  pub is_record : IsRecord x frame
  pub tree : Tree
  pub same : bare tree ≡ bare root
  pub body : Reads meta_format x (length x) frame.body (record { start = start; duration = duration; id = id; strings = strings; root = tree }) (length x)
  pub classes : (k : Classes) → described (record { start = start; duration = duration; id = id; strings = strings; root = root }) ≡ Ok k
      → described (record { start = start; duration = duration; id = id; strings = strings; root = tree }) ≡ Ok k
