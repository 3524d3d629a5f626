-- The metadata record with only the class elements of a set of ids, and a table of only the strings that it
-- uses.
use Rattle.std.specs.Prelude.{◌≡◌, ℕ, suc, ◌+◌, ◌^◌, ◌≤◌, Bool, false, not, ◌&&◌, ◌||◌, nat_lt, nat_le, List, [], ◌∷◌, ◌++◌, length, map, filter, Option, Some, None, Ok, if◌then◌else◌, codes}
use Rattle.std.specs.List.{flat_map, AllByRecursion}
use Rattle.std.specs.Option.{option_map_or}
use Rattle.std.specs.Str.{bytes_eq}
use Rattle.jfr_base.specs.Integer.{spell_in}
use Rattle.jfr_layout.specs.Classes.{Classes}
use Rattle.jfr_meta.specs.Trees.{Tree, Node, Trees, Nil, Cons, element_offset, name_of, pairs_of, children_of, tree}
use Rattle.jfr_meta.specs.Attributes.{text_at}
use Rattle.jfr_meta.specs.Body.{Body}
use Rattle.jfr_meta.specs.Described.{class_head, described}
use Rattle.jfr_meta.specs.Written.{IsText, HasIndices, depth, body_bytes, table_bytes}
use Rattle.jfr_layout.specs.Staying.{staying}

-- The element with these children in place of its own.
abbrev pub with_children : List Tree → Tree → Tree
with_children ts t = tree (element_offset t) (name_of t) (pairs_of t) ts

-- Whether this is the name of the element.
abbrev pub is_named : List (List ℕ) → List ℕ → Tree → Bool
is_named texts name t = bytes_eq (text_at texts (name_of t)) name

-- Whether the id of a class element is in the set.
abbrev pub head_is_needed : List (List ℕ) → (ℕ → Bool) → Tree → Bool
head_is_needed texts stays t = option_map_or (λ h. stays h.0) (class_head texts t) false

-- Whether the element is needed: it isn't a class element, or its id is in the set.
abbrev pub element_is_needed : List (List ℕ) → (ℕ → Bool) → Tree → Bool
element_is_needed texts stays t = not (is_named texts (codes "class") t) || head_is_needed texts stays t

-- The list with its first member that passes the test replaced.
abbrev pub first_changed : {A : Type 0} → (A → Bool) → (A → A) → List A → List A
first_changed p f [] = []
first_changed p f (x ∷ xs) = if p x then f x ∷ xs else x ∷ first_changed p f xs

-- The element that holds the class elements, with only the needed children.
abbrev pub slim_holder : List (List ℕ) → (ℕ → Bool) → Tree → Tree
slim_holder texts stays t = with_children (filter (element_is_needed texts stays) (children_of t)) t

-- A child of the root. If it is the first element named metadata, it has only the needed children; else it is
-- unchanged.
abbrev pub slim_unless : Bool → List (List ℕ) → (ℕ → Bool) → Tree → Tree
slim_unless found texts stays t = if not found && is_named texts (codes "metadata") t then slim_holder texts stays t else t

-- The tree with only the needed class elements.
unfoldable pub slim_root : List (List ℕ) → (ℕ → Bool) → Tree → Tree
slim_root texts stays root = with_children (first_changed (is_named texts (codes "metadata")) (slim_holder texts stays) (children_of root)) root

-- The indices that a tree uses, in order: those of an element's name, of its attributes, key before value,
-- then those of its children.
abbrev mutual
  pub uses : Tree → List ℕ
  uses (Node place name pairs children) = name ∷ (flat_map (λ p. p.0 ∷ p.1 ∷ []) pairs ++ all_uses children)

  pub all_uses : Trees → List ℕ
  all_uses Nil = []
  all_uses (Cons t ts) = uses t ++ all_uses ts

-- The texts without repeats: of equal ones only the first is left.
abbrev pub firsts : List (List ℕ) → List (List ℕ)
firsts [] = []
firsts (x ∷ xs) = x ∷ filter (λ y. not (bytes_eq x y)) (firsts xs)

-- The texts that a tree uses, each once, in the order of their first use.
unfoldable pub table_of : List (List ℕ) → Tree → List (List ℕ)
table_of texts t = firsts (map (text_at texts) (uses t))

-- The index of the first equal text in a table; its length if there is none.
abbrev pub index_in : List (List ℕ) → List ℕ → ℕ
index_in [] text = 0
index_in (t ∷ ts) text = if bytes_eq t text then 0 else suc (index_in ts text)

-- The tree with each index replaced by another.
abbrev mutual
  pub renumbered : (ℕ → ℕ) → Tree → Tree
  renumbered f (Node place name pairs children) = Node place (f name) (map (λ p. (f p.0, f p.1)) pairs) (all_renumbered f children)

  pub all_renumbered : (ℕ → ℕ) → Trees → Trees
  all_renumbered f Nil = Nil
  all_renumbered f (Cons t ts) = Cons (renumbered f t) (all_renumbered f ts)

-- The tree with indices into the table of only the texts that it uses.
unfoldable pub retabled : List (List ℕ) → Tree → Tree
retabled texts t = renumbered (λ i. index_in (table_of texts t) (text_at texts i)) t

-- The body with only the needed class elements, and a table of only the strings that they use.
unfoldable pub slim_body : Body → (ℕ → Bool) → Body
slim_body b stays =
    let t = slim_root b.strings stays b.root in
    record { start = b.start; duration = b.duration; id = b.id; strings = table_of b.strings t; root = retabled b.strings t }

-- The record with this body: its size in five bytes, its type, the body.
abbrev pub bytes_of_body : Body → List ℕ
bytes_of_body b = let body = body_bytes b.start b.duration b.id b.strings b.root in spell_in 5 (6 + length body) ++ (0 ∷ body)

-- The length of the strings and the tree of a body.
abbrev pub table_len : Body → ℕ
table_len b = length (table_bytes b.strings b.root)

-- The smaller body describes exactly the classes in the set, and can be written.
pub record IsSlim (b : Body) (k : Classes) (stays : ℕ → Bool) : Type 0 where
  pub classes : described (slim_body b stays) ≡ Ok (staying stays k)
  pub indices : HasIndices (length (slim_body b stays).strings) (slim_body b stays).root
  pub levels : depth (slim_body b stays).root ≤ depth b.root
  pub texts : AllByRecursion IsText b.strings → AllByRecursion IsText (slim_body b stays).strings

-- The record with only the needed class elements, if its strings and tree take fewer than 2 ^ 29 bytes, and
-- the record at most `room` bytes.
unfoldable pub slim_in : Body → (ℕ → Bool) → ℕ → Option (List ℕ)
slim_in b stays room = if nat_lt (table_len (slim_body b stays)) (2 ^ 29) && nat_le (length (bytes_of_body (slim_body b stays))) room then Some (bytes_of_body (slim_body b stays)) else None
