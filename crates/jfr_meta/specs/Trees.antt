-- The tree of elements: each has the offset of its first byte, the index of its name, its attributes and
-- its children.
use Rattle.std.specs.Prelude.{◌≡◌, ℕ, suc, ◌+◌, ◌≤◌, List, [], ◌∷◌, refl}
use Rattle.std.specs.Coded.{Coded, coded_ℕ, coded_list, coded×}
use base.Stored.{Gv, gnum, gcons, gnil}
use Rattle.std.proofs.Common.{ap, subst, sym, arith, ◌*◌}
use denote.Param.Weighed.{most}

mutual
  pub data Tree : Type 0 where
    Node : (place name : ℕ) (pairs : List (ℕ × ℕ)) (children : Trees) → Tree

  pub data Trees : Type 0 where
    Nil : Trees
    Cons : Tree → Trees → Trees

-- The list of these elements.
abbrev pub list_of : Trees → List Tree
list_of Nil = []
list_of (Cons t ts) = t ∷ list_of ts

-- The elements in a list.
abbrev pub trees_of : List Tree → Trees
trees_of [] = Nil
trees_of (t ∷ ts) = Cons t (trees_of ts)

-- The offset in the chunk at which the element starts.
abbrev pub element_offset : Tree → ℕ
element_offset (Node place name pairs children) = place

-- The index of the element's name in the table of strings.
abbrev pub name_of : Tree → ℕ
name_of (Node place name pairs children) = name

-- The element's attributes: the index of each key and of its value.
abbrev pub pairs_of : Tree → List (ℕ × ℕ)
pairs_of (Node place name pairs children) = pairs

-- The element's children, in order.
abbrev pub children_of : Tree → List Tree
children_of (Node place name pairs children) = list_of children

-- The element with these parts.
abbrev pub tree : ℕ → ℕ → List (ℕ × ℕ) → List Tree → Tree
tree place name pairs children = Node place name pairs (trees_of children)

-- The number of elements in a tree, with its root.
abbrev mutual
  pub count : Tree → ℕ
  count (Node place name pairs children) = suc (counts children)

  pub counts : Trees → ℕ
  counts Nil = 0
  counts (Cons t ts) = count t + counts ts

-- The number of elements in all trees of a list.
abbrev pub counts_of : List Tree → ℕ
counts_of [] = 0
counts_of (t ∷ ts) = count t + counts_of ts

-- A code by which a proof distinguishes trees.
abbrev num : Gv → ℕ
num gnil = 0
num (gnum n) = n
num (gcons a b) = 0

abbrev head : Gv → Gv
head gnil = gnil
head (gnum n) = gnil
head (gcons a b) = a

abbrev tail : Gv → Gv
tail gnil = gnil
tail (gnum n) = gnil
tail (gcons a b) = b

abbrev IsCons : Gv → Type 0
IsCons gnil = ⊥
IsCons (gnum n) = ⊥
IsCons (gcons a b) = Unit {0}

abbrev pub pairs_code : Coded (List (ℕ × ℕ))
pairs_code = coded_list (coded× coded_ℕ coded_ℕ)

abbrev mutual
  pub code : Tree → Gv
  code (Node place name pairs children) = gcons (gnum place) (gcons (gnum name) (gcons (pairs_code.code pairs) (codes children)))

  pub codes : Trees → Gv
  codes Nil = gnil
  codes (Cons t ts) = gcons (code t) (codes ts)

node_path : (p q n m : ℕ) (ps qs : List (ℕ × ℕ)) (ts us : Trees) → p ≡ q → n ≡ m → ps ≡ qs → ts ≡ us → Node p n ps ts ≡ Node q m qs us
node_path p q n m ps qs ts us a b c d = λ i. Node (a i) (b i) (c i) (d i)

mutual
  pub code_inj : (t u : Tree) → code t ≡ code u → t ≡ u
  code_inj (Node p n ps ts) (Node q m qs us) e =
      node_path p q n m ps qs ts us (ap (λ g. num (head g)) e) (ap (λ g. num (head (tail g))) e) (pairs_code.inj ps qs (ap (λ g. head (tail (tail g))) e))
      (codes_inj ts us (ap (λ g. tail (tail (tail g))) e))

  pub codes_inj : (ts us : Trees) → codes ts ≡ codes us → ts ≡ us
  codes_inj Nil Nil e = refl
  codes_inj Nil (Cons u us) e = absurd (subst IsCons (sym e) tt)
  codes_inj (Cons t ts) Nil e = absurd (subst IsCons e tt)
  codes_inj (Cons t ts) (Cons u us) e = λ i. Cons (code_inj t u (ap head e) i) (codes_inj ts us (ap tail e) i)

abbrev pub tree_code : Coded Tree
tree_code = record { code = code; inj = code_inj }

abbrev pub forest_code : Coded (List Tree)
forest_code = coded_list tree_code

-- What the models of `Element` and `Elements` need: a child is smaller than its parent, and turning a list
-- into elements and back gives the same list.
pub counts-trees_of : (ts : List Tree) → counts (trees_of ts) ≡ counts_of ts
counts-trees_of [] = refl
counts-trees_of (t ∷ ts) = ap (λ n. count t + n) (counts-trees_of ts)

pub list_of-trees_of : (ts : List Tree) → list_of (trees_of ts) ≡ ts
list_of-trees_of [] = refl
list_of-trees_of (t ∷ ts) = ap (λ z. t ∷ z) (list_of-trees_of ts)

pub most_le : (ts : List Tree) → most (λ t. 2 * count t + 1) ts ≤ 2 * counts_of ts + 1
most_le [] = omega arith
most_le (t ∷ ts) = omega (arith, most_le ts)
