-- The leaves of a value: the values of base names, the keys of references and the counts of arrays.
use Rattle.std.specs.Prelude.{◌≡◌, ℕ, zero, suc, ◌+◌, List, [], ◌∷◌, ◌++◌, length, Option, Some, None, ◌==◌, option_to_list, if◌then◌else◌}
use Rattle.std.specs.List.{filter_map}
use Rattle.std.specs.Option.{option_map, option_map_or}
use Rattle.jfr_base.specs.Integer.{IsSpellingWithin, worth_within}
use Rattle.jfr_layout.specs.Classes.{Classes}
use Rattle.jfr_layout.specs.declared.kind.Kind.TheVariants as kinds
use Rattle.jfr_layout.specs.declared.shape.Shape.{Shape}
use Rattle.jfr_value.specs.declared.leaf.Holder.{Holder}
use Rattle.jfr_value.specs.declared.leaf.KeyAt.{KeyAt}
use Rattle.jfr_value.specs.declared.leaf.Leaf.{Leaf}
use Rattle.jfr_value.specs.declared.leaf.LeafKind.{LeafKind}
use Rattle.jfr_value.specs.declared.leaf.LeafKind.TheVariants as leaf_kinds
use Rattle.jfr_value.specs.Values.{Value, Values, Single, Group, Nil, Cons, bytes_of}
use Rattle.jfr_value.specs.Nodes.{NodeAt, value_of}

-- A leaf in a chunk: the innermost field around it, its offset, and the bytes that spell it.
pub record LeafAt : Type 0 where
  pub kind : LeafKind
  pub class : ℕ
  pub holder : Option Holder
  pub at : ℕ
  pub spelled : List ℕ

-- A leaf of the code, as a leaf in the chunk.
abbrev pub leaf_of : Leaf → LeafAt
leaf_of l = record { kind = l.kind; class = l.class; holder = l.holder; at = l.at; spelled = l.spelled.now }

-- The holder of each part of a value with this holder: a composite value's parts are its fields; an array's
-- items have the array's holder.
abbrev pub part_holder : Shape → Option Holder → ℕ → Option Holder
part_holder s h = if s.array then (λ n. h) else (λ n. Some (record { class = s.class; field = n }))

-- The leaves of a value with this holder that starts at an offset, from left to right; and those of values one
-- after another, whose holders the function gives by their numbers.
abbrev mutual
  pub leaves_at : Option Holder → ℕ → Value → List LeafAt
  leaves_at holder at (Single s kind b key) = record { kind = kind; class = s.class; holder = holder; at = at; spelled = b } ∷ []
  leaves_at holder at (Group s h vs) = (if s.array then record { kind = leaf_kinds.Count (worth_within 8 h); class = s.class; holder = holder; at = at; spelled = h } ∷ [] else []) ++ leaves_from
      (part_holder s holder) (at + length h) vs

  pub leaves_from : (ℕ → Option Holder) → ℕ → Values → List LeafAt
  leaves_from holders at Nil = []
  leaves_from holders at (Cons v vs) = leaves_at (holders zero) at v ++ leaves_from (λ n. holders (suc n)) (at + length (bytes_of v)) vs

-- The leaves of a node with this holder.
abbrev pub leaves_in : Option Holder → Classes → List ℕ → NodeAt → List LeafAt
leaves_in holder k c n = option_map_or (leaves_at holder n.at) (value_of k c n) []

-- The leaves of a node; those that are in none of its fields have no holder.
abbrev pub leaves : Classes → List ℕ → NodeAt → List LeafAt
leaves k c n = leaves_in None k c n

-- The key of a string that is one: a kind byte 2, and the key.
abbrev pub spelled_key : List ℕ → Option ℕ
spelled_key [] = None
spelled_key (kind ∷ rest) = if kind == 2 then Some (worth_within 8 rest) else None

-- The key of a leaf: a reference has one, and a string may be one.
abbrev pub leaf_key : LeafKind → List ℕ → Option ℕ
leaf_key (leaf_kinds.Key key) spelled = Some key
leaf_key (leaf_kinds.Count n) spelled = None
leaf_key (leaf_kinds.Base kinds.Text) spelled = spelled_key spelled
leaf_key (leaf_kinds.Base kind) spelled = None

-- In a string that is a key, one integer follows the kind byte.
abbrev pub KeyIsSpelled : LeafAt → Type 0
KeyIsSpelled l = l.kind ≡ leaf_kinds.Base kinds.Text → (rest : List ℕ) → l.spelled ≡ 2 ∷ rest → IsSpellingWithin 8 rest

-- Where the integer of a key starts, in a leaf that starts at the offset: in a string after the kind byte.
abbrev pub key_start : LeafKind → ℕ → ℕ
key_start (leaf_kinds.Key key) at = at
key_start (leaf_kinds.Count n) at = at
key_start (leaf_kinds.Base kind) at = at + 1

-- The key of a leaf, and where it is spelled.
abbrev pub key_of_leaf : LeafAt → Option KeyAt
key_of_leaf l = option_map (λ key. record { class = l.class; key = key; at = key_start l.kind l.at; end = l.at + length l.spelled }) (leaf_key l.kind l.spelled)

-- The keys in a node, from left to right.
abbrev pub keys_in : Classes → List ℕ → NodeAt → List KeyAt
keys_in k c n = filter_map key_of_leaf (leaves k c n)

-- The key between two offsets, if there is one.
abbrev pub key_between : ℕ → ℕ → ℕ → Option ℕ → List KeyAt
key_between class at end key = option_to_list (option_map (λ key. record { class = class; key = key; at = at; end = end }) key)

-- The keys in a value that starts at an offset, from left to right; and those in values one after another.
abbrev mutual
  pub keys_at : ℕ → Value → List KeyAt
  keys_at at (Single s kind b key) = key_between s.class (key_start kind at) (at + length b) key
  keys_at at (Group s h vs) = keys_from (at + length h) vs

  pub keys_from : ℕ → Values → List KeyAt
  keys_from at Nil = []
  keys_from at (Cons v vs) = keys_at at v ++ keys_from (at + length (bytes_of v)) vs

-- The class and the key to which a leaf refers, if it does.
abbrev pub leaf_target : LeafAt → Option (ℕ × ℕ)
leaf_target l = option_map (λ key. (l.class, key)) (leaf_key l.kind l.spelled)
