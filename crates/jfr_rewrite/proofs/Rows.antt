-- The definitions compute: the fewest bytes of a size, and a value in which the strings of one field are changed.
use Rattle.std.specs.Prelude.{◌≡◌, ℕ, ◌&&◌, ◌==◌, Bool, false, true, List, [], ◌∷◌, map, Option, None, refl, if◌then◌else◌}
use Rattle.std.specs.Option.{option_map_or}
use Rattle.jfr_layout.specs.declared.kind.Kind.TheVariants as kinds
use Rattle.jfr_layout.specs.declared.shape.Shape.{Shape}
use Rattle.jfr_value.specs.declared.leaf.Holder.{Holder}
use Rattle.jfr_value.specs.declared.leaf.LeafKind.TheVariants as leaf_kinds
use Rattle.jfr_value.specs.Leaves.{leaves_at}
use Rattle.jfr_value.specs.Values.{Value, Single, Group, Nil, Cons, bytes_of}
use Rattle.jfr_rewrite.specs.Changed.{Change, Content, changed, changed_leaf, plain}
use Rattle.jfr_rewrite.specs.Rewrite.{fewest}

-- With one byte for its size a record has at most 127 bytes, with two 16383, with three 2097151, with four
-- 268435455.
widths : map fewest (0 ∷ 126 ∷ 127 ∷ 16381 ∷ 16382 ∷ 2097148 ∷ 2097149 ∷ 268435451 ∷ 268435452 ∷ []) ≡ 1 ∷ 1 ∷ 2 ∷ 2 ∷ 3 ∷ 3 ∷ 4 ∷ 4 ∷ 5 ∷ []
widths = refl

abbrev inline : ℕ → Shape
inline id = record { class = id; constant = false; array = false }

abbrev text : ℕ → Value
text c = Single (inline 6) (leaf_kinds.Base kinds.Text) (3 ∷ 1 ∷ c ∷ []) None

-- A value of class 8: a string, an array of two strings, and a value of class 7 with two strings.
abbrev value : Value
value =
    Group (inline 8) []
    (Cons (text 112)
    (Cons (Group (record { class = 6; constant = false; array = true }) (2 ∷ []) (Cons (text 113) (Cons (text 114) Nil)))
    (Cons (Group (inline 7) [] (Cons (text 115) (Cons (text 116) Nil))) Nil)))

abbrev is_held : ℕ → ℕ → Option Holder → Bool
is_held class field h = option_map_or (λ (h : Holder). (h.class == class) && (h.field == field)) h false

-- The strings in this field become empty ones.
abbrev emptied : ℕ → ℕ → Change
emptied class field h s p = if is_held class field h then plain p.kind (1 ∷ []) None else p

-- The items of the array are in its field; the strings of the inner value are in fields of its own class.
array_emptied : bytes_of (changed (emptied 8 1) None value) ≡ 3 ∷ 1 ∷ 112 ∷ 2 ∷ 1 ∷ 1 ∷ 3 ∷ 1 ∷ 115 ∷ 3 ∷ 1 ∷ 116 ∷ []
array_emptied = refl

inner_emptied : bytes_of (changed (emptied 7 1) None value) ≡ 3 ∷ 1 ∷ 112 ∷ 2 ∷ 3 ∷ 1 ∷ 113 ∷ 3 ∷ 1 ∷ 114 ∷ 3 ∷ 1 ∷ 115 ∷ 1 ∷ []
inner_emptied = refl

abbrev string_leaf : List ℕ → Content
string_leaf spelled = record { kind = leaf_kinds.Base kinds.Text; class = 6; spelled = spelled }

leaves_emptied : map (changed_leaf (emptied 8 1)) (leaves_at None 0 value)
    ≡ string_leaf (3 ∷ 1 ∷ 112 ∷ []) ∷ record { kind = leaf_kinds.Count 2; class = 6; spelled = 2 ∷ [] } ∷ string_leaf (1 ∷ []) ∷ string_leaf (1 ∷ [])
    ∷ string_leaf (3 ∷ 1 ∷ 115 ∷ []) ∷ string_leaf (3 ∷ 1 ∷ 116 ∷ []) ∷ []
leaves_emptied = refl
