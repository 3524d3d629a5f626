-- The definitions compute: two rings of entries and two events, and strings that are keys.
use Rattle.std.specs.Prelude.{◌≡◌, ℕ, zero, suc, Err, List, [], ◌∷◌, map, option_map, Option, Some, None, refl, true, false, codes}
use Rattle.jfr_base.specs.Formats.{int_at, run}
use Rattle.jfr_base.specs.declared.reason.Reason.TheVariants.{Short, StringKind, InlineDeep}
use Rattle.jfr_layout.specs.Classes.{Class, Classes, Field, kind_of}
use Rattle.jfr_layout.specs.declared.kind.Kind.TheVariants as kinds
use Rattle.jfr_layout.specs.declared.shape.Shape.{Shape}
use Rattle.jfr_text.specs.Strings.{string_format}
use Rattle.jfr_value.specs.declared.node.Step.TheVariants as steps
use Rattle.jfr_value.specs.declared.leaf.LeafKind.{LeafKind}
use Rattle.jfr_value.specs.declared.leaf.LeafKind.TheVariants as leaf_kinds
use Rattle.jfr_value.specs.Values.{Single, Group, Nil, Cons}
use Rattle.jfr_value.specs.Reading.{class_format, value_format}
use Rattle.jfr_value.specs.Nodes.{NodeAt, value_of, children, child, target, targets}
use Rattle.jfr_value.specs.Leaves.{leaves}

abbrev inline : ℕ → Shape
inline id = record { class = id; constant = false; array = false }

abbrev reference : ℕ → Shape
reference id = record { class = id; constant = true; array = false }

abbrev field : List ℕ → Shape → Field
field name shape = record { name = name; shape = shape }

abbrev class : ℕ → List ℕ → List Field → Class
class id name fields = record { id = id; name = name; super_name = None; fields = fields; categories = [] }

-- Long, java.lang.String, t.Node, t.A and t.B.
abbrev classes : Classes
classes =
    class 5 (codes "long") []
    ∷ class 6 (codes "java.lang.String") []
    ∷ class 7 (codes "t.Node") (field (codes "next") (reference 7) ∷ field (codes "text") (inline 6) ∷ [])
    ∷ class 8 (codes "t.A") (field (codes "n") (inline 5) ∷ field (codes "node") (reference 7) ∷ [])
    ∷ class 9 (codes "t.B") (field (codes "node") (reference 7) ∷ [])
    ∷ []

abbrev node : Shape → ℕ → ℕ → NodeAt
node shape at end = record { shape = shape; at = at; end = end }

-- The two events' bodies and the four entries' values, one after another.
abbrev rings : List ℕ
rings = 172 ∷ 2 ∷ 1 ∷ 3 ∷ 2 ∷ 3 ∷ 1 ∷ 112 ∷ 1 ∷ 3 ∷ 1 ∷ 113 ∷ 4 ∷ 3 ∷ 1 ∷ 114 ∷ 3 ∷ 3 ∷ 1 ∷ 115 ∷ []

abbrev event : NodeAt
event = node (inline 8) 0 3

abbrev entries : List NodeAt
entries = node (inline 7) 4 8 ∷ node (inline 7) 8 12 ∷ node (inline 7) 12 16 ∷ node (inline 7) 16 20 ∷ []

event_value : value_of classes rings event ≡ Some (Group (inline 8) [] (Cons (Single (inline 5) (leaf_kinds.Base kinds.Long) (172 ∷ 2 ∷ []) None) (Cons (Single (reference 7) (leaf_kinds.Key 1) (1 ∷ []) (Some 1)) Nil)))
unfolding run int_at class_format value_format string_format kind_of value_of
event_value = refl

event_children : children classes rings event ≡ node (inline 5) 0 2 ∷ node (reference 7) 2 3 ∷ []
unfolding run int_at class_format value_format string_format kind_of value_of
event_children = refl

event_child : child classes rings event (steps.Field 1) ≡ Some (node (reference 7) 2 3)
unfolding run int_at class_format value_format string_format kind_of value_of
event_child = refl

no_third_field : child classes rings event (steps.Field 2) ≡ None
unfolding run int_at class_format value_format string_format kind_of value_of
no_third_field = refl

no_item : child classes rings event (steps.Item 0) ≡ None
unfolding run int_at class_format value_format string_format kind_of value_of
no_item = refl

reference_target : target classes rings (node (reference 7) 2 3) ≡ Some (7, 1)
unfolding run int_at class_format value_format string_format kind_of value_of
reference_target = refl

event_targets : map (targets classes rings) (event ∷ node (inline 9) 3 4 ∷ []) ≡ ((7, 1) ∷ []) ∷ ((7, 3) ∷ []) ∷ []
unfolding run int_at class_format value_format string_format kind_of value_of
event_targets = refl

entry_targets : map (targets classes rings) entries ≡ ((7, 2) ∷ []) ∷ ((7, 1) ∷ []) ∷ ((7, 4) ∷ []) ∷ ((7, 3) ∷ []) ∷ []
unfolding run int_at class_format value_format string_format kind_of value_of
entry_targets = refl

entry_leaves : leaves classes rings (node (inline 7) 4 8) ≡
    record { kind = leaf_kinds.Key 2; class = 7; holder = Some (record { class = 7; field = 0 }); at = 4; spelled = 2 ∷ [] }
    ∷ record { kind = leaf_kinds.Base kinds.Text; class = 6; holder = Some (record { class = 7; field = 1 }); at = 5; spelled = 3 ∷ 1 ∷ 112 ∷ [] }
    ∷ []
unfolding run int_at class_format value_format string_format kind_of value_of
entry_leaves = refl

-- A node whose text is a key, and three entries of strings, of which two are keys.
abbrev strings : List ℕ
strings = 0 ∷ 2 ∷ 1 ∷ 2 ∷ 2 ∷ 2 ∷ 2 ∷ 3 ∷ 1 ∷ 120 ∷ []

string_targets : map (targets classes strings) (node (inline 7) 0 3 ∷ node (inline 6) 3 5 ∷ node (inline 6) 5 7 ∷ node (inline 6) 7 10 ∷ [])
    ≡ ((7, 0) ∷ (6, 1) ∷ []) ∷ ((6, 2) ∷ []) ∷ ((6, 2) ∷ []) ∷ [] ∷ []
unfolding run int_at class_format value_format string_format kind_of value_of
string_targets = refl

string_target : target classes strings (node (inline 6) 1 3) ≡ Some (6, 1)
unfolding run int_at class_format value_format string_format kind_of value_of
string_target = refl

-- A count of 2^40 in seven bytes: the second item is missing.
long_array : run (value_format classes (record { class = 5; constant = false; array = true })) (128 ∷ 128 ∷ 128 ∷ 128 ∷ 128 ∷ 32 ∷ 1 ∷ []) 7 0 ≡ Err (record { offset = 7; reason = Short })
unfolding run int_at class_format value_format string_format kind_of
long_array = refl

-- A string of an unknown kind, after a reference.
unknown_kind : run (value_format classes (inline 7)) (1 ∷ 6 ∷ []) 2 0 ≡ Err (record { offset = 1; reason = StringKind })
unfolding run int_at class_format value_format string_format kind_of
unknown_kind = refl

-- An array of references, in an array of composite values.
abbrev nested : Classes
nested =
    class 1 (codes "t.Outer") (field (codes "inner") (record { class = 2; constant = false; array = true }) ∷ [])
    ∷ class 2 (codes "t.Inner") (field (codes "keys") (record { class = 2; constant = true; array = true }) ∷ field (codes "ratio") (inline 3) ∷ [])
    ∷ class 3 (codes "double") []
    ∷ []

-- Two items: the keys 7 and 8, and none.
abbrev nested_bytes : List ℕ
nested_bytes = 2 ∷ 2 ∷ 7 ∷ 8 ∷ 63 ∷ 240 ∷ 0 ∷ 0 ∷ 0 ∷ 0 ∷ 0 ∷ 0 ∷ 0 ∷ 64 ∷ 0 ∷ 0 ∷ 0 ∷ 0 ∷ 0 ∷ 0 ∷ 0 ∷ []

nested_items : children nested nested_bytes (node (record { class = 2; constant = false; array = true }) 0 21) ≡ node (inline 2) 1 12 ∷ node (inline 2) 12 21 ∷ []
unfolding run int_at class_format value_format string_format kind_of value_of
nested_items = refl

nested_keys : children nested nested_bytes (node (record { class = 2; constant = true; array = true }) 1 4) ≡ node (reference 2) 2 3 ∷ node (reference 2) 3 4 ∷ []
unfolding run int_at class_format value_format string_format kind_of value_of
nested_keys = refl

nested_leaves : map {B = LeafKind × ℕ} (λ l. (l.kind, l.at)) (leaves nested nested_bytes (node (inline 1) 0 21)) ≡
    (leaf_kinds.Count 2, 0) ∷ (leaf_kinds.Count 2, 1) ∷ (leaf_kinds.Key 7, 2) ∷ (leaf_kinds.Key 8, 3) ∷ (leaf_kinds.Base kinds.Double, 4)
    ∷ (leaf_kinds.Count 0, 12) ∷ (leaf_kinds.Base kinds.Double, 13) ∷ []
unfolding run int_at class_format value_format string_format kind_of value_of
nested_leaves = refl

-- Each leaf is in the innermost field around it.
nested_holders : map {B = Option (ℕ × ℕ)} (λ l. option_map {U = ℕ × ℕ} (λ h. (h.class, h.field)) l.holder) (leaves nested nested_bytes (node (inline 1) 0 21)) ≡ Some (1, 0) ∷ Some (2, 0) ∷ Some (2, 0) ∷ Some (2, 0) ∷ Some (2, 1) ∷ Some (2, 0) ∷ Some (2, 1) ∷ []
unfolding run int_at class_format value_format string_format kind_of value_of
nested_holders = refl

-- Values that are in no field.
no_holders : map (λ l. l.holder) (leaves nested nested_bytes (node (record { class = 2; constant = true; array = true }) 1 4)) ≡ None ∷ None ∷ None ∷ []
unfolding run int_at class_format value_format string_format kind_of value_of
no_holders = refl

double_leaf : map (λ l. l.spelled) (leaves nested nested_bytes (node (inline 3) 4 12)) ≡ (63 ∷ 240 ∷ 0 ∷ 0 ∷ 0 ∷ 0 ∷ 0 ∷ 0 ∷ []) ∷ []
unfolding run int_at class_format value_format string_format kind_of value_of
double_leaf = refl

-- So many composite classes, each with the one before it as its only field, and a long.
abbrev chain : ℕ → Classes
chain zero = class 0 (codes "long") [] ∷ []
chain (suc n) = class (suc n) (codes "t.C") (field (codes "f") (inline n) ∷ []) ∷ chain n

deepest : value_of (chain 33) (5 ∷ []) (node (inline 33) 0 1) ≡ None → ⊥
unfolding run int_at class_format value_format string_format kind_of value_of
deepest e = cc

too_deep : run (value_format (chain 34) (inline 34)) (5 ∷ []) 1 0 ≡ Err (record { offset = 0; reason = InlineDeep })
unfolding run int_at class_format value_format string_format kind_of
too_deep = refl
