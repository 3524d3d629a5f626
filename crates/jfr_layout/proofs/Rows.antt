-- The definitions, computed on small lists of classes.
use Rattle.std.specs.Prelude.{◌≡◌, ℕ, zero, suc, ◌+◌, List, [], ◌∷◌, Some, None, true, false, map, option_map, codes}
use Rattle.std.proofs.Common.{refl}
use Rattle.jfr_base.specs.declared.reason.Reason.TheVariants.{ClassTwice, FieldTwice, UnknownType, EmptyInline, InlineDeep}
use Rattle.jfr_layout.specs.declared.kind.Kind.TheVariants.{Long, Text, Composite}
use Rattle.jfr_layout.specs.declared.shape.Shape.{Shape}
use Rattle.jfr_layout.specs.Classes.{Class, Classes, Field, class_faults, class_index, field_number, find_class, is_event_class, kind_of}

inline : ℕ → Shape
inline id = record { class = id; constant = false; array = false }

items : ℕ → Shape
items id = record { class = id; constant = false; array = true }

reference : ℕ → Shape
reference id = record { class = id; constant = true; array = false }

field : List ℕ → Shape → Field
field name shape = record { name = name; shape = shape }

class : ℕ → List ℕ → List Field → Class
class id name fields = record { id = id; name = name; super_name = None; fields = fields; categories = [] }

event : ℕ → List ℕ → List Field → Class
event id name fields = record { id = id; name = name; super_name = Some (codes "jdk.jfr.Event"); fields = fields; categories = [] }

-- Two numbers, a node that refers to the next, and two events.
rings : Classes
unfolding inline reference field class event
rings =
    class 5 (codes "long") []
    ∷ class 6 (codes "java.lang.String") []
    ∷ class 7 (codes "t.Node") (field (codes "next") (reference 7) ∷ field (codes "text") (inline 6) ∷ [])
    ∷ event 8 (codes "t.A") (field (codes "n") (inline 5) ∷ field (codes "node") (reference 7) ∷ [])
    ∷ event 9 (codes "t.B") (field (codes "node") (reference 7) ∷ [])
    ∷ []

rings_are_sound : class_faults rings ≡ []
unfolding inline reference field class event rings class_faults kind_of
rings_are_sound = refl

rings_indices : map (class_index rings) (5 ∷ 9 ∷ 4 ∷ []) ≡ Some 0 ∷ Some 4 ∷ None ∷ []
unfolding inline reference field class event rings
rings_indices = refl

rings_kinds : map (λ c. kind_of c.name) rings ≡ Long ∷ Text ∷ Composite ∷ Composite ∷ Composite ∷ []
unfolding inline reference field class event rings kind_of
rings_kinds = refl

rings_field : option_map (λ c. field_number c.fields (codes "text")) (find_class rings 7) ≡ Some (Some 1)
unfolding inline reference field class event rings
rings_field = refl

rings_events : map (is_event_class rings) (5 ∷ 7 ∷ 8 ∷ 9 ∷ 10 ∷ []) ≡ false ∷ false ∷ true ∷ true ∷ false ∷ []
unfolding inline reference field class event rings is_event_class kind_of
rings_events = refl

-- Neither a base name nor the ids 0 and 1 make an event class.
no_events : map (is_event_class (event 0 (codes "a") [] ∷ event 1 (codes "b") [] ∷ event 2 (codes "int") [] ∷ event 3 (codes "c") [] ∷ [])) (0 ∷ 1 ∷ 2 ∷ 3 ∷ []) ≡ false ∷ false ∷ false ∷ true ∷ []
unfolding event is_event_class kind_of
no_events = refl

-- One flaw of each kind: the class, the field, the reason.
id_twice : class_faults (class 2 (codes "a") [] ∷ class 3 (codes "b") [] ∷ class 2 (codes "c") [] ∷ []) ≡ record { class = 2; field = None; reason = ClassTwice } ∷ []
unfolding class class_faults kind_of
id_twice = refl

name_twice : class_faults (class 2 (codes "long") [] ∷ class 3 (codes "a") (field (codes "x") (inline 2) ∷ field (codes "y") (inline 2) ∷ field (codes "x") (inline 2) ∷ []) ∷ []) ≡ record { class = 1; field = Some 2; reason = FieldTwice } ∷ []
unfolding inline field class class_faults kind_of
name_twice = refl

not_defined : class_faults (class 2 (codes "long") (field (codes "x") (reference 9) ∷ []) ∷ []) ≡ record { class = 0; field = Some 0; reason = UnknownType } ∷ []
unfolding reference field class class_faults kind_of
not_defined = refl

nothing_inside : class_faults (class 2 (codes "a") [] ∷ class 3 (codes "b") (field (codes "x") (reference 2) ∷ field (codes "y") (items 2) ∷ []) ∷ []) ≡ record { class = 1; field = Some 1; reason = EmptyInline } ∷ []
unfolding items reference field class class_faults kind_of
nothing_inside = refl

-- A class whose values hold arrays of its own values.
within_itself : class_faults (class 2 (codes "a") (field (codes "x") (items 2) ∷ []) ∷ []) ≡ record { class = 0; field = None; reason = InlineDeep } ∷ []
unfolding items field class class_faults kind_of
within_itself = refl

-- Two classes of one base name, each with its own id, and a base name inside itself.
base_names : class_faults (class 2 (codes "int") (field (codes "x") (inline 2) ∷ []) ∷ class 3 (codes "int") [] ∷ []) ≡ []
unfolding inline field class class_faults kind_of
base_names = refl

-- A later repeat is reported before an earlier field whose class isn't defined.
first_told : map (λ f. f.reason) (class_faults (class 2 (codes "a") (field (codes "x") (inline 9) ∷ []) ∷ class 2 (codes "b") [] ∷ [])) ≡ ClassTwice ∷ UnknownType ∷ []
unfolding inline field class class_faults kind_of
first_told = refl

-- So many classes, each with a field of the next, and a number at the end.
chain : ℕ → ℕ → Classes
unfolding inline field class
chain zero id = class id (codes "long") [] ∷ []
chain (suc n) id = class id (codes "c") (field (codes "x") (inline (id + 1)) ∷ []) ∷ chain n (id + 1)

chain_of_32_steps : class_faults (chain 33 2) ≡ []
unfolding inline field class chain class_faults kind_of
chain_of_32_steps = refl

chain_of_33_steps : class_faults (chain 34 2) ≡ record { class = 0; field = None; reason = InlineDeep } ∷ []
unfolding inline field class chain class_faults kind_of
chain_of_33_steps = refl
