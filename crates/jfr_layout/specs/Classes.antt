-- Classes, their kinds, and what makes a list of them sound.
use Rattle.std.specs.Prelude.{◌≡◌, ℕ, zero, suc, Bool, true, false, not, ◌&&◌, ◌==◌, List, [], ◌∷◌, length, Option, Some, None, Result, Ok, Err, is_some, if◌then◌else◌, find, position, take, option_and_then, option_map, codes, slice_get, map, ◌++◌, ⊤, nat_lt}
use Rattle.std.specs.List.{AllByRecursion, list_any, flat_map, enumerate_from}
use Rattle.std.specs.Option.{option_map_or}
use Rattle.std.specs.Str.{bytes_eq}
use Rattle.jfr_base.specs.declared.reason.Reason.{Reason}
use Rattle.jfr_base.specs.declared.reason.Reason.TheVariants.{ClassTwice, FieldTwice, UnknownType, EmptyInline, InlineDeep}
use Rattle.jfr_layout.specs.declared.kind.Kind.{Kind}
use Rattle.jfr_layout.specs.declared.kind.Kind.TheVariants.{Boolean, Byte, Char, Short, Int, Long, Float, Double, Text, Composite}
use Rattle.jfr_layout.specs.declared.form.Form.{Form}
use Rattle.jfr_layout.specs.declared.form.Form.TheVariants as forms
use Rattle.jfr_layout.specs.declared.shape.Shape.{Shape}
use Rattle.jfr_layout.specs.declared.field_layout.FieldLayout.{FieldLayout}
use Rattle.jfr_layout.specs.declared.fault.ClassFault.{ClassFault}
use Rattle.jfr_layout.specs.declared.fault.ClassFault.TheVariants.{Flawed, Memory}
use Rattle.jfr_layout.specs.declared.class.ClassInfo.{ClassInfo}
use Rattle.jfr_layout.specs.declared.class.FieldInfo.{FieldInfo}

-- A class, a field and a list of classes as the code declares them: a text is the list of its characters.
abbrev pub Class : Type 0
Class = ClassInfo

abbrev pub Field : Type 0
Field = FieldInfo

abbrev pub Classes : Type 0
Classes = List Class

-- The class with this id, if there is one.
abbrev pub find_class : Classes → ℕ → Option Class
find_class k id = find (λ c. c.id == id) k

-- The index in the list of the class with this id, if there is one.
abbrev pub class_index : Classes → ℕ → Option ℕ
class_index k id = position (λ c. c.id == id) k

-- The field with this number of the class with this index, if there is one.
abbrev pub field_at : Classes → ℕ → ℕ → Option Field
field_at k index number = option_and_then (λ c. slice_get c.fields number) (slice_get k index)

-- The number of the field with this name, if there is one.
abbrev pub field_number : List Field → List ℕ → Option ℕ
field_number fs name = position (λ f. bytes_eq f.name name) fs

-- Nine names are base names; a class of any other name is composite.
unfoldable pub kind_of : List ℕ → Kind
kind_of name =
    if bytes_eq name (codes "boolean") then Boolean
    else if bytes_eq name (codes "byte") then Byte
    else if bytes_eq name (codes "char") then Char
    else if bytes_eq name (codes "short") then Short
    else if bytes_eq name (codes "int") then Int
    else if bytes_eq name (codes "long") then Long
    else if bytes_eq name (codes "float") then Float
    else if bytes_eq name (codes "double") then Double
    else if bytes_eq name (codes "java.lang.String") then Text
    else Composite

-- How an inline value of this kind is spelled.
abbrev pub inline_form : Kind → Form
inline_form Boolean = forms.Raw 1
inline_form Byte = forms.Raw 1
inline_form Char = forms.Integer
inline_form Short = forms.Integer
inline_form Int = forms.Integer
inline_form Long = forms.Integer
inline_form Float = forms.Raw 4
inline_form Double = forms.Raw 8
inline_form Text = forms.Text
inline_form Composite = forms.Fields

-- How a value of this shape is spelled, if its class is of this kind: by the array mark first, then by the
-- constant mark.
abbrev pub form_of : Shape → Kind → Form
form_of s kind = if s.array then forms.Array else if s.constant then forms.Key else inline_form kind

-- The layout of this shape, if its class has this index and this kind.
abbrev pub layout_with : Shape → ℕ → Kind → FieldLayout
layout_with s index kind = record { shape = s; class_index = index; kind = kind; form = form_of s kind }

-- The kind is not one of the nine base kinds.
abbrev pub is_composite : Kind → Bool
is_composite Composite = true
is_composite _ = false

-- The class is composite and has the super type of events.
abbrev pub extends_event : Class → Bool
extends_event c = is_composite (kind_of c.name) && option_map_or (λ n. bytes_eq n (codes "jdk.jfr.Event")) c.super_name false

-- An event class is composite, has the super type of events, and has an id that is neither 0 nor 1.
unfoldable pub is_event_class : Classes → ℕ → Bool
is_event_class k id = nat_lt 1 id && option_map_or extends_event (find_class k id) false

-- The layout has the index and the kind of the class of its shape, and the form that these give.
pub record IsFieldLayout (k : Classes) (s : FieldLayout) : Type 0 where
  pub class_index : class_index k s.shape.class ≡ Some s.class_index
  pub kind : option_map (λ c. kind_of c.name) (find_class k s.shape.class) ≡ Some s.kind
  pub form : s.form ≡ form_of s.shape s.kind

-- The layout of the fields of an event, if its class has this id.
pub record IsEventLayout (k : Classes) (id : ℕ) (s : FieldLayout) : Type 0 where
  pub event : is_event_class k id ≡ true
  pub shape : s.shape ≡ record { class = id; constant = false; array = false }
  pub layout : IsFieldLayout k s

-- One layout for each field, in order, with the field's shape.
pub record AreFieldLayouts (k : Classes) (fs : List Field) (layouts : List FieldLayout) : Type 0 where
  pub shapes : map (λ s. s.shape) layouts ≡ map (λ f. f.shape) fs
  pub each : AllByRecursion (IsFieldLayout k) layouts

-- An item's shape: the array's without the array mark.
abbrev pub item_of : Shape → Shape
item_of s = record { class = s.class; constant = s.constant; array = false }

-- The fields of an inline value: those of a composite class, none for a base name.
abbrev pub inline_fields : Class → List Field
inline_fields c = if is_composite (kind_of c.name) then c.fields else []

-- An inline step goes to the composite class of a field without the constant mark, array or not.
abbrev pub step_class : Classes → Field → Option Class
step_class k f = if f.shape.constant then None
    else option_and_then (λ d. if is_composite (kind_of d.name) then Some d else None) (find_class k f.shape.class)

-- The class begins a chain of n inline steps.
abbrev pub begins_chain : ℕ → Classes → Class → Bool
begins_chain zero k c = true
begins_chain (suc n) k c = list_any (λ f. option_map_or (λ d. begins_chain n k d) (step_class k f) false) (inline_fields c)

-- The inline step by this field is followed by n more.
abbrev pub step_begins_chain : ℕ → Classes → Field → Bool
step_begins_chain n k f = option_map_or (λ d. begins_chain n k d) (step_class k f) false

-- A flaw of a list of classes: the index of the class, the number of the field if the flaw is in one, and the
-- reason.
pub record ClassFlaw : Type 0 where
  pub class : ℕ
  pub field : Option ℕ
  pub reason : Reason

-- One flaw or none.
abbrev pub flaw_if : Bool → ℕ → Option ℕ → Reason → List ClassFlaw
flaw_if bad i j why = if bad then record { class = i; field = j; reason = why } ∷ [] else []

-- The flaws found for each member and its index, in order.
abbrev pub each_at : {X : Type 0} → (ℕ → X → List ClassFlaw) → List X → List ClassFlaw
each_at found xs = flat_map (λ x. found x.0 x.1) (enumerate_from 0 xs)

-- Some class has the id.
abbrev pub has_id : Classes → ℕ → Bool
has_id k id = list_any (λ c. c.id == id) k

-- Some field has the name.
abbrev pub has_name : List Field → List ℕ → Bool
has_name fs name = list_any (λ f. bytes_eq f.name name) fs

-- A flaw for each field with the name of an earlier field of the class.
abbrev pub name_repeats : ℕ → List Field → List ClassFlaw
name_repeats i fs = each_at (λ j f. flaw_if (has_name (take j fs) f.name) i (Some j) FieldTwice) fs

-- A flaw for each class with the id of an earlier class, and for each field with the name of an earlier field
-- of its class; the flaw of a class comes before those of its fields.
abbrev pub repeats : Classes → List ClassFlaw
repeats k = each_at (λ i c. flaw_if (has_id (take i k) c.id) i None ClassTwice ++ name_repeats i c.fields) k

-- A flaw for each field of a class that fails a test.
abbrev pub flaws_in : Reason → (Field → Bool) → ℕ → List Field → List ClassFlaw
flaws_in why bad i fs = each_at (λ j f. flaw_if (bad f) i (Some j) why) fs

-- A flaw for each field, of any class, that fails a test.
abbrev pub field_flaws : Reason → (Field → Bool) → Classes → List ClassFlaw
field_flaws why bad k = each_at (λ i c. flaws_in why bad i c.fields) k

-- The field's class isn't defined.
abbrev pub is_unknown : Classes → Field → Bool
is_unknown k f = not (is_some (find_class k f.shape.class))

-- A flaw for each field whose class isn't defined.
abbrev pub unknown : Classes → List ClassFlaw
unknown k = field_flaws UnknownType (is_unknown k) k

-- The field has inline values of a composite class without fields.
abbrev pub is_empty_inline : Classes → Field → Bool
is_empty_inline k f = option_map_or (λ d. length d.fields == 0) (step_class k f) false

-- A flaw for each field with inline values of a composite class without fields.
abbrev pub empty_inline : Classes → List ClassFlaw
empty_inline k = field_flaws EmptyInline (is_empty_inline k) k

-- A flaw for each class that begins a chain of more than 32 inline steps.
abbrev pub deep : Classes → List ClassFlaw
deep k = each_at (λ i c. flaw_if (begins_chain 33 k c) i None InlineDeep) k

-- The flaws, stage by stage, each stage in the order of the list. The first of them is reported.
unfoldable pub class_faults : Classes → List ClassFlaw
class_faults k = repeats k ++ (unknown k ++ (empty_inline k ++ deep k))

-- The fault is the first flaw, unless memory ran out.
abbrev pub IsFirstFlaw : List ClassFlaw → ClassFault → Type 0
IsFirstFlaw flaws (Flawed i j why) = slice_get flaws 0 ≡ Some (record { class = i; field = j; reason = why })
IsFirstFlaw flaws Memory = ⊤

-- Either there are no flaws, or the first is reported.
abbrev pub ReportsFirst : {T : Type 0} → List ClassFlaw → Result T ClassFault → Type 0
ReportsFirst flaws (Ok x) = flaws ≡ []
ReportsFirst flaws (Err e) = IsFirstFlaw flaws e

-- A list is sound if it has no flaws.
pub record Sound (k : Classes) : Type 0 where
  pub none : class_faults k ≡ []

-- Two lists agree on the class with this id, and on each class that its fields name, n levels deep.
abbrev pub AgreeWithin : ℕ → Classes → Classes → ℕ → Type 0
AgreeWithin zero k m id = ⊤
AgreeWithin (suc n) k m id = (c d : Class) × (find_class k id ≡ Some c) × (find_class m id ≡ Some d) × (c.name ≡ d.name) × (c.super_name ≡ d.super_name) × (c.fields ≡ d.fields) × AllByRecursion
    (λ f. AgreeWithin n k m f.shape.class) c.fields

-- Two lists agree on the class with this id, and on all classes that its fields name, at any depth.
abbrev pub Agree : Classes → Classes → ℕ → Type 0
Agree k m id = (n : ℕ) → AgreeWithin n k m id
