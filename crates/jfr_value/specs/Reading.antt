-- The format of a value, by cases on its shape and on the kind of its class.
use Rattle.std.specs.Prelude.{ℕ, zero, suc, Bool, List, [], Option, Some, None, if◌then◌else◌}
use Rattle.jfr_base.specs.Formats.{Format, Done, Int, Run, Refuse, ◌>>=◌, with_bytes, times, for_each, unchecked}
use Rattle.jfr_base.specs.declared.reason.Reason.TheVariants.{InlineDeep, UnknownType}
use Rattle.jfr_text.specs.Strings.{string_format}
use Rattle.jfr_layout.specs.Classes.{Class, Classes, Field, find_class, kind_of, item_of}
use Rattle.jfr_layout.specs.declared.kind.Kind.{Kind}
use Rattle.jfr_layout.specs.declared.kind.Kind.TheVariants as kinds
use Rattle.jfr_layout.specs.declared.shape.Shape.{Shape}
use Rattle.jfr_layout.specs.declared.field_layout.FieldLayout.{FieldLayout}
use Rattle.jfr_value.specs.declared.leaf.LeafKind.TheVariants as leaf_kinds
use Rattle.jfr_value.specs.Values.{Value, Single, Group, values_of, key_of}

-- A value of a base name. It gives the key, if the value is a string that is one.
abbrev pub base_format : Kind → Format (Option ℕ)
base_format kinds.Boolean = Run 1 (λ bytes. Done None)
base_format kinds.Byte = Run 1 (λ bytes. Done None)
base_format kinds.Char = Int unchecked (λ v spelled. Done None)
base_format kinds.Short = Int unchecked (λ v spelled. Done None)
base_format kinds.Int = Int unchecked (λ v spelled. Done None)
base_format kinds.Long = Int unchecked (λ v spelled. Done None)
base_format kinds.Float = Run 4 (λ bytes. Done None)
base_format kinds.Double = Run 8 (λ bytes. Done None)
base_format kinds.Text = string_format Bool.true >>= λ s. Done (key_of s)
base_format kinds.Composite = Done None

-- A value that isn't an array: a reference, or an inline value with this format.
abbrev pub item_format : (Shape → Format Value) → Shape → Format Value
item_format inline s = if s.constant then Int unchecked (λ key spelled. Done (Single s (leaf_kinds.Key key) spelled (Some key))) else inline s

-- A count, and this many items.
abbrev pub array_format : Format Value → Shape → Format Value
array_format item s = Int unchecked (λ n spelled. times n item >>= λ vs. Done (Group s spelled (values_of vs)))

-- A value of a shape, if inline values have this format.
abbrev pub shape_format : (Shape → Format Value) → Shape → Format Value
shape_format inline s = if s.array then array_format (item_format inline (item_of s)) s else item_format inline s

-- The values of fields, one after another.
abbrev pub fields_format : (Shape → Format Value) → List Field → Format (List Value)
fields_format inline fields = for_each fields (λ f. shape_format inline f.shape)

-- An inline value of a class of this kind, if its fields have this format.
abbrev pub kind_format : Kind → Shape → Format (List Value) → Format Value
kind_format kinds.Composite s fields = fields >>= λ vs. Done (Group s [] (values_of vs))
kind_format kind s fields = with_bytes [] (base_format kind) (λ key bytes. Done (Single s (leaf_kinds.Base kind) bytes key))

-- An inline value of a class, if the inline values of its fields have this format.
abbrev pub inline_format : (Shape → Format Value) → Shape → Option Class → Format Value
inline_format inline s None = Refuse UnknownType
inline_format inline s (Some c) = kind_format (kind_of c.name) s (fields_format inline c.fields)

-- An inline value of a class, with at most n classes nested.
unfoldable pub class_format : ℕ → Classes → Shape → Format Value
class_format zero k s = Refuse InlineDeep
class_format (suc n) k s = inline_format (class_format n k) s (find_class k s.class)

-- The values of these layouts, one after another, each with at most `depth` classes nested.
abbrev pub values_format : ℕ → Classes → List FieldLayout → Format (List Value)
values_format depth k layouts = for_each layouts (λ s. shape_format (class_format depth k) s.shape)

-- A value of a shape: 33 composite classes and one of a base name can be nested.
unfoldable pub value_format : Classes → Shape → Format Value
value_format k s = shape_format (class_format 34 k) s
