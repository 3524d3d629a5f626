-- The classes that the tree of elements describes, and their flaws.
use Rattle.std.specs.Prelude.{◌≡◌, ℕ, Bool, false, ◌&&◌, ◌==◌, List, [], ◌∷◌, ◌++◌, map, find, Option, Some, None, is_some, Result, Ok, Err, option_map, option_and_then, if◌then◌else◌, codes, slice_get, ◌⊎◌}
use Rattle.std.specs.List.{flat_map, list_any, filter_map}
use Rattle.std.specs.Option.{option_map_or}
use Rattle.std.specs.Ordering.{nat_cmp}
use Rattle.std.specs.BTreeSet.{BTreeSet, contains}
use Rattle.std.specs.Str.{bytes_eq}
use Rattle.jfr_base.specs.declared.reason.Reason.{Reason}
use Rattle.jfr_base.specs.declared.reason.Reason.TheVariants.{NoClasses, ClassBad, FieldBad}
use Rattle.jfr_base.specs.declared.flaw.Flaw.{Flaw}
use Rattle.jfr_base.specs.Formats.{Reads, Fails}
use Rattle.jfr_frame.specs.declared.framed.Framed.{Framed}
use Rattle.jfr_frame.specs.Records.{record_end}
use Rattle.jfr_layout.specs.declared.shape.Shape.{Shape}
use Rattle.jfr_layout.specs.Classes.{Class, Classes, Field, ClassFlaw, class_faults}
use Rattle.jfr_meta.specs.declared.named.ClassNames.{ClassNames}
use Rattle.jfr_meta.specs.Trees.{Tree, element_offset, name_of, pairs_of, children_of}
use Rattle.jfr_meta.specs.Body.{Body, meta_format}
use Rattle.jfr_meta.specs.Attributes.{text_at, first_value, attribute, named, id_of, flag_of, values_of}

-- The class elements: the children named class of the root's first child named metadata.
abbrev pub class_elements : List (List ℕ) → Tree → Option (List Tree)
class_elements texts root =
    option_map (λ m. named texts (codes "class") (children_of m)) (find (λ t. bytes_eq (text_at texts (name_of t)) (codes "metadata")) (children_of root))

-- The field elements of a class element.
abbrev pub field_elements : List (List ℕ) → Tree → List Tree
field_elements texts t = named texts (codes "field") (children_of t)

-- The id that is the attribute with this key, if it is one.
abbrev pub id_attribute : List (List ℕ) → Tree → List ℕ → Option ℕ
id_attribute texts t key = option_and_then id_of (attribute texts t key)

-- The id and the name of a class element, if it has both.
abbrev pub class_head : List (List ℕ) → Tree → Option (ℕ × List ℕ)
class_head texts t = option_and_then (λ name. option_map (λ id. (id, name)) (id_attribute texts t (codes "id"))) (attribute texts t (codes "name"))

-- The shape of a field element, if its class is an id and its marks are good.
unfoldable pub shape_of : List (List ℕ) → Tree → Option Shape
shape_of texts t =
    option_and_then (λ id. option_and_then (λ constant. option_map (λ array. record { class = id; constant = constant; array = array })
    (flag_of (first_value texts (codes "dimension") (pairs_of t)) (codes "1") (codes "0")))
    (flag_of (first_value texts (codes "constantPool") (pairs_of t)) (codes "true") (codes "false")))
    (id_attribute texts t (codes "class"))

-- The field of a field element, if it has a name and a shape.
unfoldable pub field_of : List (List ℕ) → Tree → Option Field
field_of texts t = option_and_then (λ name. option_map (λ shape. record { name = name; shape = shape }) (shape_of texts t)) (attribute texts t (codes "name"))

-- The flaw of an element with this reason, unless the element is good.
abbrev pub flaw_unless : Bool → Tree → Reason → List Flaw
flaw_unless good t why = if good then [] else record { offset = element_offset t; reason = why } ∷ []

-- The flaw of a field element.
abbrev pub field_flaws : List (List ℕ) → Tree → List Flaw
field_flaws texts t = flaw_unless (is_some (field_of texts t)) t FieldBad

-- The flaws of a class element and its fields, in tree order.
unfoldable pub class_flaws : List (List ℕ) → Tree → List Flaw
class_flaws texts t = flaw_unless (is_some (class_head texts t)) t ClassBad ++ flat_map (field_flaws texts) (field_elements texts t)

-- The ids and names of the class elements that have both.
abbrev pub heads : List (List ℕ) → List Tree → List (ℕ × List ℕ)
heads texts ts = filter_map (class_head texts) ts

-- Whether the head has this id and the name jdk.jfr.Category.
abbrev pub is_category_head : ℕ → ℕ × List ℕ → Bool
is_category_head id h = (h.0 == id) && bytes_eq h.1 (codes "jdk.jfr.Category")

-- Whether a class with this id is named jdk.jfr.Category.
abbrev pub is_category_id : List (ℕ × List ℕ) → ℕ → Bool
is_category_id hs id = list_any (is_category_head id) hs

-- The set holds the ids of the classes that are named jdk.jfr.Category, and no others.
abbrev pub AreCategoryIds : List (ℕ × List ℕ) → BTreeSet ℕ → Type 0
AreCategoryIds hs ids = (id : ℕ) → contains nat_cmp ids id ≡ is_category_id hs id

-- Whether the class of an annotation is named jdk.jfr.Category.
abbrev pub is_category : List (List ℕ) → List (ℕ × List ℕ) → Tree → Bool
is_category texts hs t = option_map_or (is_category_id hs) (id_attribute texts t (codes "class")) false

-- The annotations of a class element.
abbrev pub annotations_of : List (List ℕ) → Tree → List Tree
annotations_of texts t = named texts (codes "annotation") (children_of t)

-- The first annotation of a class element whose class is named jdk.jfr.Category.
abbrev pub category_annotation : List (List ℕ) → List (ℕ × List ℕ) → Tree → Option Tree
category_annotation texts hs t = find (is_category texts hs) (annotations_of texts t)

-- The categories of a class element: the values of its category annotation.
abbrev pub categories_of : List (List ℕ) → List (ℕ × List ℕ) → Tree → List (List ℕ)
categories_of texts hs t = option_map_or (values_of texts) (category_annotation texts hs t) []

-- The class of a class element with this id and this name.
abbrev pub class_with : List (List ℕ) → List (ℕ × List ℕ) → Tree → ℕ × List ℕ → Class
class_with texts hs t h = record {
  id = h.0;
  name = h.1;
  super_name = attribute texts t (codes "superType");
  fields = filter_map (field_of texts) (field_elements texts t);
  categories = categories_of texts hs t;
}

-- The class of a class element, if it has an id and a name.
unfoldable pub class_of : List (List ℕ) → List (ℕ × List ℕ) → Tree → Option Class
class_of texts hs t = option_map (class_with texts hs t) (class_head texts t)

-- The classes of the class elements, in order.
unfoldable pub classes_of : List (List ℕ) → List Tree → Classes
classes_of texts ts = filter_map (class_of texts (heads texts ts)) ts

-- The strings with these indices are the name of the class, that of its super type if it has one, those of its
-- fields in order, and its categories in order.
pub record IsNamedBy (texts : List (List ℕ)) (class : Class) (names : ClassNames) : Type 0 where
  pub name : text_at texts names.name ≡ class.name
  pub super_name : option_map (text_at texts) names.super_name ≡ class.super_name
  pub fields : map (text_at texts) names.fields.items ≡ map (λ f. f.name) class.fields
  pub categories : map (text_at texts) names.categories.items ≡ class.categories

-- The offset of a class element, or of its field element with this number.
abbrev pub element_place : List (List ℕ) → Tree → Option ℕ → ℕ
element_place texts t None = element_offset t
element_place texts t (Some number) = option_map_or element_offset (slice_get (field_elements texts t) number) 0

-- The offset of the class element with this index, or of its field element with this number.
abbrev pub flaw_place : List (List ℕ) → List Tree → ℕ → Option ℕ → ℕ
flaw_place texts ts class field = option_map_or (λ t. element_place texts t field) (slice_get ts class) 0

-- A flaw of the list of classes, at the offset of the element that describes the class or field.
abbrev pub placed : List (List ℕ) → List Tree → ClassFlaw → Flaw
placed texts ts e = record { offset = flaw_place texts ts e.class e.field; reason = e.reason }

-- The flaws of the list of the class elements' classes, each at its element.
abbrev pub list_flaws : List (List ℕ) → List Tree → List Flaw
list_flaws texts ts = map (placed texts ts) (class_faults (classes_of texts ts))

-- All flaws of the class elements: first those of their attributes, then those of the list of classes.
abbrev pub tree_flaws : List (List ℕ) → List Tree → List Flaw
tree_flaws texts ts = flat_map (class_flaws texts) ts ++ list_flaws texts ts

-- The first flaw, or the value if there is none.
abbrev pub first_or : {A : Type 0} → List Flaw → A → Result A Flaw
first_or [] a = Ok a
first_or (f ∷ fs) a = Err f

-- The classes of the class elements, or the first flaw. If the root, which starts at this offset, has no
-- child for them, that is the flaw.
abbrev pub described_classes : List (List ℕ) → ℕ → Option (List Tree) → Result Classes Flaw
described_classes texts at None = Err (record { offset = at; reason = NoClasses })
described_classes texts at (Some ts) = first_or (tree_flaws texts ts) (classes_of texts ts)

-- The classes that a body describes, or the first flaw.
unfoldable pub described : Body → Result Classes Flaw
described b = described_classes b.strings (element_offset b.root) (class_elements b.strings b.root)

-- The record in the chunk x spells this body, which describes these classes.
pub record IsMetadata (x : List ℕ) (r : Framed) (b : Body) (k : Classes) : Type 0 where
  pub body : Reads meta_format x (record_end r) r.body b (record_end r)
  pub classes : described b ≡ Ok k

-- The record is refused with this flaw: its bytes spell no body, or `described` gives this flaw for the body.
abbrev pub IsMetadataFlaw : List ℕ → Framed → Flaw → Type 0
IsMetadataFlaw x r f =
    Fails meta_format x (record_end r) r.body f.offset f.reason ⊎ ((b : Body) × Reads meta_format x (record_end r) r.body b (record_end r) × (described b ≡ Err f))
