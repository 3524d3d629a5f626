-- The metadata record of classes and of a region.
use Rattle.std.specs.Prelude.{ℕ, ◌+◌, ◌^◌, Bool, List, [], ◌∷◌, ◌++◌, length, Option, Some, None, if◌then◌else◌, codes}
use Rattle.std.specs.List.{flat_map}
use Rattle.std.specs.Fmt.{decimal}
use Rattle.std.specs.Str.{chars}
use Rattle.jfr_layout.specs.Classes.{Class, Classes, Field, has_id}
use Rattle.jfr_meta.specs.Trees.{Tree, tree}
use Rattle.jfr_meta.specs.Body.{Body}
use Rattle.jfr_meta.specs.Slimmed.{slim_in}
use Rattle.jfr_build.specs.declared.region.Region.{Region}

-- The names and keys of elements, and the values that don't depend on the classes.
abbrev pub fixed_texts : List (List ℕ)
fixed_texts =
    codes "root" ∷ codes "metadata" ∷ codes "class" ∷ codes "name" ∷ codes "id" ∷ codes "superType" ∷ codes "jdk.jfr.Event" ∷ codes "field"
    ∷ codes "constantPool" ∷ codes "true" ∷ codes "dimension" ∷ codes "1" ∷ codes "region" ∷ codes "locale" ∷ codes "gmtOffset" ∷ []

-- The texts of a field: its name, and the id of its class in decimal.
abbrev pub field_texts : Field → List (List ℕ)
field_texts f = f.name ∷ decimal f.shape.class ∷ []

-- The attributes of the marks: constantPool is true, dimension is 1.
abbrev pub mark_pairs : Bool → Bool → List (ℕ × ℕ)
mark_pairs constant array = (if constant then (8, 9) ∷ [] else []) ++ (if array then (10, 11) ∷ [] else [])

-- A field element, whose texts have the indices from n on: name, class, and the marks.
abbrev pub field_tree : ℕ → Field → Tree
field_tree n f = tree 0 7 ((3, n) ∷ (2, n + 1) ∷ mark_pairs f.shape.constant f.shape.array) []

-- The elements of fields, whose texts have the indices from n on, two for each.
abbrev pub field_trees : ℕ → List Field → List Tree
field_trees n [] = []
field_trees n (f ∷ fs) = field_tree n f ∷ field_trees (n + 2) fs

-- The texts of a class: its name, its id in decimal, and those of its fields.
abbrev pub class_texts : Class → List (List ℕ)
class_texts c = c.name ∷ decimal c.id ∷ flat_map field_texts c.fields

-- The attribute of the super type, which is that of events.
abbrev pub super_pairs : Option (List ℕ) → List (ℕ × ℕ)
super_pairs None = []
super_pairs (Some name) = (5, 6) ∷ []

-- A class element, whose texts have the indices from n on: name, id, and for an event superType; then the
-- field elements.
abbrev pub class_tree : ℕ → Class → Tree
class_tree n c = tree 0 2 ((3, n) ∷ (4, n + 1) ∷ super_pairs c.super_name) (field_trees (n + 2) c.fields)

-- The elements of classes, whose texts have the indices from n on.
abbrev pub class_trees : ℕ → Classes → List Tree
class_trees n [] = []
class_trees n (c ∷ cs) = class_tree n c ∷ class_trees (n + length (class_texts c)) cs

-- The texts of a region: its locale, and its offset as it is spelled.
abbrev pub region_texts : Option Region → List (List ℕ)
region_texts None = []
region_texts (Some r) = r.locale ∷ chars r.offset ∷ []

-- The region element, whose texts have the indices from n on: locale and gmtOffset. No element without a region.
abbrev pub region_trees : ℕ → Option Region → List Tree
region_trees n None = []
region_trees n (Some r) = tree 0 12 ((13, n) ∷ (14, n + 1) ∷ []) [] ∷ []

-- The texts of the names, keys and classes, before those of the region.
abbrev pub texts_before : Classes → List (List ℕ)
texts_before k = fixed_texts ++ flat_map class_texts k

-- The body that describes the classes and the region, with a table in which a text may occur more than once.
abbrev pub body_of : Classes → Option Region → Body
body_of k region = record {
  start = 0;
  duration = 0;
  id = 1;
  strings = texts_before k ++ region_texts region;
  root = tree 0 0 [] (tree 0 1 [] (class_trees 15 k) ∷ region_trees (length (texts_before k)) region);
}

-- The metadata record: the tree of all classes and of the region, and a table of the texts that it uses, each
-- once, in the order of their first use. None if the table and the tree take 2 ^ 29 bytes or more; if they take
-- fewer, the record has fewer than 2 ^ 30.
unfoldable pub metadata_record : Classes → Option Region → Option (List ℕ)
metadata_record k region = slim_in (body_of k region) (has_id k) (2 ^ 30)
