-- How the metadata of a chunk is shown: its classes, in the order in which the metadata lists them.
use Rattle.std.specs.Prelude.{ℕ, List, [], ◌∷◌, ◌++◌, codes, decimal, map, Option, None, Some, if◌then◌else◌}
use Rattle.std.specs.List.{flat_map, join_by}
use Rattle.std.specs.Option.{option_map_or}
use Rattle.serde_json.specs.Data.{Data, array, boolean, null, object}
use Rattle.serde_json.specs.View.{items_of}
use Rattle.jfr_layout.specs.Classes.{Class, Classes, Field}
use Rattle.jfr_chunk.specs.Parts.{Parts}
use Rattle.jfr_show.specs.Json.{json_line, listed, number_json, text_json}
use Rattle.jfr_show.specs.Names.{class_name}
use Rattle.jfr_show.specs.Texts.{newline, quoted}

-- A field's line: two spaces, its name, the name of its class, and marks if it is an array or a constant.
abbrev pub field_line : Classes → Field → List ℕ
field_line k f =
    codes "  " ++ f.name ++ codes ": " ++ class_name k f.shape.class
    ++ (if f.shape.array then codes "[]" else []) ++ (if f.shape.constant then codes " constant" else []) ++ newline

-- The line of a class's categories, each between quotes; no line if it has none.
abbrev pub categories_line : List (List ℕ) → List ℕ
categories_line [] = []
categories_line (c ∷ cs) = codes "  category " ++ join_by quoted (codes ", ") (c ∷ cs) ++ newline

-- The name of the super type, if there is one.
abbrev pub super_part : Option (List ℕ) → List ℕ
super_part None = []
super_part (Some name) = codes " super " ++ name

-- The first line of a class: its name, its id, and its super type.
abbrev pub class_line : Class → List ℕ
class_line c = c.name ++ codes " id " ++ decimal c.id ++ super_part c.super_name ++ newline

-- The lines of a class: its first line, that of its categories, and one for each field.
abbrev pub class_lines : Classes → Class → List ℕ
class_lines k c = class_line c ++ categories_line c.categories ++ flat_map (field_line k) c.fields

-- The text of a chunk's classes: a line with the chunk's number, then the lines of each class.
unfoldable pub metadata_shown : Parts → ℕ → List ℕ
metadata_shown p number = codes "chunk " ++ decimal number ++ newline ++ flat_map (class_lines p.classes) p.classes

-- A field as an object: its name, the name and the id of its class, and its marks.
abbrev pub field_json : Classes → Field → Data
field_json k f = object (listed (
    (codes "name", text_json f.name)
    ∷ (codes "class", text_json (class_name k f.shape.class))
    ∷ (codes "class_id", number_json f.shape.class)
    ∷ (codes "constant", boolean f.shape.constant)
    ∷ (codes "array", boolean f.shape.array)
    ∷ []))

-- The name of the super type, or null.
abbrev pub super_json : Option (List ℕ) → Data
super_json name = option_map_or text_json name null

-- A class of the chunk with this number as an object: its name, its id, its super type, its categories, and
-- its fields.
abbrev pub class_json : ℕ → Classes → Class → Data
class_json chunk k c = object (listed (
    (codes "chunk", number_json chunk)
    ∷ (codes "name", text_json c.name)
    ∷ (codes "id", number_json c.id)
    ∷ (codes "super", super_json c.super_name)
    ∷ (codes "categories", array (items_of (map text_json c.categories)))
    ∷ (codes "fields", array (items_of (map (field_json k) c.fields)))
    ∷ []))

-- The lines of JSON of a chunk's classes: one for each class.
unfoldable pub metadata_json : Parts → ℕ → List ℕ
metadata_json p number = flat_map (λ c. json_line (class_json number p.classes c)) p.classes
