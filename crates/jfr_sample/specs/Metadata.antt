-- The metadata record of the sample, byte for byte: its texts, and its elements, which refer to them by
-- index.
use Rattle.std.specs.Prelude.{ℕ, List, [], ◌∷◌, ◌++◌, length, codes}
use Rattle.std.specs.List.{flat_map}
use Rattle.jfr_base.specs.Integer.{spell}

-- A text as a string of kind 3: the kind, the length, the bytes.
abbrev pub string_of : List ℕ → List ℕ
string_of text = 3 ∷ spell (length text) ++ text

-- The texts, numbered from 0.
abbrev pub texts : List (List ℕ)
texts =
    codes "root" ∷ codes "metadata" ∷ codes "class" ∷ codes "name" ∷ codes "id" ∷ codes "superType" ∷ codes "field" ∷ codes "constantPool"
    ∷ codes "true" ∷ codes "long" ∷ codes "java.lang.String" ∷ codes "t.Node" ∷ codes "t.A" ∷ codes "t.B" ∷ codes "jdk.jfr.Event" ∷ codes "5"
    ∷ codes "6" ∷ codes "7" ∷ codes "8" ∷ codes "9" ∷ codes "next" ∷ codes "text" ∷ codes "n" ∷ codes "node" ∷ []

-- The start of the record: the size 257, type 0, start 0, duration 0, id 1, and the count of 24 texts.
abbrev pub front : List ℕ
front = 129 ∷ 2 ∷ 0 ∷ 0 ∷ 0 ∷ 1 ∷ 24 ∷ []

-- The elements, each before those inside it: its name, the number of its attributes, a key and a value for
-- each, and the number of elements inside it.
abbrev pub elements : List ℕ
elements =
    -- Root, and in it metadata with five classes.
    (0 ∷ 0 ∷ 1 ∷ []) ++ (1 ∷ 0 ∷ 5 ∷ [])
    -- Class long, id 5; class java.lang.String, id 6.
    ++ (2 ∷ 2 ∷ 3 ∷ 9 ∷ 4 ∷ 15 ∷ 0 ∷ []) ++ (2 ∷ 2 ∷ 3 ∷ 10 ∷ 4 ∷ 16 ∷ 0 ∷ [])
    -- Class t.Node, id 7, with the fields next, a constant of class 7, and text of class 6.
    ++ (2 ∷ 2 ∷ 3 ∷ 11 ∷ 4 ∷ 17 ∷ 2 ∷ []) ++ (6 ∷ 3 ∷ 3 ∷ 20 ∷ 2 ∷ 17 ∷ 7 ∷ 8 ∷ 0 ∷ []) ++ (6 ∷ 2 ∷ 3 ∷ 21 ∷ 2 ∷ 16 ∷ 0 ∷ [])
    -- Class t.A, id 8, an event, with the fields n of class 5 and node, a constant of class 7.
    ++ (2 ∷ 3 ∷ 3 ∷ 12 ∷ 4 ∷ 18 ∷ 5 ∷ 14 ∷ 2 ∷ []) ++ (6 ∷ 2 ∷ 3 ∷ 22 ∷ 2 ∷ 15 ∷ 0 ∷ []) ++ (6 ∷ 3 ∷ 3 ∷ 23 ∷ 2 ∷ 17 ∷ 7 ∷ 8 ∷ 0 ∷ [])
    -- Class t.B, id 9, an event, with the field node, a constant of class 7.
    ++ (2 ∷ 3 ∷ 3 ∷ 13 ∷ 4 ∷ 19 ∷ 5 ∷ 14 ∷ 1 ∷ []) ++ (6 ∷ 3 ∷ 3 ∷ 23 ∷ 2 ∷ 17 ∷ 7 ∷ 8 ∷ 0 ∷ [])

-- The record.
unfoldable pub metadata : List ℕ
metadata = front ++ flat_map string_of texts ++ elements
