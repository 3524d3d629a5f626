-- The chunks that the rows compute on, and their parts.
use Rattle.std.specs.Prelude.{ℕ, ◌+◌, ◌/◌, ◌%◌, pos, true, false, List, [], ◌∷◌, ◌++◌, take, drop, Some, None, codes}
use Rattle.jfr_layout.specs.Classes.{Classes}
use Rattle.jfr_frame.specs.declared.framed.Framed.{Framed}
use Rattle.jfr_meta.specs.Trees.{tree}
use Rattle.jfr_meta.specs.Body.{Body}
use Rattle.jfr_pool.specs.declared.link.Link.{Link}
use Rattle.jfr_pool.specs.declared.entry.EntryAt.{EntryAt}
use Rattle.jfr_chunk.specs.Parts.{Parts}

-- A number below 65,536 in eight bytes.
abbrev pub eight : ℕ → List ℕ
eight n = 0 ∷ 0 ∷ 0 ∷ 0 ∷ 0 ∷ 0 ∷ n / 256 ∷ n % 256 ∷ []

-- A header with this size and these positions of the last checkpoint and of the metadata record.
abbrev pub header : ℕ → ℕ → ℕ → List ℕ
header size pools metadata = 70 ∷ 76 ∷ 82 ∷ 0 ∷ 0 ∷ 2 ∷ 0 ∷ 1
    ∷ (eight size ++ (eight pools ++ (eight metadata ++ (eight 1000 ++ (eight 5 ++ (eight 0 ++ 0 ∷ 0 ∷ 0 ∷ 0 ∷ 59 ∷ 154 ∷ 202 ∷ 0 ∷ 0 ∷ 0 ∷ 0 ∷ 1 ∷ []))))))

-- The chunk with another byte at a place.
abbrev pub edited : List ℕ → ℕ → ℕ → List ℕ
edited c at byte = take at c ++ byte ∷ drop (at + 1) c

-- A metadata record without classes.
abbrev pub no_classes : List ℕ
no_classes = 28 ∷ 0 ∷ 0 ∷ 0 ∷ 1 ∷ 2 ∷ 3 ∷ 4 ∷ 114 ∷ 111 ∷ 111 ∷ 116 ∷ 3 ∷ 8 ∷ 109 ∷ 101 ∷ 116 ∷ 97 ∷ 100 ∷ 97 ∷ 116 ∷ 97 ∷ 0 ∷ 0 ∷ 1 ∷ 1 ∷ 0 ∷ 0 ∷ []

-- A checkpoint without pools, and no more: the plain chunk.
abbrev pub plain : List ℕ
plain = header 103 96 68 ++ (no_classes ++ 7 ∷ 1 ∷ 0 ∷ 0 ∷ 0 ∷ 0 ∷ 0 ∷ [])

-- Records that nothing names: a checkpoint, an unknown type, and an older metadata record.
abbrev pub inert : List ℕ
inert = header 141 134 106 ++ (no_classes ++ (7 ∷ 1 ∷ 0 ∷ 0 ∷ 0 ∷ 0 ∷ 0 ∷ 3 ∷ 99 ∷ 170 ∷ (no_classes ++ 7 ∷ 1 ∷ 0 ∷ 0 ∷ 0 ∷ 0 ∷ 0 ∷ [])))

-- The metadata record of long, java.lang.String, t.Node, t.A and t.B.
abbrev pub metadata : List ℕ
metadata = 129 ∷ 2 ∷ 0 ∷ 0 ∷ 0 ∷ 1 ∷ 24 ∷ 3 ∷ 4 ∷ 114 ∷ 111 ∷ 111 ∷ 116 ∷ 3 ∷ 8 ∷ 109 ∷ 101 ∷ 116 ∷ 97 ∷ 100 ∷ 97 ∷ 116 ∷ 97 ∷ 3 ∷ 5 ∷ 99 ∷ 108 ∷ 97 ∷ 115 ∷ 115 ∷ 3 ∷ 4 ∷ 110 ∷ 97 ∷ 109 ∷ 101 ∷ 3 ∷ 2
    ∷ 105 ∷ 100 ∷ 3 ∷ 9 ∷ 115 ∷ 117 ∷ 112 ∷ 101 ∷ 114 ∷ 84 ∷ 121 ∷ 112 ∷ 101 ∷ 3 ∷ 5 ∷ 102 ∷ 105 ∷ 101 ∷ 108 ∷ 100 ∷ 3 ∷ 12 ∷ 99 ∷ 111 ∷ 110 ∷ 115 ∷ 116 ∷ 97 ∷ 110 ∷ 116 ∷ 80 ∷ 111 ∷ 111 ∷ 108 ∷ 3 ∷ 4
    ∷ 116 ∷ 114 ∷ 117 ∷ 101 ∷ 3 ∷ 4 ∷ 108 ∷ 111 ∷ 110 ∷ 103 ∷ 3 ∷ 16 ∷ 106 ∷ 97 ∷ 118 ∷ 97 ∷ 46 ∷ 108 ∷ 97 ∷ 110 ∷ 103 ∷ 46 ∷ 83 ∷ 116 ∷ 114 ∷ 105 ∷ 110 ∷ 103 ∷ 3 ∷ 6 ∷ 116 ∷ 46 ∷ 78 ∷ 111 ∷ 100 ∷ 101
    ∷ 3 ∷ 3 ∷ 116 ∷ 46 ∷ 65 ∷ 3 ∷ 3 ∷ 116 ∷ 46 ∷ 66 ∷ 3 ∷ 13 ∷ 106 ∷ 100 ∷ 107 ∷ 46 ∷ 106 ∷ 102 ∷ 114 ∷ 46 ∷ 69 ∷ 118 ∷ 101 ∷ 110 ∷ 116 ∷ 3 ∷ 1 ∷ 53 ∷ 3 ∷ 1 ∷ 54 ∷ 3 ∷ 1 ∷ 55 ∷ 3 ∷ 1 ∷ 56 ∷ 3 ∷ 1 ∷ 57
    ∷ 3 ∷ 4 ∷ 110 ∷ 101 ∷ 120 ∷ 116 ∷ 3 ∷ 4 ∷ 116 ∷ 101 ∷ 120 ∷ 116 ∷ 3 ∷ 1 ∷ 110 ∷ 3 ∷ 4 ∷ 110 ∷ 111 ∷ 100 ∷ 101 ∷ 0 ∷ 0 ∷ 1 ∷ 1 ∷ 0 ∷ 5 ∷ 2 ∷ 2 ∷ 3 ∷ 9 ∷ 4 ∷ 15 ∷ 0 ∷ 2 ∷ 2 ∷ 3 ∷ 10 ∷ 4 ∷ 16 ∷ 0 ∷ 2
    ∷ 2 ∷ 3 ∷ 11 ∷ 4 ∷ 17 ∷ 2 ∷ 6 ∷ 3 ∷ 3 ∷ 20 ∷ 2 ∷ 17 ∷ 7 ∷ 8 ∷ 0 ∷ 6 ∷ 2 ∷ 3 ∷ 21 ∷ 2 ∷ 16 ∷ 0 ∷ 2 ∷ 3 ∷ 3 ∷ 12 ∷ 4 ∷ 18 ∷ 5 ∷ 14 ∷ 2 ∷ 6 ∷ 2 ∷ 3 ∷ 22 ∷ 2 ∷ 15 ∷ 0 ∷ 6 ∷ 3 ∷ 3 ∷ 23 ∷ 2 ∷ 17 ∷ 7 ∷ 8
    ∷ 0 ∷ 2 ∷ 3 ∷ 3 ∷ 13 ∷ 4 ∷ 19 ∷ 5 ∷ 14 ∷ 1 ∷ 6 ∷ 3 ∷ 3 ∷ 23 ∷ 2 ∷ 17 ∷ 7 ∷ 8 ∷ 0 ∷ []

-- The metadata record without t.B, without t.A, and without both, as a scrub writes it.
abbrev pub metadata_a : List ℕ
metadata_a = 234 ∷ 129 ∷ 128 ∷ 128 ∷ 0 ∷ 0 ∷ 0 ∷ 0 ∷ 1 ∷ 22 ∷ 3 ∷ 4 ∷ 114 ∷ 111 ∷ 111 ∷ 116 ∷ 3 ∷ 8 ∷ 109 ∷ 101 ∷ 116 ∷ 97 ∷ 100 ∷ 97 ∷ 116 ∷ 97 ∷ 3 ∷ 5 ∷ 99 ∷ 108 ∷ 97 ∷ 115 ∷ 115 ∷ 3 ∷ 4 ∷ 110 ∷ 97
    ∷ 109 ∷ 101 ∷ 3 ∷ 4 ∷ 108 ∷ 111 ∷ 110 ∷ 103 ∷ 3 ∷ 2 ∷ 105 ∷ 100 ∷ 3 ∷ 1 ∷ 53 ∷ 3 ∷ 16 ∷ 106 ∷ 97 ∷ 118 ∷ 97 ∷ 46 ∷ 108 ∷ 97 ∷ 110 ∷ 103 ∷ 46 ∷ 83 ∷ 116 ∷ 114 ∷ 105 ∷ 110 ∷ 103 ∷ 3 ∷ 1 ∷ 54 ∷ 3 ∷ 6
    ∷ 116 ∷ 46 ∷ 78 ∷ 111 ∷ 100 ∷ 101 ∷ 3 ∷ 1 ∷ 55 ∷ 3 ∷ 5 ∷ 102 ∷ 105 ∷ 101 ∷ 108 ∷ 100 ∷ 3 ∷ 4 ∷ 110 ∷ 101 ∷ 120 ∷ 116 ∷ 3 ∷ 12 ∷ 99 ∷ 111 ∷ 110 ∷ 115 ∷ 116 ∷ 97 ∷ 110 ∷ 116 ∷ 80 ∷ 111 ∷ 111 ∷ 108
    ∷ 3 ∷ 4 ∷ 116 ∷ 114 ∷ 117 ∷ 101 ∷ 3 ∷ 4 ∷ 116 ∷ 101 ∷ 120 ∷ 116 ∷ 3 ∷ 3 ∷ 116 ∷ 46 ∷ 65 ∷ 3 ∷ 1 ∷ 56 ∷ 3 ∷ 9 ∷ 115 ∷ 117 ∷ 112 ∷ 101 ∷ 114 ∷ 84 ∷ 121 ∷ 112 ∷ 101 ∷ 3 ∷ 13 ∷ 106 ∷ 100 ∷ 107 ∷ 46
    ∷ 106 ∷ 102 ∷ 114 ∷ 46 ∷ 69 ∷ 118 ∷ 101 ∷ 110 ∷ 116 ∷ 3 ∷ 1 ∷ 110 ∷ 3 ∷ 4 ∷ 110 ∷ 111 ∷ 100 ∷ 101 ∷ 0 ∷ 0 ∷ 1 ∷ 1 ∷ 0 ∷ 4 ∷ 2 ∷ 2 ∷ 3 ∷ 4 ∷ 5 ∷ 6 ∷ 0 ∷ 2 ∷ 2 ∷ 3 ∷ 7 ∷ 5 ∷ 8 ∷ 0 ∷ 2 ∷ 2 ∷ 3 ∷ 9
    ∷ 5 ∷ 10 ∷ 2 ∷ 11 ∷ 3 ∷ 3 ∷ 12 ∷ 2 ∷ 10 ∷ 13 ∷ 14 ∷ 0 ∷ 11 ∷ 2 ∷ 3 ∷ 15 ∷ 2 ∷ 8 ∷ 0 ∷ 2 ∷ 3 ∷ 3 ∷ 16 ∷ 5 ∷ 17 ∷ 18 ∷ 19 ∷ 2 ∷ 11 ∷ 2 ∷ 3 ∷ 20 ∷ 2 ∷ 6 ∷ 0 ∷ 11 ∷ 3 ∷ 3 ∷ 21 ∷ 2 ∷ 10 ∷ 13 ∷ 14 ∷ 0
    ∷ []

abbrev pub metadata_b : List ℕ
metadata_b = 224 ∷ 129 ∷ 128 ∷ 128 ∷ 0 ∷ 0 ∷ 0 ∷ 0 ∷ 1 ∷ 21 ∷ 3 ∷ 4 ∷ 114 ∷ 111 ∷ 111 ∷ 116 ∷ 3 ∷ 8 ∷ 109 ∷ 101 ∷ 116 ∷ 97 ∷ 100 ∷ 97 ∷ 116 ∷ 97 ∷ 3 ∷ 5 ∷ 99 ∷ 108 ∷ 97 ∷ 115 ∷ 115 ∷ 3 ∷ 4 ∷ 110 ∷ 97
    ∷ 109 ∷ 101 ∷ 3 ∷ 4 ∷ 108 ∷ 111 ∷ 110 ∷ 103 ∷ 3 ∷ 2 ∷ 105 ∷ 100 ∷ 3 ∷ 1 ∷ 53 ∷ 3 ∷ 16 ∷ 106 ∷ 97 ∷ 118 ∷ 97 ∷ 46 ∷ 108 ∷ 97 ∷ 110 ∷ 103 ∷ 46 ∷ 83 ∷ 116 ∷ 114 ∷ 105 ∷ 110 ∷ 103 ∷ 3 ∷ 1 ∷ 54 ∷ 3 ∷ 6
    ∷ 116 ∷ 46 ∷ 78 ∷ 111 ∷ 100 ∷ 101 ∷ 3 ∷ 1 ∷ 55 ∷ 3 ∷ 5 ∷ 102 ∷ 105 ∷ 101 ∷ 108 ∷ 100 ∷ 3 ∷ 4 ∷ 110 ∷ 101 ∷ 120 ∷ 116 ∷ 3 ∷ 12 ∷ 99 ∷ 111 ∷ 110 ∷ 115 ∷ 116 ∷ 97 ∷ 110 ∷ 116 ∷ 80 ∷ 111 ∷ 111 ∷ 108
    ∷ 3 ∷ 4 ∷ 116 ∷ 114 ∷ 117 ∷ 101 ∷ 3 ∷ 4 ∷ 116 ∷ 101 ∷ 120 ∷ 116 ∷ 3 ∷ 3 ∷ 116 ∷ 46 ∷ 66 ∷ 3 ∷ 1 ∷ 57 ∷ 3 ∷ 9 ∷ 115 ∷ 117 ∷ 112 ∷ 101 ∷ 114 ∷ 84 ∷ 121 ∷ 112 ∷ 101 ∷ 3 ∷ 13 ∷ 106 ∷ 100 ∷ 107 ∷ 46
    ∷ 106 ∷ 102 ∷ 114 ∷ 46 ∷ 69 ∷ 118 ∷ 101 ∷ 110 ∷ 116 ∷ 3 ∷ 4 ∷ 110 ∷ 111 ∷ 100 ∷ 101 ∷ 0 ∷ 0 ∷ 1 ∷ 1 ∷ 0 ∷ 4 ∷ 2 ∷ 2 ∷ 3 ∷ 4 ∷ 5 ∷ 6 ∷ 0 ∷ 2 ∷ 2 ∷ 3 ∷ 7 ∷ 5 ∷ 8 ∷ 0 ∷ 2 ∷ 2 ∷ 3 ∷ 9 ∷ 5 ∷ 10 ∷ 2
    ∷ 11 ∷ 3 ∷ 3 ∷ 12 ∷ 2 ∷ 10 ∷ 13 ∷ 14 ∷ 0 ∷ 11 ∷ 2 ∷ 3 ∷ 15 ∷ 2 ∷ 8 ∷ 0 ∷ 2 ∷ 3 ∷ 3 ∷ 16 ∷ 5 ∷ 17 ∷ 18 ∷ 19 ∷ 1 ∷ 11 ∷ 3 ∷ 3 ∷ 20 ∷ 2 ∷ 10 ∷ 13 ∷ 14 ∷ 0 ∷ []

abbrev pub metadata_none : List ℕ
metadata_none = 166 ∷ 129 ∷ 128 ∷ 128 ∷ 0 ∷ 0 ∷ 0 ∷ 0 ∷ 1 ∷ 16 ∷ 3 ∷ 4 ∷ 114 ∷ 111 ∷ 111 ∷ 116 ∷ 3 ∷ 8 ∷ 109 ∷ 101 ∷ 116 ∷ 97 ∷ 100 ∷ 97 ∷ 116 ∷ 97 ∷ 3 ∷ 5 ∷ 99 ∷ 108 ∷ 97 ∷ 115 ∷ 115 ∷ 3 ∷ 4 ∷ 110
    ∷ 97 ∷ 109 ∷ 101 ∷ 3 ∷ 4 ∷ 108 ∷ 111 ∷ 110 ∷ 103 ∷ 3 ∷ 2 ∷ 105 ∷ 100 ∷ 3 ∷ 1 ∷ 53 ∷ 3 ∷ 16 ∷ 106 ∷ 97 ∷ 118 ∷ 97 ∷ 46 ∷ 108 ∷ 97 ∷ 110 ∷ 103 ∷ 46 ∷ 83 ∷ 116 ∷ 114 ∷ 105 ∷ 110 ∷ 103 ∷ 3 ∷ 1 ∷ 54
    ∷ 3 ∷ 6 ∷ 116 ∷ 46 ∷ 78 ∷ 111 ∷ 100 ∷ 101 ∷ 3 ∷ 1 ∷ 55 ∷ 3 ∷ 5 ∷ 102 ∷ 105 ∷ 101 ∷ 108 ∷ 100 ∷ 3 ∷ 4 ∷ 110 ∷ 101 ∷ 120 ∷ 116 ∷ 3 ∷ 12 ∷ 99 ∷ 111 ∷ 110 ∷ 115 ∷ 116 ∷ 97 ∷ 110 ∷ 116 ∷ 80 ∷ 111 ∷ 111
    ∷ 108 ∷ 3 ∷ 4 ∷ 116 ∷ 114 ∷ 117 ∷ 101 ∷ 3 ∷ 4 ∷ 116 ∷ 101 ∷ 120 ∷ 116 ∷ 0 ∷ 0 ∷ 1 ∷ 1 ∷ 0 ∷ 3 ∷ 2 ∷ 2 ∷ 3 ∷ 4 ∷ 5 ∷ 6 ∷ 0 ∷ 2 ∷ 2 ∷ 3 ∷ 7 ∷ 5 ∷ 8 ∷ 0 ∷ 2 ∷ 2 ∷ 3 ∷ 9 ∷ 5 ∷ 10 ∷ 2 ∷ 11 ∷ 3 ∷ 3 ∷ 12
    ∷ 2 ∷ 10 ∷ 13 ∷ 14 ∷ 0 ∷ 11 ∷ 2 ∷ 3 ∷ 15 ∷ 2 ∷ 8 ∷ 0 ∷ []

-- An event of t.A to node 1, an event of t.B to node 3, and the nodes 1 to 4 in two rings.
abbrev pub event_a : List ℕ
event_a = 5 ∷ 8 ∷ 172 ∷ 2 ∷ 1 ∷ []

abbrev pub event_b : List ℕ
event_b = 3 ∷ 9 ∷ 3 ∷ []

abbrev pub rings : List ℕ
rings = header 362 333 68 ++ (metadata ++ (event_a ++ (event_b ++ 29 ∷ 1 ∷ 0 ∷ 0 ∷ 0 ∷ 0 ∷ 1 ∷ 7 ∷ 4 ∷ 1 ∷ 2 ∷ 3 ∷ 1 ∷ 112 ∷ 2 ∷ 1 ∷ 3 ∷ 1 ∷ 113 ∷ 3 ∷ 4 ∷ 3 ∷ 1 ∷ 114 ∷ 4 ∷ 3 ∷ 3 ∷ 1 ∷ 115 ∷ [])))

-- Node 1 in two checkpoints.
abbrev pub key_twice : List ℕ
key_twice = header 366 344 68 ++ (metadata
    ++ (14 ∷ 1 ∷ 0 ∷ 0 ∷ 0 ∷ 0 ∷ 1 ∷ 7 ∷ 1 ∷ 1 ∷ 0 ∷ 3 ∷ 1 ∷ 112 ∷ (event_a ++ 22 ∷ 1 ∷ 0 ∷ 0 ∷ 237 ∷ 255 ∷ 255 ∷ 255 ∷ 255 ∷ 255 ∷ 255 ∷ 255 ∷ 255 ∷ 0 ∷ 1 ∷ 7 ∷ 1 ∷ 1 ∷ 0 ∷ 3 ∷ 1 ∷ 113 ∷ [])))

-- Three checkpoints, of which the second has an entry that nothing refers to, and the last none.
abbrev pub three_checkpoints : List ℕ
three_checkpoints = header 381 366 68 ++ (metadata
    ++ (14 ∷ 1 ∷ 0 ∷ 0 ∷ 0 ∷ 0 ∷ 1 ∷ 7 ∷ 1 ∷ 1 ∷ 0 ∷ 3 ∷ 1 ∷ 112 ∷ 22 ∷ 1 ∷ 0 ∷ 0 ∷ 242 ∷ 255 ∷ 255 ∷ 255 ∷ 255 ∷ 255 ∷ 255 ∷ 255 ∷ 255 ∷ 0 ∷ 1 ∷ 7 ∷ 1 ∷ 3 ∷ 0 ∷ 3 ∷ 1 ∷ 114
    ∷ (event_a ++ 15 ∷ 1 ∷ 0 ∷ 0 ∷ 229 ∷ 255 ∷ 255 ∷ 255 ∷ 255 ∷ 255 ∷ 255 ∷ 255 ∷ 255 ∷ 0 ∷ 0 ∷ [])))

-- A node whose text is a key, and strings that are keys in a ring.
abbrev pub string_ring : List ℕ
string_ring = header 355 330 68 ++ (metadata ++ (event_a ++ 25 ∷ 1 ∷ 0 ∷ 0 ∷ 0 ∷ 0 ∷ 2 ∷ 7 ∷ 1 ∷ 1 ∷ 0 ∷ 2 ∷ 1 ∷ 6 ∷ 3 ∷ 1 ∷ 2 ∷ 2 ∷ 2 ∷ 2 ∷ 2 ∷ 3 ∷ 3 ∷ 1 ∷ 120 ∷ []))

-- The parts of the chunk of rings.
abbrev pub metadata_record : Framed
metadata_record = record { at = 68; size = 257; type_at = 70; type_id = 0; body = 71 }

abbrev pub record_a : Framed
record_a = record { at = 325; size = 5; type_at = 326; type_id = 8; body = 327 }

abbrev pub record_b : Framed
record_b = record { at = 330; size = 3; type_at = 331; type_id = 9; body = 332 }

abbrev pub checkpoint : Framed
checkpoint = record { at = 333; size = 29; type_at = 334; type_id = 1; body = 335 }

abbrev pub body : Body
body = record {
  start = 0;
  duration = 0;
  id = 1;
  strings = codes "root" ∷ codes "metadata" ∷ codes "class" ∷ codes "name" ∷ codes "id" ∷ codes "superType" ∷ codes "field" ∷ codes "constantPool" ∷ codes "true" ∷ codes "long" ∷ codes
      "java.lang.String" ∷ codes "t.Node" ∷ codes "t.A" ∷ codes "t.B" ∷ codes "jdk.jfr.Event" ∷ codes "5" ∷ codes "6" ∷ codes "7" ∷ codes "8" ∷ codes "9" ∷ codes "next" ∷ codes "text" ∷ codes "n"
      ∷ codes "node" ∷ [];
  root = tree 239 0 ([]) ((tree 242 1 ([])
      ((tree 245 2 ((3, 9) ∷ (4, 15) ∷ []) ([])) ∷ (tree 252 2 ((3, 10) ∷ (4, 16) ∷ []) ([]))
      ∷ (tree 259 2 ((3, 11) ∷ (4, 17) ∷ []) ((tree 266 6 ((3, 20) ∷ (2, 17) ∷ (7, 8) ∷ []) ([])) ∷ (tree 275 6 ((3, 21) ∷ (2, 16) ∷ []) ([])) ∷ []))
      ∷ (tree 282 2 ((3, 12) ∷ (4, 18) ∷ (5, 14) ∷ []) ((tree 291 6 ((3, 22) ∷ (2, 15) ∷ []) ([])) ∷ (tree 298 6 ((3, 23) ∷ (2, 17) ∷ (7, 8) ∷ []) ([])) ∷ []))
      ∷ (tree 307 2 ((3, 13) ∷ (4, 19) ∷ (5, 14) ∷ []) ((tree 316 6 ((3, 23) ∷ (2, 17) ∷ (7, 8) ∷ []) ([])) ∷ [])) ∷ [])) ∷ []);
}

abbrev pub classes : Classes
classes =
    record { id = 5; name = codes "long"; super_name = None; fields = []; categories = [] }
    ∷ record { id = 6; name = codes "java.lang.String"; super_name = None; fields = []; categories = [] }
    ∷ record {
      id = 7;
      name = codes "t.Node";
      super_name = None;
      fields = record { name = codes "next"; shape = record { class = 7; constant = true; array = false } }
          ∷ record { name = codes "text"; shape = record { class = 6; constant = false; array = false } } ∷ [];
      categories = [];
    }
    ∷ record {
      id = 8;
      name = codes "t.A";
      super_name = Some (codes "jdk.jfr.Event");
      fields = record { name = codes "n"; shape = record { class = 5; constant = false; array = false } }
          ∷ record { name = codes "node"; shape = record { class = 7; constant = true; array = false } } ∷ [];
      categories = [];
    }
    ∷ record {
      id = 9;
      name = codes "t.B";
      super_name = Some (codes "jdk.jfr.Event");
      fields = record { name = codes "node"; shape = record { class = 7; constant = true; array = false } } ∷ [];
      categories = [];
    } ∷ []

abbrev pub entry : ℕ → ℕ → ℕ → ℕ → EntryAt
entry key key_at value_at end = record { class = 7; key = key; key_at = key_at; value_at = value_at; end = end; checkpoint = 0; pool = 0 }

abbrev pub entries : List EntryAt
entries = entry 1 342 343 347 ∷ entry 2 347 348 352 ∷ entry 3 352 353 357 ∷ entry 4 357 358 362 ∷ []

abbrev pub link : Link
link = record { frame = checkpoint; delta_at = 337; delta_end = 338; delta = pos 0 }

abbrev pub rings_parts : Parts
rings_parts = record { bytes = rings; records = metadata_record ∷ record_a ∷ record_b ∷ checkpoint ∷ []; chain = link ∷ []; body = body; classes = classes; entries = entries }
