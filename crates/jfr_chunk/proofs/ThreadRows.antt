-- A chunk with classes and events named as the JDK's: the threads of its events.
use Rattle.std.specs.Prelude.{◌≡◌, ℕ, List, [], ◌∷◌, ◌++◌, map, Option, Some, None, Result, Ok, Err, refl, codes}
use Rattle.bstr.specs.Utf8.{pieces_from}
use Rattle.jfr_base.specs.declared.flaw.Flaw.{Flaw}
use Rattle.jfr_base.specs.Decimal.{decimal_number}
use Rattle.jfr_base.specs.Formats.{run, int_at}
use Rattle.jfr_text.specs.Strings.{string_format}
use Rattle.jfr_layout.specs.Classes.{class_faults, kind_of, is_event_class}
use Rattle.jfr_frame.specs.Records.{records_of, record_at}
use Rattle.jfr_meta.specs.Attributes.{id_of}
use Rattle.jfr_meta.specs.Body.{meta_format, body_format, element_format}
use Rattle.jfr_meta.specs.Described.{described, class_flaws, classes_of, class_of, field_of, shape_of}
use Rattle.jfr_value.specs.Reading.{class_format, value_format}
use Rattle.jfr_value.specs.Nodes.{value_of}
use Rattle.jfr_pool.specs.Chains.{chain_of}
use Rattle.jfr_pool.specs.Entries.{checkpoint_format, number_in_force}
use Rattle.jfr_chunk.specs.Parts.{Parts, events_of}
use Rattle.jfr_chunk.specs.Paths.{text_of, named_text}
use Rattle.jfr_chunk.specs.Refusal.{read_parts}
use Rattle.jfr_chunk.proofs.Chunks.{header, string_ring}

-- Two checkpoints, of which the later has a key of the earlier again, around three events and the metadata.
abbrev pub jdk_like : List ℕ
jdk_like = header 1369 1269 178 ++ 205 ∷ 128 ∷ 128 ∷ 0 ∷ 1 ∷ 0 ∷ 0 ∷ 0 ∷ 0 ∷ 2 ∷ 30 ∷ 2 ∷ 1 ∷ 3 ∷ 4 ∷ 109 ∷ 97 ∷ 105 ∷ 110 ∷ 100 ∷ 3 ∷ 4 ∷ 109 ∷ 97 ∷ 105 ∷ 110 ∷ 1 ∷ 2 ∷ 3 ∷ 1 ∷ 119 ∷ 101 ∷ 3 ∷ 8
    ∷ 119 ∷ 111 ∷ 114 ∷ 107 ∷ 101 ∷ 114 ∷ 45 ∷ 49 ∷ 2 ∷ 32 ∷ 3 ∷ 1 ∷ 3 ∷ 16 ∷ 106 ∷ 97 ∷ 118 ∷ 97 ∷ 47 ∷ 108 ∷ 97 ∷ 110 ∷ 103 ∷ 47 ∷ 79 ∷ 98 ∷ 106 ∷ 101 ∷ 99 ∷ 116 ∷ 2 ∷ 3 ∷ 4 ∷ 119 ∷ 97 ∷ 105 ∷ 116
    ∷ 3 ∷ 3 ∷ 3 ∷ 40 ∷ 41 ∷ 86 ∷ 139 ∷ 128 ∷ 128 ∷ 0 ∷ 101 ∷ 232 ∷ 7 ∷ 50 ∷ 1 ∷ 1 ∷ 1 ∷ 139 ∷ 128 ∷ 128 ∷ 0 ∷ 102 ∷ 204 ∷ 8 ∷ 60 ∷ 2 ∷ 2 ∷ 2 ∷ 139 ∷ 128 ∷ 128 ∷ 0 ∷ 103 ∷ 176 ∷ 9 ∷ 62 ∷ 128 ∷ 0 ∷ 0
    ∷ 195 ∷ 136 ∷ 128 ∷ 0 ∷ 0 ∷ 0 ∷ 0 ∷ 1 ∷ 70 ∷ 3 ∷ 4 ∷ 114 ∷ 111 ∷ 111 ∷ 116 ∷ 3 ∷ 8 ∷ 109 ∷ 101 ∷ 116 ∷ 97 ∷ 100 ∷ 97 ∷ 116 ∷ 97 ∷ 3 ∷ 5 ∷ 99 ∷ 108 ∷ 97 ∷ 115 ∷ 115 ∷ 3 ∷ 4 ∷ 110 ∷ 97 ∷ 109 ∷ 101
    ∷ 3 ∷ 4 ∷ 108 ∷ 111 ∷ 110 ∷ 103 ∷ 3 ∷ 2 ∷ 105 ∷ 100 ∷ 3 ∷ 2 ∷ 50 ∷ 48 ∷ 3 ∷ 3 ∷ 105 ∷ 110 ∷ 116 ∷ 3 ∷ 2 ∷ 50 ∷ 49 ∷ 3 ∷ 16 ∷ 106 ∷ 97 ∷ 118 ∷ 97 ∷ 46 ∷ 108 ∷ 97 ∷ 110 ∷ 103 ∷ 46 ∷ 83 ∷ 116 ∷ 114
    ∷ 105 ∷ 110 ∷ 103 ∷ 3 ∷ 2 ∷ 50 ∷ 50 ∷ 3 ∷ 7 ∷ 98 ∷ 111 ∷ 111 ∷ 108 ∷ 101 ∷ 97 ∷ 110 ∷ 3 ∷ 2 ∷ 50 ∷ 51 ∷ 3 ∷ 5 ∷ 102 ∷ 108 ∷ 111 ∷ 97 ∷ 116 ∷ 3 ∷ 2 ∷ 50 ∷ 52 ∷ 3 ∷ 16 ∷ 106 ∷ 100 ∷ 107 ∷ 46 ∷ 106
    ∷ 102 ∷ 114 ∷ 46 ∷ 67 ∷ 97 ∷ 116 ∷ 101 ∷ 103 ∷ 111 ∷ 114 ∷ 121 ∷ 3 ∷ 2 ∷ 50 ∷ 53 ∷ 3 ∷ 5 ∷ 102 ∷ 105 ∷ 101 ∷ 108 ∷ 100 ∷ 3 ∷ 5 ∷ 118 ∷ 97 ∷ 108 ∷ 117 ∷ 101 ∷ 3 ∷ 9 ∷ 100 ∷ 105 ∷ 109 ∷ 101 ∷ 110
    ∷ 115 ∷ 105 ∷ 111 ∷ 110 ∷ 3 ∷ 1 ∷ 49 ∷ 3 ∷ 16 ∷ 106 ∷ 97 ∷ 118 ∷ 97 ∷ 46 ∷ 108 ∷ 97 ∷ 110 ∷ 103 ∷ 46 ∷ 84 ∷ 104 ∷ 114 ∷ 101 ∷ 97 ∷ 100 ∷ 3 ∷ 2 ∷ 51 ∷ 48 ∷ 3 ∷ 6 ∷ 111 ∷ 115 ∷ 78 ∷ 97 ∷ 109 ∷ 101
    ∷ 3 ∷ 10 ∷ 111 ∷ 115 ∷ 84 ∷ 104 ∷ 114 ∷ 101 ∷ 97 ∷ 100 ∷ 73 ∷ 100 ∷ 3 ∷ 8 ∷ 106 ∷ 97 ∷ 118 ∷ 97 ∷ 78 ∷ 97 ∷ 109 ∷ 101 ∷ 3 ∷ 12 ∷ 106 ∷ 97 ∷ 118 ∷ 97 ∷ 84 ∷ 104 ∷ 114 ∷ 101 ∷ 97 ∷ 100 ∷ 73 ∷ 100
    ∷ 3 ∷ 15 ∷ 106 ∷ 97 ∷ 118 ∷ 97 ∷ 46 ∷ 108 ∷ 97 ∷ 110 ∷ 103 ∷ 46 ∷ 67 ∷ 108 ∷ 97 ∷ 115 ∷ 115 ∷ 3 ∷ 2 ∷ 51 ∷ 49 ∷ 3 ∷ 2 ∷ 51 ∷ 50 ∷ 3 ∷ 12 ∷ 99 ∷ 111 ∷ 110 ∷ 115 ∷ 116 ∷ 97 ∷ 110 ∷ 116 ∷ 80 ∷ 111
    ∷ 111 ∷ 108 ∷ 3 ∷ 4 ∷ 116 ∷ 114 ∷ 117 ∷ 101 ∷ 3 ∷ 9 ∷ 109 ∷ 111 ∷ 100 ∷ 105 ∷ 102 ∷ 105 ∷ 101 ∷ 114 ∷ 115 ∷ 3 ∷ 16 ∷ 106 ∷ 100 ∷ 107 ∷ 46 ∷ 116 ∷ 121 ∷ 112 ∷ 101 ∷ 115 ∷ 46 ∷ 83 ∷ 121 ∷ 109 ∷ 98
    ∷ 111 ∷ 108 ∷ 3 ∷ 6 ∷ 115 ∷ 116 ∷ 114 ∷ 105 ∷ 110 ∷ 103 ∷ 3 ∷ 16 ∷ 106 ∷ 100 ∷ 107 ∷ 46 ∷ 116 ∷ 121 ∷ 112 ∷ 101 ∷ 115 ∷ 46 ∷ 77 ∷ 101 ∷ 116 ∷ 104 ∷ 111 ∷ 100 ∷ 3 ∷ 2 ∷ 51 ∷ 51 ∷ 3 ∷ 4 ∷ 116 ∷ 121
    ∷ 112 ∷ 101 ∷ 3 ∷ 10 ∷ 100 ∷ 101 ∷ 115 ∷ 99 ∷ 114 ∷ 105 ∷ 112 ∷ 116 ∷ 111 ∷ 114 ∷ 3 ∷ 6 ∷ 104 ∷ 105 ∷ 100 ∷ 100 ∷ 101 ∷ 110 ∷ 3 ∷ 20 ∷ 106 ∷ 100 ∷ 107 ∷ 46 ∷ 116 ∷ 121 ∷ 112 ∷ 101 ∷ 115 ∷ 46 ∷ 83
    ∷ 116 ∷ 97 ∷ 99 ∷ 107 ∷ 70 ∷ 114 ∷ 97 ∷ 109 ∷ 101 ∷ 3 ∷ 2 ∷ 51 ∷ 52 ∷ 3 ∷ 6 ∷ 109 ∷ 101 ∷ 116 ∷ 104 ∷ 111 ∷ 100 ∷ 3 ∷ 10 ∷ 108 ∷ 105 ∷ 110 ∷ 101 ∷ 78 ∷ 117 ∷ 109 ∷ 98 ∷ 101 ∷ 114 ∷ 3 ∷ 13 ∷ 98
    ∷ 121 ∷ 116 ∷ 101 ∷ 99 ∷ 111 ∷ 100 ∷ 101 ∷ 73 ∷ 110 ∷ 100 ∷ 101 ∷ 120 ∷ 3 ∷ 20 ∷ 106 ∷ 100 ∷ 107 ∷ 46 ∷ 116 ∷ 121 ∷ 112 ∷ 101 ∷ 115 ∷ 46 ∷ 83 ∷ 116 ∷ 97 ∷ 99 ∷ 107 ∷ 84 ∷ 114 ∷ 97 ∷ 99 ∷ 101 ∷ 3
    ∷ 2 ∷ 51 ∷ 53 ∷ 3 ∷ 9 ∷ 116 ∷ 114 ∷ 117 ∷ 110 ∷ 99 ∷ 97 ∷ 116 ∷ 101 ∷ 100 ∷ 3 ∷ 6 ∷ 102 ∷ 114 ∷ 97 ∷ 109 ∷ 101 ∷ 115 ∷ 3 ∷ 14 ∷ 106 ∷ 100 ∷ 107 ∷ 46 ∷ 84 ∷ 104 ∷ 114 ∷ 101 ∷ 97 ∷ 100 ∷ 80 ∷ 97
    ∷ 114 ∷ 107 ∷ 3 ∷ 3 ∷ 49 ∷ 48 ∷ 49 ∷ 3 ∷ 9 ∷ 115 ∷ 117 ∷ 112 ∷ 101 ∷ 114 ∷ 84 ∷ 121 ∷ 112 ∷ 101 ∷ 3 ∷ 13 ∷ 106 ∷ 100 ∷ 107 ∷ 46 ∷ 106 ∷ 102 ∷ 114 ∷ 46 ∷ 69 ∷ 118 ∷ 101 ∷ 110 ∷ 116 ∷ 3 ∷ 9 ∷ 115
    ∷ 116 ∷ 97 ∷ 114 ∷ 116 ∷ 84 ∷ 105 ∷ 109 ∷ 101 ∷ 3 ∷ 8 ∷ 100 ∷ 117 ∷ 114 ∷ 97 ∷ 116 ∷ 105 ∷ 111 ∷ 110 ∷ 3 ∷ 11 ∷ 101 ∷ 118 ∷ 101 ∷ 110 ∷ 116 ∷ 84 ∷ 104 ∷ 114 ∷ 101 ∷ 97 ∷ 100 ∷ 3 ∷ 10 ∷ 115 ∷ 116
    ∷ 97 ∷ 99 ∷ 107 ∷ 84 ∷ 114 ∷ 97 ∷ 99 ∷ 101 ∷ 3 ∷ 11 ∷ 112 ∷ 97 ∷ 114 ∷ 107 ∷ 101 ∷ 100 ∷ 67 ∷ 108 ∷ 97 ∷ 115 ∷ 115 ∷ 3 ∷ 10 ∷ 97 ∷ 110 ∷ 110 ∷ 111 ∷ 116 ∷ 97 ∷ 116 ∷ 105 ∷ 111 ∷ 110 ∷ 3 ∷ 7 ∷ 118
    ∷ 97 ∷ 108 ∷ 117 ∷ 101 ∷ 45 ∷ 48 ∷ 3 ∷ 16 ∷ 74 ∷ 97 ∷ 118 ∷ 97 ∷ 32 ∷ 65 ∷ 112 ∷ 112 ∷ 108 ∷ 105 ∷ 99 ∷ 97 ∷ 116 ∷ 105 ∷ 111 ∷ 110 ∷ 3 ∷ 20 ∷ 106 ∷ 100 ∷ 107 ∷ 46 ∷ 74 ∷ 97 ∷ 118 ∷ 97 ∷ 77 ∷ 111
    ∷ 110 ∷ 105 ∷ 116 ∷ 111 ∷ 114 ∷ 69 ∷ 110 ∷ 116 ∷ 101 ∷ 114 ∷ 3 ∷ 3 ∷ 49 ∷ 48 ∷ 50 ∷ 3 ∷ 12 ∷ 109 ∷ 111 ∷ 110 ∷ 105 ∷ 116 ∷ 111 ∷ 114 ∷ 67 ∷ 108 ∷ 97 ∷ 115 ∷ 115 ∷ 3 ∷ 11 ∷ 106 ∷ 100 ∷ 107 ∷ 46
    ∷ 67 ∷ 80 ∷ 85 ∷ 76 ∷ 111 ∷ 97 ∷ 100 ∷ 3 ∷ 3 ∷ 49 ∷ 48 ∷ 51 ∷ 3 ∷ 12 ∷ 109 ∷ 97 ∷ 99 ∷ 104 ∷ 105 ∷ 110 ∷ 101 ∷ 84 ∷ 111 ∷ 116 ∷ 97 ∷ 108 ∷ 3 ∷ 16 ∷ 79 ∷ 112 ∷ 101 ∷ 114 ∷ 97 ∷ 116 ∷ 105 ∷ 110
    ∷ 103 ∷ 32 ∷ 83 ∷ 121 ∷ 115 ∷ 116 ∷ 101 ∷ 109 ∷ 3 ∷ 7 ∷ 118 ∷ 97 ∷ 108 ∷ 117 ∷ 101 ∷ 45 ∷ 49 ∷ 3 ∷ 9 ∷ 80 ∷ 114 ∷ 111 ∷ 99 ∷ 101 ∷ 115 ∷ 115 ∷ 111 ∷ 114 ∷ 0 ∷ 0 ∷ 1 ∷ 1 ∷ 0 ∷ 15 ∷ 2 ∷ 2 ∷ 3 ∷ 4
    ∷ 5 ∷ 6 ∷ 0 ∷ 2 ∷ 2 ∷ 3 ∷ 7 ∷ 5 ∷ 8 ∷ 0 ∷ 2 ∷ 2 ∷ 3 ∷ 9 ∷ 5 ∷ 10 ∷ 0 ∷ 2 ∷ 2 ∷ 3 ∷ 11 ∷ 5 ∷ 12 ∷ 0 ∷ 2 ∷ 2 ∷ 3 ∷ 13 ∷ 5 ∷ 14 ∷ 0 ∷ 2 ∷ 2 ∷ 3 ∷ 15 ∷ 5 ∷ 16 ∷ 1 ∷ 17 ∷ 3 ∷ 3 ∷ 18 ∷ 2 ∷ 10 ∷ 19 ∷ 20
    ∷ 0 ∷ 2 ∷ 2 ∷ 3 ∷ 21 ∷ 5 ∷ 22 ∷ 4 ∷ 17 ∷ 2 ∷ 3 ∷ 23 ∷ 2 ∷ 10 ∷ 0 ∷ 17 ∷ 2 ∷ 3 ∷ 24 ∷ 2 ∷ 6 ∷ 0 ∷ 17 ∷ 2 ∷ 3 ∷ 25 ∷ 2 ∷ 10 ∷ 0 ∷ 17 ∷ 2 ∷ 3 ∷ 26 ∷ 2 ∷ 6 ∷ 0 ∷ 2 ∷ 2 ∷ 3 ∷ 27 ∷ 5 ∷ 28 ∷ 2 ∷ 17 ∷ 3
    ∷ 3 ∷ 3 ∷ 2 ∷ 29 ∷ 30 ∷ 31 ∷ 0 ∷ 17 ∷ 2 ∷ 3 ∷ 32 ∷ 2 ∷ 8 ∷ 0 ∷ 2 ∷ 2 ∷ 3 ∷ 33 ∷ 5 ∷ 29 ∷ 1 ∷ 17 ∷ 2 ∷ 3 ∷ 34 ∷ 2 ∷ 10 ∷ 0 ∷ 2 ∷ 2 ∷ 3 ∷ 35 ∷ 5 ∷ 36 ∷ 5 ∷ 17 ∷ 3 ∷ 3 ∷ 37 ∷ 2 ∷ 28 ∷ 30 ∷ 31 ∷ 0
    ∷ 17 ∷ 3 ∷ 3 ∷ 3 ∷ 2 ∷ 29 ∷ 30 ∷ 31 ∷ 0 ∷ 17 ∷ 3 ∷ 3 ∷ 38 ∷ 2 ∷ 29 ∷ 30 ∷ 31 ∷ 0 ∷ 17 ∷ 2 ∷ 3 ∷ 32 ∷ 2 ∷ 8 ∷ 0 ∷ 17 ∷ 2 ∷ 3 ∷ 39 ∷ 2 ∷ 12 ∷ 0 ∷ 2 ∷ 2 ∷ 3 ∷ 40 ∷ 5 ∷ 41 ∷ 3 ∷ 17 ∷ 3 ∷ 3 ∷ 42 ∷ 2
    ∷ 36 ∷ 30 ∷ 31 ∷ 0 ∷ 17 ∷ 2 ∷ 3 ∷ 43 ∷ 2 ∷ 8 ∷ 0 ∷ 17 ∷ 2 ∷ 3 ∷ 44 ∷ 2 ∷ 8 ∷ 0 ∷ 2 ∷ 2 ∷ 3 ∷ 45 ∷ 5 ∷ 46 ∷ 2 ∷ 17 ∷ 2 ∷ 3 ∷ 47 ∷ 2 ∷ 12 ∷ 0 ∷ 17 ∷ 3 ∷ 3 ∷ 48 ∷ 2 ∷ 41 ∷ 19 ∷ 20 ∷ 0 ∷ 2 ∷ 3 ∷ 3
    ∷ 49 ∷ 5 ∷ 50 ∷ 51 ∷ 52 ∷ 6 ∷ 17 ∷ 2 ∷ 3 ∷ 53 ∷ 2 ∷ 6 ∷ 0 ∷ 17 ∷ 2 ∷ 3 ∷ 54 ∷ 2 ∷ 6 ∷ 0 ∷ 17 ∷ 3 ∷ 3 ∷ 55 ∷ 2 ∷ 22 ∷ 30 ∷ 31 ∷ 0 ∷ 17 ∷ 3 ∷ 3 ∷ 56 ∷ 2 ∷ 46 ∷ 30 ∷ 31 ∷ 0 ∷ 17 ∷ 3 ∷ 3 ∷ 57 ∷ 2 ∷ 28
    ∷ 30 ∷ 31 ∷ 0 ∷ 58 ∷ 2 ∷ 2 ∷ 16 ∷ 59 ∷ 60 ∷ 0 ∷ 2 ∷ 3 ∷ 3 ∷ 61 ∷ 5 ∷ 62 ∷ 51 ∷ 52 ∷ 6 ∷ 17 ∷ 2 ∷ 3 ∷ 53 ∷ 2 ∷ 6 ∷ 0 ∷ 17 ∷ 2 ∷ 3 ∷ 54 ∷ 2 ∷ 6 ∷ 0 ∷ 17 ∷ 3 ∷ 3 ∷ 55 ∷ 2 ∷ 22 ∷ 30 ∷ 31 ∷ 0 ∷ 17 ∷ 3
    ∷ 3 ∷ 56 ∷ 2 ∷ 46 ∷ 30 ∷ 31 ∷ 0 ∷ 17 ∷ 3 ∷ 3 ∷ 63 ∷ 2 ∷ 28 ∷ 30 ∷ 31 ∷ 0 ∷ 58 ∷ 2 ∷ 2 ∷ 16 ∷ 59 ∷ 60 ∷ 0 ∷ 2 ∷ 3 ∷ 3 ∷ 64 ∷ 5 ∷ 65 ∷ 51 ∷ 52 ∷ 3 ∷ 17 ∷ 2 ∷ 3 ∷ 53 ∷ 2 ∷ 6 ∷ 0 ∷ 17 ∷ 2 ∷ 3 ∷ 66 ∷ 2
    ∷ 14 ∷ 0 ∷ 58 ∷ 3 ∷ 2 ∷ 16 ∷ 59 ∷ 67 ∷ 68 ∷ 69 ∷ 0 ∷ 228 ∷ 128 ∷ 128 ∷ 0 ∷ 1 ∷ 0 ∷ 0 ∷ 207 ∷ 246 ∷ 255 ∷ 255 ∷ 255 ∷ 255 ∷ 255 ∷ 255 ∷ 255 ∷ 0 ∷ 5 ∷ 30 ∷ 1 ∷ 2 ∷ 3 ∷ 1 ∷ 119 ∷ 101 ∷ 3 ∷ 14 ∷ 119
    ∷ 111 ∷ 114 ∷ 107 ∷ 101 ∷ 114 ∷ 45 ∷ 114 ∷ 101 ∷ 110 ∷ 97 ∷ 109 ∷ 101 ∷ 100 ∷ 2 ∷ 31 ∷ 2 ∷ 1 ∷ 1 ∷ 1 ∷ 2 ∷ 4 ∷ 1 ∷ 32 ∷ 2 ∷ 4 ∷ 3 ∷ 8 ∷ 97 ∷ 112 ∷ 112 ∷ 47 ∷ 76 ∷ 111 ∷ 99 ∷ 107 ∷ 5 ∷ 3 ∷ 3 ∷ 114
    ∷ 117 ∷ 110 ∷ 33 ∷ 2 ∷ 1 ∷ 1 ∷ 2 ∷ 3 ∷ 1 ∷ 0 ∷ 2 ∷ 2 ∷ 5 ∷ 3 ∷ 1 ∷ 0 ∷ 35 ∷ 2 ∷ 1 ∷ 0 ∷ 1 ∷ 1 ∷ 10 ∷ 2 ∷ 2 ∷ 0 ∷ 2 ∷ 2 ∷ 20 ∷ 4 ∷ 1 ∷ 10 ∷ 2 ∷ []

-- The text to which these names lead from each event.
abbrev texts : List (List ℕ) → Result Parts Flaw → List (Option (List ℕ))
texts names (Ok p) = map (λ e. named_text p e.node names) (events_of p)
texts names (Err flaw) = []

threads : texts (codes "eventThread" ∷ codes "javaName" ∷ []) (read_parts jdk_like) ≡ Some (codes "main") ∷ Some (codes "worker-renamed") ∷ None ∷ []
unfolding run int_at string_format meta_format body_format element_format pieces_from described class_flaws classes_of class_of field_of shape_of id_of decimal_number class_faults kind_of read_parts records_of record_at chain_of checkpoint_format class_format value_format is_event_class events_of value_of number_in_force text_of named_text
threads = refl

parked_classes : texts (codes "parkedClass" ∷ codes "name" ∷ codes "string" ∷ []) (read_parts jdk_like) ≡ Some (codes "java/lang/Object") ∷ None ∷ None ∷ []
unfolding run int_at string_format meta_format body_format element_format pieces_from described class_flaws classes_of class_of field_of shape_of id_of decimal_number class_faults kind_of read_parts records_of record_at chain_of checkpoint_format class_format value_format is_event_class events_of value_of number_in_force text_of named_text
parked_classes = refl

-- Keys in a ring come to no text.
no_text : texts (codes "node" ∷ codes "text" ∷ []) (read_parts string_ring) ≡ None ∷ []
unfolding run int_at string_format meta_format body_format element_format pieces_from described class_flaws classes_of class_of field_of shape_of id_of decimal_number class_faults kind_of read_parts records_of record_at chain_of checkpoint_format class_format value_format is_event_class events_of value_of number_in_force text_of named_text
no_text = refl
