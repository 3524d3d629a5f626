-- Whole chunks and refusals, by computing.
use Rattle.std.specs.Prelude.{◌≡◌, [], ◌∷◌, ◌++◌, Ok, codes, refl}
use lib.Utf8.{encode}
use Rattle.std.specs.Fmt.{digits}
use Rattle.std.specs.Str.{chars, is_utf8}
use Rattle.jfr_base.specs.declared.reason.Reason.TheVariants.{ClassTwice, UnknownType}
use Rattle.jfr_base.specs.Decimal.{decimal_number}
use Rattle.jfr_base.specs.Integer.{spell, spell_in}
use Rattle.jfr_layout.specs.Classes.{class_faults, is_event_class, kind_of}
use Rattle.jfr_meta.specs.Attributes.{id_of}
use Rattle.jfr_meta.specs.Slimmed.{retabled, slim_body, slim_in, slim_root, table_of}
use Rattle.jfr_build.specs.declared.reason.BuildReason.TheVariants.{Class, ValueBad}
use Rattle.jfr_build.specs.Lines.{line_of, read_lines}
use Rattle.jfr_build.specs.Taking.{class_taken, value_taken}
use Rattle.jfr_build.specs.Described.{metadata_record}
use Rattle.jfr_build.specs.Builds.{build_of, chunk_of, refused}

one_constant : build_of (codes "class 1 float" ++ 10 ∷ codes "constant 1 0 0x3f800000") ≡ Ok (70 ∷ 76 ∷ 82 ∷ 0 ∷ 0 ∷ 2 ∷ 0 ∷ 1 ∷ 0 ∷ 0 ∷ 0 ∷ 0 ∷ 0 ∷ 0 ∷ 0 ∷ 152 ∷ 0 ∷ 0 ∷ 0 ∷ 0 ∷ 0 ∷ 0 ∷ 0 ∷ 134 ∷ 0 ∷ 0 ∷ 0 ∷ 0 ∷ 0 ∷ 0 ∷ 0 ∷ 68 ∷ 0 ∷ 0 ∷ 0 ∷ 0 ∷ 0 ∷ 0 ∷ 0 ∷ 0 ∷ 0 ∷ 0 ∷ 0 ∷ 0 ∷ 0 ∷ 0 ∷ 0 ∷ 0 ∷ 0 ∷ 0 ∷ 0 ∷ 0 ∷ 0 ∷ 0 ∷ 0 ∷ 0 ∷ 0 ∷ 0 ∷ 0 ∷ 0 ∷ 59 ∷ 154 ∷ 202 ∷ 0 ∷ 0 ∷ 0 ∷ 0 ∷ 3 ∷ 194 ∷ 128 ∷ 128 ∷ 128 ∷ 0 ∷ 0 ∷ 0 ∷ 0 ∷ 1 ∷ 7 ∷ 3 ∷ 4 ∷ 114 ∷ 111 ∷ 111 ∷ 116 ∷ 3 ∷ 8 ∷ 109 ∷ 101 ∷ 116 ∷ 97 ∷ 100 ∷ 97 ∷ 116 ∷ 97 ∷ 3 ∷ 5 ∷ 99 ∷ 108 ∷ 97 ∷ 115 ∷ 115 ∷ 3 ∷ 4 ∷ 110 ∷ 97 ∷ 109 ∷ 101 ∷ 3 ∷ 5 ∷ 102 ∷ 108 ∷ 111 ∷ 97 ∷ 116 ∷ 3 ∷ 2 ∷ 105 ∷ 100 ∷ 3 ∷ 1 ∷ 49 ∷ 0 ∷ 0 ∷ 1 ∷ 1 ∷ 0 ∷ 1 ∷ 2 ∷ 2 ∷ 3 ∷ 4 ∷ 5 ∷ 6 ∷ 0 ∷ 146 ∷ 128 ∷ 128 ∷ 128 ∷ 0 ∷ 1 ∷ 0 ∷ 0 ∷ 0 ∷ 0 ∷ 1 ∷ 1 ∷ 1 ∷ 0 ∷ 63 ∷ 128 ∷ 0 ∷ 0 ∷ [])
unfolding build_of chunk_of metadata_record class_taken value_taken read_lines line_of slim_in slim_body retabled table_of slim_root id_of decimal_number class_faults is_event_class kind_of spell spell_in chars is_utf8 encode digits
one_constant = refl

-- The example of docs/FORMAT.md.
one_event : build_of (codes "region en 3600000" ++ 10 ∷ codes "class 5 long" ++ 10 ∷ codes "event 8 t.A" ++ 10 ∷ codes "field n 5 -" ++ 10 ∷ codes "record 8 300") ≡ Ok (70 ∷ 76 ∷ 82 ∷ 0 ∷ 0 ∷ 2 ∷ 0 ∷ 1 ∷ 0 ∷ 0 ∷ 0 ∷ 0 ∷ 0 ∷ 0 ∷ 1 ∷ 3 ∷ 0 ∷ 0 ∷ 0 ∷ 0 ∷ 0 ∷ 0 ∷ 0 ∷ 248 ∷ 0 ∷ 0 ∷ 0 ∷ 0 ∷ 0 ∷ 0 ∷ 0 ∷ 68 ∷ 0 ∷ 0 ∷ 0 ∷ 0 ∷ 0 ∷ 0 ∷ 0 ∷ 0 ∷ 0 ∷ 0 ∷ 0 ∷ 0 ∷ 0 ∷ 0 ∷ 0 ∷ 0 ∷ 0 ∷ 0 ∷ 0 ∷ 0 ∷ 0 ∷ 0 ∷ 0 ∷ 0 ∷ 0 ∷ 0 ∷ 0 ∷ 0 ∷ 59 ∷ 154 ∷ 202 ∷ 0 ∷ 0 ∷ 0 ∷ 0 ∷ 3 ∷ 172 ∷ 129 ∷ 128 ∷ 128 ∷ 0 ∷ 0 ∷ 0 ∷ 0 ∷ 1 ∷ 18 ∷ 3 ∷ 4 ∷ 114 ∷ 111 ∷ 111 ∷ 116 ∷ 3 ∷ 8 ∷ 109 ∷ 101 ∷ 116 ∷ 97 ∷ 100 ∷ 97 ∷ 116 ∷ 97 ∷ 3 ∷ 5 ∷ 99 ∷ 108 ∷ 97 ∷ 115 ∷ 115 ∷ 3 ∷ 4 ∷ 110 ∷ 97 ∷ 109 ∷ 101 ∷ 3 ∷ 4 ∷ 108 ∷ 111 ∷ 110 ∷ 103 ∷ 3 ∷ 2 ∷ 105 ∷ 100 ∷ 3 ∷ 1 ∷ 53 ∷ 3 ∷ 3 ∷ 116 ∷ 46 ∷ 65 ∷ 3 ∷ 1 ∷ 56 ∷ 3 ∷ 9 ∷ 115 ∷ 117 ∷ 112 ∷ 101 ∷ 114 ∷ 84 ∷ 121 ∷ 112 ∷ 101 ∷ 3 ∷ 13 ∷ 106 ∷ 100 ∷ 107 ∷ 46 ∷ 106 ∷ 102 ∷ 114 ∷ 46 ∷ 69 ∷ 118 ∷ 101 ∷ 110 ∷ 116 ∷ 3 ∷ 5 ∷ 102 ∷ 105 ∷ 101 ∷ 108 ∷ 100 ∷ 3 ∷ 1 ∷ 110 ∷ 3 ∷ 6 ∷ 114 ∷ 101 ∷ 103 ∷ 105 ∷ 111 ∷ 110 ∷ 3 ∷ 6 ∷ 108 ∷ 111 ∷ 99 ∷ 97 ∷ 108 ∷ 101 ∷ 3 ∷ 2 ∷ 101 ∷ 110 ∷ 3 ∷ 9 ∷ 103 ∷ 109 ∷ 116 ∷ 79 ∷ 102 ∷ 102 ∷ 115 ∷ 101 ∷ 116 ∷ 3 ∷ 7 ∷ 51 ∷ 54 ∷ 48 ∷ 48 ∷ 48 ∷ 48 ∷ 48 ∷ 0 ∷ 0 ∷ 2 ∷ 1 ∷ 0 ∷ 2 ∷ 2 ∷ 2 ∷ 3 ∷ 4 ∷ 5 ∷ 6 ∷ 0 ∷ 2 ∷ 3 ∷ 3 ∷ 7 ∷ 5 ∷ 8 ∷ 9 ∷ 10 ∷ 1 ∷ 11 ∷ 2 ∷ 3 ∷ 12 ∷ 2 ∷ 6 ∷ 0 ∷ 13 ∷ 2 ∷ 14 ∷ 15 ∷ 16 ∷ 17 ∷ 0 ∷ 136 ∷ 128 ∷ 128 ∷ 128 ∷ 0 ∷ 8 ∷ 172 ∷ 2 ∷ 139 ∷ 128 ∷ 128 ∷ 128 ∷ 0 ∷ 1 ∷ 0 ∷ 0 ∷ 0 ∷ 0 ∷ 0 ∷ [])
unfolding build_of chunk_of metadata_record class_taken value_taken read_lines line_of slim_in slim_body retabled table_of slim_root id_of decimal_number class_faults is_event_class kind_of spell spell_in chars is_utf8 encode digits
one_event = refl

bad_value : build_of (codes "class 5 long" ++ 10 ∷ codes "event 8 t.A" ++ 10 ∷ codes "field n 5 -" ++ 10 ∷ codes "record 8 x") ≡ refused 4 (ValueBad)
unfolding build_of chunk_of metadata_record class_taken value_taken read_lines line_of slim_in slim_body retabled table_of slim_root id_of decimal_number class_faults is_event_class kind_of spell spell_in chars is_utf8 encode digits
bad_value = refl

record_of_no_event : build_of (codes "class 5 x" ++ 10 ∷ codes "record 5") ≡ refused 2 (ValueBad)
unfolding build_of chunk_of metadata_record class_taken value_taken read_lines line_of slim_in slim_body retabled table_of slim_root id_of decimal_number class_faults is_event_class kind_of spell spell_in chars is_utf8 encode digits
record_of_no_event = refl

unknown_type : build_of (codes "class 5 long" ++ 10 ∷ codes "event 8 t.A" ++ 10 ∷ codes "field n 6 -" ++ 10 ∷ codes "record 8 300") ≡ refused 3 (Class UnknownType)
unfolding build_of chunk_of metadata_record class_taken value_taken read_lines line_of slim_in slim_body retabled table_of slim_root id_of decimal_number class_faults is_event_class kind_of spell spell_in chars is_utf8 encode digits
unknown_type = refl

class_twice : build_of (codes "class 5 long" ++ 10 ∷ codes "class 5 long" ++ 10 ∷ codes "constant 5 1 x") ≡ refused 2 (Class ClassTwice)
unfolding build_of chunk_of metadata_record class_taken value_taken read_lines line_of slim_in slim_body retabled table_of slim_root id_of decimal_number class_faults is_event_class kind_of spell spell_in chars is_utf8 encode digits
class_twice = refl
