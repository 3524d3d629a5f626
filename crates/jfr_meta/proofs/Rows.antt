-- Two metadata records, and one refused case of each stage. Offsets count from the record's first byte.
use Rattle.std.specs.Prelude.{◌≡◌, ℕ, true, false, List, [], ◌∷◌, ◌++◌, Some, None, Result, Ok, Err, codes, refl, slice_set}
use Rattle.bstr.specs.Utf8.{pieces_from}
use Rattle.jfr_base.specs.declared.reason.Reason.TheVariants.{Short, Trailing, StringKind, StringIndex, TreeDeep, NoClasses, ClassBad, ClassTwice, FieldBad, FieldTwice, UnknownType, EmptyInline, InlineDeep}
use Rattle.jfr_base.specs.declared.flaw.Flaw.{Flaw}
use Rattle.jfr_base.specs.Decimal.{decimal_number}
use Rattle.jfr_base.specs.Formats.{run, int_at, Answer}
use Rattle.jfr_text.specs.Strings.{string_format}
use Rattle.jfr_layout.specs.Classes.{Classes, class_faults, kind_of}
use Rattle.jfr_meta.specs.Trees.{tree}
use Rattle.jfr_meta.specs.Attributes.{id_of}
use Rattle.jfr_meta.specs.Body.{Body, body_format, meta_format, element_format}
use Rattle.jfr_meta.specs.Described.{described, classes_of, class_of, field_of, shape_of, class_flaws}

-- The metadata record of the plain chunk.
abbrev plain : List ℕ
plain = 28 ∷ 0 ∷ 0 ∷ 0 ∷ 1 ∷ 2 ∷ 3 ∷ 4 ∷ 114 ∷ 111 ∷ 111 ∷ 116 ∷ 3 ∷ 8 ∷ 109 ∷ 101 ∷ 116 ∷ 97 ∷ 100 ∷ 97 ∷ 116 ∷ 97 ∷ 0 ∷ 0 ∷ 1 ∷ 1 ∷ 0 ∷ 0 ∷ []

plain_body : run meta_format plain 28 2 ≡ Ok (record { value = record { start = 0; duration = 0; id = 1; strings = codes "root" ∷ codes "metadata" ∷ []; root = tree 22 0 ([]) ((tree 25 1 ([]) ([])) ∷ []) }; place = 28 })
unfolding run int_at string_format meta_format body_format element_format pieces_from
plain_body = refl

-- The metadata record of the chunk of rings.
abbrev rings : List ℕ
rings = 129 ∷ 2 ∷ 0 ∷ 0 ∷ 0 ∷ 1 ∷ 24 ∷ 3 ∷ 4 ∷ 114 ∷ 111 ∷ 111 ∷ 116 ∷ 3 ∷ 8 ∷ 109 ∷ 101 ∷ 116 ∷ 97 ∷ 100 ∷ 97 ∷ 116 ∷ 97 ∷ 3 ∷ 5 ∷ 99 ∷ 108 ∷ 97 ∷ 115 ∷ 115 ∷ 3 ∷ 4 ∷ 110 ∷ 97 ∷ 109 ∷ 101 ∷ 3 ∷ 2
    ∷ 105 ∷ 100 ∷ 3 ∷ 9 ∷ 115 ∷ 117 ∷ 112 ∷ 101 ∷ 114 ∷ 84 ∷ 121 ∷ 112 ∷ 101 ∷ 3 ∷ 5 ∷ 102 ∷ 105 ∷ 101 ∷ 108 ∷ 100 ∷ 3 ∷ 12 ∷ 99 ∷ 111 ∷ 110 ∷ 115 ∷ 116 ∷ 97 ∷ 110 ∷ 116 ∷ 80 ∷ 111 ∷ 111 ∷ 108 ∷ 3 ∷ 4
    ∷ 116 ∷ 114 ∷ 117 ∷ 101 ∷ 3 ∷ 4 ∷ 108 ∷ 111 ∷ 110 ∷ 103 ∷ 3 ∷ 16 ∷ 106 ∷ 97 ∷ 118 ∷ 97 ∷ 46 ∷ 108 ∷ 97 ∷ 110 ∷ 103 ∷ 46 ∷ 83 ∷ 116 ∷ 114 ∷ 105 ∷ 110 ∷ 103 ∷ 3 ∷ 6 ∷ 116 ∷ 46 ∷ 78 ∷ 111 ∷ 100 ∷ 101
    ∷ 3 ∷ 3 ∷ 116 ∷ 46 ∷ 65 ∷ 3 ∷ 3 ∷ 116 ∷ 46 ∷ 66 ∷ 3 ∷ 13 ∷ 106 ∷ 100 ∷ 107 ∷ 46 ∷ 106 ∷ 102 ∷ 114 ∷ 46 ∷ 69 ∷ 118 ∷ 101 ∷ 110 ∷ 116 ∷ 3 ∷ 1 ∷ 53 ∷ 3 ∷ 1 ∷ 54 ∷ 3 ∷ 1 ∷ 55 ∷ 3 ∷ 1 ∷ 56 ∷ 3 ∷ 1 ∷ 57
    ∷ 3 ∷ 4 ∷ 110 ∷ 101 ∷ 120 ∷ 116 ∷ 3 ∷ 4 ∷ 116 ∷ 101 ∷ 120 ∷ 116 ∷ 3 ∷ 1 ∷ 110 ∷ 3 ∷ 4 ∷ 110 ∷ 111 ∷ 100 ∷ 101 ∷ 0 ∷ 0 ∷ 1 ∷ 1 ∷ 0 ∷ 5 ∷ 2 ∷ 2 ∷ 3 ∷ 9 ∷ 4 ∷ 15 ∷ 0 ∷ 2 ∷ 2 ∷ 3 ∷ 10 ∷ 4 ∷ 16 ∷ 0 ∷ 2
    ∷ 2 ∷ 3 ∷ 11 ∷ 4 ∷ 17 ∷ 2 ∷ 6 ∷ 3 ∷ 3 ∷ 20 ∷ 2 ∷ 17 ∷ 7 ∷ 8 ∷ 0 ∷ 6 ∷ 2 ∷ 3 ∷ 21 ∷ 2 ∷ 16 ∷ 0 ∷ 2 ∷ 3 ∷ 3 ∷ 12 ∷ 4 ∷ 18 ∷ 5 ∷ 14 ∷ 2 ∷ 6 ∷ 2 ∷ 3 ∷ 22 ∷ 2 ∷ 15 ∷ 0 ∷ 6 ∷ 3 ∷ 3 ∷ 23 ∷ 2 ∷ 17 ∷ 7 ∷ 8
    ∷ 0 ∷ 2 ∷ 3 ∷ 3 ∷ 13 ∷ 4 ∷ 19 ∷ 5 ∷ 14 ∷ 1 ∷ 6 ∷ 3 ∷ 3 ∷ 23 ∷ 2 ∷ 17 ∷ 7 ∷ 8 ∷ 0 ∷ []

abbrev rings_body : Body
rings_body = record {
  start = 0;
  duration = 0;
  id = 1;
  strings = codes "root" ∷ codes "metadata" ∷ codes "class" ∷ codes "name" ∷ codes "id" ∷ codes "superType" ∷ codes "field" ∷ codes "constantPool" ∷ codes "true" ∷ codes "long" ∷ codes
      "java.lang.String" ∷ codes "t.Node" ∷ codes "t.A" ∷ codes "t.B" ∷ codes "jdk.jfr.Event" ∷ codes "5" ∷ codes "6" ∷ codes "7" ∷ codes "8" ∷ codes "9" ∷ codes "next" ∷ codes "text" ∷ codes "n"
      ∷ codes "node" ∷ [];
  root = tree 171 0 ([]) ((tree 174 1 ([])
      ((tree 177 2 ((3, 9) ∷ (4, 15) ∷ []) ([])) ∷ (tree 184 2 ((3, 10) ∷ (4, 16) ∷ []) ([]))
      ∷ (tree 191 2 ((3, 11) ∷ (4, 17) ∷ []) ((tree 198 6 ((3, 20) ∷ (2, 17) ∷ (7, 8) ∷ []) ([])) ∷ (tree 207 6 ((3, 21) ∷ (2, 16) ∷ []) ([])) ∷ []))
      ∷ (tree 214 2 ((3, 12) ∷ (4, 18) ∷ (5, 14) ∷ []) ((tree 223 6 ((3, 22) ∷ (2, 15) ∷ []) ([])) ∷ (tree 230 6 ((3, 23) ∷ (2, 17) ∷ (7, 8) ∷ []) ([])) ∷ []))
      ∷ (tree 239 2 ((3, 13) ∷ (4, 19) ∷ (5, 14) ∷ []) ((tree 248 6 ((3, 23) ∷ (2, 17) ∷ (7, 8) ∷ []) ([])) ∷ [])) ∷ [])) ∷ []);
}

rings_is_read : run meta_format rings 257 3 ≡ Ok (record { value = rings_body; place = 257 })
unfolding run int_at string_format meta_format body_format element_format pieces_from
rings_is_read = refl

rings_classes : described rings_body ≡ Ok (record { id = 5; name = codes "long"; super_name = None; fields = []; categories = [] } ∷ record { id = 6; name = codes "java.lang.String"; super_name = None; fields = []; categories = [] } ∷ record { id = 7; name = codes "t.Node"; super_name = None; fields = record { name = codes "next"; shape = record { class = 7; constant = true; array = false } } ∷ record { name = codes "text"; shape = record { class = 6; constant = false; array = false } } ∷ []; categories = [] } ∷ record { id = 8; name = codes "t.A"; super_name = Some (codes "jdk.jfr.Event"); fields = record { name = codes "n"; shape = record { class = 5; constant = false; array = false } } ∷ record { name = codes "node"; shape = record { class = 7; constant = true; array = false } } ∷ []; categories = [] } ∷ record { id = 9; name = codes "t.B"; super_name = Some (codes "jdk.jfr.Event"); fields = record { name = codes "node"; shape = record { class = 7; constant = true; array = false } } ∷ []; categories = [] } ∷ [])
unfolding described class_flaws classes_of class_of field_of shape_of id_of decimal_number class_faults kind_of
rings_classes = refl

-- The classes of a record, or its fault.
abbrev answer_of : Answer Body → Result Classes Flaw
answer_of (Ok g) = described g.value
answer_of (Err f) = Err f

cut_short : answer_of (run meta_format plain 27 2) ≡ Err (record { offset = 27; reason = Short })
unfolding run int_at string_format meta_format body_format element_format pieces_from described class_flaws classes_of class_of field_of shape_of id_of decimal_number class_faults kind_of
cut_short = refl

left_over : answer_of (run meta_format (plain ++ 0 ∷ []) 29 2) ≡ Err (record { offset = 28; reason = Trailing })
unfolding run int_at string_format meta_format body_format element_format pieces_from described class_flaws classes_of class_of field_of shape_of id_of decimal_number class_faults kind_of
left_over = refl

a_key : answer_of (run meta_format (slice_set plain 6 2) 28 2) ≡ Err (record { offset = 6; reason = StringKind })
unfolding run int_at string_format meta_format body_format element_format pieces_from described class_flaws classes_of class_of field_of shape_of id_of decimal_number class_faults kind_of
a_key = refl

no_kind : answer_of (run meta_format (slice_set plain 6 6) 28 2) ≡ Err (record { offset = 6; reason = StringKind })
unfolding run int_at string_format meta_format body_format element_format pieces_from described class_flaws classes_of class_of field_of shape_of id_of decimal_number class_faults kind_of
no_kind = refl

no_string : answer_of (run meta_format (slice_set plain 22 2) 28 2) ≡ Err (record { offset = 22; reason = StringIndex })
unfolding run int_at string_format meta_format body_format element_format pieces_from described class_flaws classes_of class_of field_of shape_of id_of decimal_number class_faults kind_of
no_string = refl

no_classes : answer_of (run meta_format (slice_set plain 25 0) 28 2) ≡ Err (record { offset = 22; reason = NoClasses })
unfolding run int_at string_format meta_format body_format element_format pieces_from described class_flaws classes_of class_of field_of shape_of id_of decimal_number class_faults kind_of
no_classes = refl

too_deep : answer_of (run meta_format (28 ∷ 0 ∷ 0 ∷ 0 ∷ 1 ∷ 2 ∷ 3 ∷ 4 ∷ 114 ∷ 111 ∷ 111 ∷ 116 ∷ 3 ∷ 8 ∷ 109 ∷ 101 ∷ 116 ∷ 97 ∷ 100 ∷ 97 ∷ 116 ∷ 97 ∷ 1 ∷ 0 ∷ 1 ∷ 1 ∷ 0 ∷ 1 ∷ 1 ∷ 0 ∷ 1 ∷ 1 ∷ 0 ∷ 1 ∷ 1 ∷ 0 ∷ 1 ∷ 1 ∷ 0 ∷ 1 ∷ 1 ∷ 0 ∷ 1 ∷ 1 ∷ 0 ∷ 1 ∷ 1 ∷ 0 ∷ 1 ∷ 1 ∷ 0 ∷ 1 ∷ 1 ∷ 0 ∷ 1 ∷ 1 ∷ 0 ∷ 1 ∷ 1 ∷ 0 ∷ 1 ∷ 1 ∷ 0 ∷ 1 ∷ 1 ∷ 0 ∷ 1 ∷ 1 ∷ 0 ∷ 1 ∷ 1 ∷ 0 ∷ 0 ∷ []) 73 2) ≡ Err (record { offset = 70; reason = TreeDeep })
unfolding run int_at string_format meta_format body_format element_format pieces_from described class_flaws classes_of class_of field_of shape_of id_of decimal_number class_faults kind_of
too_deep = refl

-- Sixteen levels are read.
not_too_deep : answer_of (run meta_format (28 ∷ 0 ∷ 0 ∷ 0 ∷ 1 ∷ 2 ∷ 3 ∷ 4 ∷ 114 ∷ 111 ∷ 111 ∷ 116 ∷ 3 ∷ 8 ∷ 109 ∷ 101 ∷ 116 ∷ 97 ∷ 100 ∷ 97 ∷ 116 ∷ 97 ∷ 1 ∷ 0 ∷ 1 ∷ 1 ∷ 0 ∷ 1 ∷ 1 ∷ 0 ∷ 1 ∷ 1 ∷ 0 ∷ 1 ∷ 1 ∷ 0 ∷ 1 ∷ 1 ∷ 0 ∷ 1 ∷ 1 ∷ 0 ∷ 1 ∷ 1 ∷ 0 ∷ 1 ∷ 1 ∷ 0 ∷ 1 ∷ 1 ∷ 0 ∷ 1 ∷ 1 ∷ 0 ∷ 1 ∷ 1 ∷ 0 ∷ 1 ∷ 1 ∷ 0 ∷ 1 ∷ 1 ∷ 0 ∷ 1 ∷ 1 ∷ 0 ∷ 1 ∷ 1 ∷ 0 ∷ 0 ∷ []) 70 2) ≡ Ok []
unfolding run int_at string_format meta_format body_format element_format pieces_from described class_flaws classes_of class_of field_of shape_of id_of decimal_number class_faults kind_of
not_too_deep = refl

class_without_id : answer_of (run meta_format (slice_set rings 182 9) 257 3) ≡ Err (record { offset = 177; reason = ClassBad })
unfolding run int_at string_format meta_format body_format element_format pieces_from described class_flaws classes_of class_of field_of shape_of id_of decimal_number class_faults kind_of
class_without_id = refl

id_twice : answer_of (run meta_format (slice_set rings 189 15) 257 3) ≡ Err (record { offset = 184; reason = ClassTwice })
unfolding run int_at string_format meta_format body_format element_format pieces_from described class_flaws classes_of class_of field_of shape_of id_of decimal_number class_faults kind_of
id_twice = refl

field_without_class : answer_of (run meta_format (slice_set rings 212 21) 257 3) ≡ Err (record { offset = 207; reason = FieldBad })
unfolding run int_at string_format meta_format body_format element_format pieces_from described class_flaws classes_of class_of field_of shape_of id_of decimal_number class_faults kind_of
field_without_class = refl

name_twice : answer_of (run meta_format (slice_set rings 210 20) 257 3) ≡ Err (record { offset = 207; reason = FieldTwice })
unfolding run int_at string_format meta_format body_format element_format pieces_from described class_flaws classes_of class_of field_of shape_of id_of decimal_number class_faults kind_of
name_twice = refl

class_not_there : answer_of (run meta_format (slice_set rings 177 6) 257 3) ≡ Err (record { offset = 223; reason = UnknownType })
unfolding run int_at string_format meta_format body_format element_format pieces_from described class_flaws classes_of class_of field_of shape_of id_of decimal_number class_faults kind_of
class_not_there = refl

empty_class_inline : answer_of (run meta_format (slice_set rings 180 13) 257 3) ≡ Err (record { offset = 223; reason = EmptyInline })
unfolding run int_at string_format meta_format body_format element_format pieces_from described class_flaws classes_of class_of field_of shape_of id_of decimal_number class_faults kind_of
empty_class_inline = refl

within_itself : answer_of (run meta_format (slice_set rings 204 8) 257 3) ≡ Err (record { offset = 191; reason = InlineDeep })
unfolding run int_at string_format meta_format body_format element_format pieces_from described class_flaws classes_of class_of field_of shape_of id_of decimal_number class_faults kind_of
within_itself = refl
