-- Lines, words, values and pools, by computing.
use Rattle.std.specs.Prelude.{◌≡◌, ℕ, true, false, List, [], ◌∷◌, ◌++◌, Some, None, option_map, Err, codes, refl}
use lib.Utf8.{encode}
use Rattle.std.specs.Str.{chars, is_utf8}
use Rattle.jfr_base.specs.Decimal.{decimal_number}
use Rattle.jfr_base.specs.Integer.{spell}
use Rattle.jfr_layout.specs.Classes.{Class, Classes, kind_of}
use Rattle.jfr_layout.specs.declared.kind.Kind.TheVariants as kinds
use Rattle.jfr_value.specs.Values.{bytes_of}
use Rattle.jfr_meta.specs.Attributes.{id_of}
use Rattle.jfr_build.specs.declared.line.BuildLine.TheVariants as lines
use Rattle.jfr_build.specs.declared.lines.NumberedLine.{NumberedLine}
use Rattle.jfr_build.specs.Lines.{line_of, read_lines}
use Rattle.jfr_build.specs.LeafWords.{base_of, unquoted}
use Rattle.jfr_build.specs.Regions.{is_wide}
use Rattle.jfr_build.specs.Taking.{class_taken, value_taken}
use Rattle.jfr_build.specs.LineValues.{spelled_value}
use Rattle.jfr_build.specs.Built.{pools_of}
use Rattle.jfr_build.specs.Builds.{line_count}
use Rattle.jfr_build.specs.Laws.{quoted}

-- Lines.
class_is_read : line_of (codes "class 05 long") ≡ Some (lines.Class 5 (codes "long") false)
unfolding line_of id_of decimal_number chars is_utf8 encode
class_is_read = refl

field_is_read : line_of (codes "field n 5 ca") ≡ Some (lines.Field (codes "n") (record { class = 5; constant = true; array = true }))
unfolding line_of id_of decimal_number chars is_utf8 encode
field_is_read = refl

record_without_words : line_of (codes "record 8") ≡ Some (lines.Record 8 [])
unfolding line_of id_of decimal_number chars is_utf8 encode
record_without_words = refl

record_with_an_empty_word : line_of (codes "record 8 ") ≡ Some (lines.Record 8 ([] ∷ []))
unfolding line_of id_of decimal_number chars is_utf8 encode
record_with_an_empty_word = refl

region_is_read : line_of (codes "region en -007") ≡ Some (lines.Region (record { locale = codes "en"; offset = codes "-007" }))
unfolding line_of id_of decimal_number chars is_utf8 encode
region_is_read = refl

offset_with_a_plus : line_of (codes "region en +1") ≡ None
unfolding line_of id_of decimal_number chars is_utf8 encode
offset_with_a_plus = refl

two_spaces : line_of (codes "class 5  long") ≡ None
unfolding line_of id_of decimal_number chars is_utf8 encode
two_spaces = refl

second_line_is_bad : read_lines (codes "class 5 x" ++ 10 ∷ codes "foo" ++ 10 ∷ 255 ∷ []) ≡ Err 2
unfolding read_lines line_of id_of decimal_number chars is_utf8 encode
second_line_is_bad = refl

field_before_a_class : read_lines (10 ∷ codes "field n 5 -") ≡ Err 2
unfolding read_lines line_of id_of decimal_number chars is_utf8 encode
field_before_a_class = refl

class_after_a_value : read_lines (codes "constant 5 1" ++ 10 ∷ codes "class 5 x") ≡ Err 2
unfolding read_lines line_of id_of decimal_number chars is_utf8 encode
class_after_a_value = refl

second_region : read_lines (codes "region a 0" ++ 10 ∷ codes "region a 0") ≡ Err 2
unfolding read_lines line_of id_of decimal_number chars is_utf8 encode
second_region = refl

-- Numbers.
wide_offset : is_wide (codes "2147483648") ≡ true
unfolding decimal_number
wide_offset = refl

least_offset : is_wide (codes "-2147483648") ≡ false
unfolding decimal_number
least_offset = refl

minus_zero : base_of kinds.Long (codes "-0") ≡ Some (0 ∷ [])
unfolding decimal_number spell
minus_zero = refl

least_long : base_of kinds.Long (codes "-9223372036854775808") ≡ Some (128 ∷ 128 ∷ 128 ∷ 128 ∷ 128 ∷ 128 ∷ 128 ∷ 128 ∷ 128 ∷ [])
unfolding decimal_number spell
least_long = refl

too_large_long : base_of kinds.Long (codes "9223372036854775808") ≡ None
unfolding decimal_number spell
too_large_long = refl

twenty_digits : base_of kinds.Long (codes "00000000000000000001") ≡ None
unfolding decimal_number spell
twenty_digits = refl

negative_short : base_of kinds.Short (codes "-129") ≡ Some (255 ∷ 254 ∷ 3 ∷ [])
unfolding decimal_number spell
negative_short = refl

float_one : base_of kinds.Float (codes "0x3f800000") ≡ Some (63 ∷ 128 ∷ 0 ∷ 0 ∷ [])
float_one = refl

-- Strings: "a\u0020b", "", "\u0041", null and #7.
text_with_a_space : unquoted (34 ∷ 97 ∷ 92 ∷ codes "u0020b" ++ 34 ∷ []) ≡ Some (codes "a b")
text_with_a_space = refl

other_escape : unquoted (34 ∷ 92 ∷ codes "u0041" ++ 34 ∷ []) ≡ None
other_escape = refl

text_is_spelled : base_of kinds.Text (34 ∷ 97 ∷ 92 ∷ codes "u0020b" ++ 34 ∷ []) ≡ Some (3 ∷ 3 ∷ 97 ∷ 32 ∷ 98 ∷ [])
unfolding id_of decimal_number spell
text_is_spelled = refl

empty_text : base_of kinds.Text (34 ∷ 34 ∷ []) ≡ Some (1 ∷ [])
unfolding id_of decimal_number spell
empty_text = refl

null_string : base_of kinds.Text (codes "null") ≡ Some (0 ∷ [])
null_string = refl

key_string : base_of kinds.Text (codes "#7") ≡ Some (2 ∷ 7 ∷ [])
unfolding id_of decimal_number spell
key_string = refl

text_is_quoted : quoted (codes "a b") ≡ 34 ∷ 97 ∷ 92 ∷ codes "u0020b" ++ 34 ∷ []
text_is_quoted = refl

-- The value of an event with an array of references.
abbrev nodes : Classes
nodes = record {
  id = 8;
  name = codes "t.A";
  super_name = Some (codes "jdk.jfr.Event");
  fields = record { name = codes "nodes"; shape = record { class = 8; constant = true; array = true } } ∷ [];
  categories = [];
} ∷ []

two_references : option_map bytes_of (spelled_value nodes 8 (codes "[2" ∷ codes "#300" ∷ codes "#1" ∷ [])) ≡ Some (2 ∷ 172 ∷ 2 ∷ 1 ∷ [])
unfolding value_taken class_taken kind_of id_of decimal_number spell
two_references = refl

one_word_too_few : spelled_value nodes 8 (codes "[2" ∷ codes "#300" ∷ []) ≡ None
unfolding value_taken class_taken kind_of id_of decimal_number spell
one_word_too_few = refl

one_word_too_many : spelled_value nodes 8 (codes "[0" ∷ codes "#1" ∷ []) ≡ None
unfolding value_taken class_taken kind_of id_of decimal_number spell
one_word_too_many = refl

-- Pools are in the order of their first lines, entries in line order.
abbrev constants : List NumberedLine
constants = record { number = 3; line = lines.Constant 7 2 [] } ∷ record { number = 4; line = lines.Constant 5 1 [] } ∷ record { number = 5; line = lines.Constant 7 1 [] } ∷ []

abbrev empty_class : ℕ → Class
empty_class id = record { id = id; name = codes "x"; super_name = None; fields = []; categories = [] }

two_pools : pools_of (empty_class 5 ∷ empty_class 7 ∷ []) constants ≡ 2 ∷ 7 ∷ 2 ∷ 2 ∷ 1 ∷ 5 ∷ 1 ∷ 1 ∷ []
unfolding value_taken class_taken kind_of spell
two_pools = refl

-- Lines are counted with or without the last newline.
newline_at_the_end : line_count (codes "a" ++ 10 ∷ codes "b" ++ 10 ∷ []) ≡ 2
newline_at_the_end = refl

no_newline_at_the_end : line_count (codes "a" ++ 10 ∷ codes "b") ≡ 2
no_newline_at_the_end = refl
