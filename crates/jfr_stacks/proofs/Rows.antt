-- A chunk whose stacks have texts that are computed.
use Rattle.std.specs.Prelude.{◌≡◌, ◌-◌, ℕ, [], ◌∷◌, ◌++◌, codes, flat_map, Some, None, false, true, refl}
use Rattle.std.specs.Char.{encode_utf8}
use Rattle.std.specs.FinMap as fin
use Rattle.std.specs.Fmt.{digits}
use Rattle.jfr_base.specs.Formats.{int_at, run}
use Rattle.jfr_text.specs.Strings.{string_format}
use Rattle.jfr_layout.specs.Classes.{kind_of}
use Rattle.jfr_layout.specs.declared.shape.Shape.{Shape}
use Rattle.jfr_meta.specs.Trees as trees
use Rattle.jfr_value.specs.Nodes.{value_of}
use Rattle.jfr_value.specs.Reading.{class_format, value_format}
use Rattle.jfr_pool.specs.Entries.{inline, number_in_force}
use Rattle.jfr_pool.specs.declared.entry.EntryAt.{EntryAt}
use Rattle.jfr_chunk.specs.Parts.{EventAt, Parts}
use Rattle.jfr_chunk.specs.Paths.{text_of}
use Rattle.jfr_stacks.specs.Folded.{counted, line}
use Rattle.jfr_stacks.specs.Frames.{frames_of}
use Rattle.jfr_stacks.specs.Texts.{escaped, name_text, stack_of}
use Rattle.jfr_stacks.proofs.FoldLaws.{get-counted}

abbrev reference : ℕ → Shape
reference id = record { class = id; constant = true; array = false }

abbrev entry : ℕ → ℕ → ℕ → ℕ → EntryAt
entry id key at end = record { class = id; key = key; key_at = at; value_at = at; end = end; checkpoint = 0; pool = 0 }

-- A stack trace with two frames, and one without frames. The first frame's method is `run` of the class `a b`;
-- the second refers to a method that doesn't exist. The last three bytes are the events: one for each trace,
-- and one whose trace doesn't exist.
abbrev chunk : Parts
chunk = record {
  bytes = 2 ∷ 1 ∷ 2 ∷ 0 ∷ 1 ∷ 1 ∷ 2 ∷ 5 ∷ 3 ∷ 114 ∷ 117 ∷ 110 ∷ 5 ∷ 3 ∷ 97 ∷ 32 ∷ 98 ∷ 1 ∷ 2 ∷ 0 ∷ [];
  records = [];
  chain = [];
  body = record { start = 0; duration = 0; id = 0; strings = []; root = trees.Node 0 0 [] trees.Nil };
  classes =
      record { id = 5; name = codes "java.lang.String"; super_name = None; fields = []; categories = [] }
      ∷ record { id = 6; name = codes "Symbol"; super_name = None; fields = record { name = codes "string"; shape = inline 5 } ∷ []; categories = [] }
      ∷ record { id = 7; name = codes "Class"; super_name = None; fields = record { name = codes "name"; shape = reference 6 } ∷ []; categories = [] }
      ∷ record {
        id = 8;
        name = codes "Method";
        super_name = None;
        fields = record { name = codes "type"; shape = reference 7 } ∷ record { name = codes "name"; shape = reference 6 } ∷ [];
        categories =
            [];
      }
      ∷ record { id = 9; name = codes "Frame"; super_name = None; fields = record { name = codes "method"; shape = reference 8 } ∷ []; categories = [] }
      ∷ record { id = 10; name = codes "Trace"; super_name = None; fields = record { name = codes "frames"; shape = record { class = 9; constant = false; array = true } } ∷ []; categories = [] }
      ∷ record { id = 11; name = codes "Event"; super_name = None; fields = record { name = codes "stackTrace"; shape = reference 10 } ∷ []; categories = [] }
      ∷ record { id = 12; name = codes "Other"; super_name = None; fields = record { name = codes "stackTrace"; shape = inline 10 } ∷ []; categories = [] }
      ∷ [];
  entries = entry 10 1 0 3 ∷ entry 10 2 3 4 ∷ entry 8 1 4 6 ∷ entry 7 1 6 7 ∷ entry 6 1 7 12 ∷ entry 6 2 12 17 ∷ [];
}

abbrev event : ℕ → ℕ → ℕ → EventAt
event id at end = record { record_of = record { at = at; size = end - at; type_at = at; type_id = id; body = at }; node = record { shape = inline id; at = at; end = end } }

frames_row : stack_of chunk (event 11 17 18) ≡ Some (codes "?.?;a\\u0020b.run")
unfolding run int_at string_format class_format value_format kind_of value_of number_in_force text_of frames_of name_text stack_of encode_utf8
frames_row = refl

no_frames_row : stack_of chunk (event 11 18 19) ≡ Some (codes "(empty)")
unfolding run int_at string_format class_format value_format kind_of value_of number_in_force text_of frames_of name_text stack_of encode_utf8
no_frames_row = refl

no_trace_row : stack_of chunk (event 11 19 20) ≡ None
unfolding run int_at string_format class_format value_format kind_of value_of number_in_force text_of frames_of name_text stack_of encode_utf8
no_trace_row = refl

-- An event of another class, whose fields are the first stack trace.
inline_row : stack_of chunk (event 12 0 3) ≡ Some (codes "?.?;a\\u0020b.run")
unfolding run int_at string_format class_format value_format kind_of value_of number_in_force text_of frames_of name_text stack_of encode_utf8
inline_row = refl

-- Names with special characters, and with one that isn't ASCII.
escaped_row : flat_map escaped (codes " ;\\<" ++ 31 ∷ 127 ∷ 233 ∷ []) ≡ codes "\\u0020\\u003b\\u005c<\\u001f\\u007f" ++ 195 ∷ 169 ∷ []
unfolding encode_utf8
escaped_row = refl

-- Texts are counted in any order. One that isn't there has no count.
counted_row : fin.get (counted (codes "b" ∷ codes "a" ∷ codes "b" ∷ [])) (codes "b") ≡ Some 2
counted_row = get-counted (codes "b" ∷ codes "a" ∷ codes "b" ∷ []) (codes "b")

no_count_row : fin.get (counted (codes "b" ∷ codes "a" ∷ codes "b" ∷ [])) (codes "ab") ≡ None
no_count_row = get-counted (codes "b" ∷ codes "a" ∷ codes "b" ∷ []) (codes "ab")

line_row : line (codes "a.b;c.d", 17) ≡ codes "a.b;c.d 17\n"
unfolding digits
line_row = refl
