-- Values whose text is computed.
use Rattle.std.specs.Prelude.{◌≡◌, ℕ, List, [], ◌∷◌, ◌++◌, codes, map, Some, None, false, true, refl}
use Rattle.std.specs.FinMap as fin
use Rattle.std.proofs.Common.{ap}
use Rattle.std.specs.Fmt.{digits}
use Rattle.jfr_base.specs.Formats.{int_at, run}
use Rattle.jfr_layout.specs.Classes.{Class, Classes, kind_of}
use Rattle.jfr_layout.specs.declared.kind.Kind.TheVariants as kinds
use Rattle.jfr_layout.specs.declared.shape.Shape.{Shape}
use Rattle.jfr_value.specs.declared.leaf.LeafKind.TheVariants as leaf_kinds
use Rattle.jfr_value.specs.Values.{Value, Single, Group, Nil, Cons}
use Rattle.jfr_value.specs.Nodes.{NodeAt, value_of}
use Rattle.jfr_value.specs.Reading.{class_format, value_format}
use Rattle.jfr_pool.specs.Entries.{number_in_force}
use Rattle.jfr_pool.specs.declared.entry.EntryAt.{EntryAt}
use Rattle.serde_json.specs.Data as written
use Rattle.serde_json.specs.View.{items_of}
use Rattle.serde_json.specs.Written.{compact_text}
use Rattle.serde_json.proofs.OnLiterals.{serde_json_on_literals}
use Rattle.jfr_meta.specs.Trees as trees
use Rattle.jfr_chunk.specs.Parts.{Parts}
use Rattle.jfr_show.specs.Json.{base_json, json_of, missing_json, reference_json}
use Rattle.jfr_show.specs.Leaves.{base_shown}
use Rattle.jfr_show.specs.Metadata.{class_json, metadata_json, metadata_shown}
use Rattle.jfr_show.specs.Shown.{event_shown, referred, shown, missing_shown, reference_shown}
use Rattle.jfr_show.specs.Texts.{quoted}
use Rattle.jfr_show.specs.declared.beginning.Beginning.{Beginning}
use Rattle.jfr_show.specs.declared.tally.Tally.{Tally}
use Rattle.jfr_show.specs.Totals.{Tallies, Totals, number_lines, summary_json, summary_shown, tallies_of, tally_json, totals_json}

abbrev plain : ℕ → Shape
plain id = record { class = id; constant = false; array = false }

abbrev reference : ℕ → Shape
reference id = record { class = id; constant = true; array = false }

abbrev array : ℕ → Shape
array id = record { class = id; constant = false; array = true }

abbrev classes : Classes
classes = record { id = 5; name = codes "long"; super_name = None; fields = []; categories = [] }
    ∷ record { id = 7; name = codes "t.Node"; super_name = None; fields = []; categories = [] }
    ∷ record { id = 8; name = codes "t.A"; super_name = None; fields = record { name = codes "n"; shape = plain 5 } ∷ record { name = codes "node"; shape = reference 7 } ∷ []; categories = [] }
    ∷ []

-- An event with the number 300, whose node has the key 1.
abbrev event : Value
event = Group (plain 8) [] (Cons (Single (plain 5) (leaf_kinds.Base kinds.Long) (0xAC ∷ 2 ∷ []) None) (Cons (Single (reference 7) (leaf_kinds.Key 1) (1 ∷ []) (Some 1)) Nil))

event_row : shown classes (λ level target. reference_shown classes target) 0 event ≡ codes "t.A {\n  n = 300\n  node = t.Node#1\n}"
unfolding digits
event_row = refl

-- One level deeper, and with no entry for the node.
deeper_row : shown classes (λ level target. missing_shown classes target) 1 event ≡ codes "t.A {\n    n = 300\n    node = t.Node#1 (missing)\n  }"
unfolding digits
deeper_row = refl

-- Its JSON, in which the fields are in the order of the bytes of their names.
json_row : compact_text (json_of classes (λ target. reference_json classes target) event) ≡ codes "{\"n\":300,\"node\":{\"class\":\"t.Node\",\"key\":1}}"
unfolding serde_json_on_literals digits
json_row = refl

missing_row : compact_text (missing_json classes (5, 18446744073709551615)) ≡ codes "{\"class\":\"long\",\"key\":18446744073709551615,\"missing\":true}"
unfolding serde_json_on_literals digits
missing_row = refl

-- An event of a chunk with two entries that refer to each other, to the first of which it refers.
abbrev entry : ℕ → ℕ → ℕ → EntryAt
entry key at end = record { class = 7; key = key; key_at = at; value_at = at; end = end; checkpoint = 0; pool = 0 }

abbrev ring : Parts
ring = record {
  bytes = 172 ∷ 2 ∷ 1 ∷ 2 ∷ 7 ∷ 1 ∷ 8 ∷ [];
  records = [];
  chain = [];
  body = record { start = 0; duration = 0; id = 0; strings = []; root = trees.Node 0 0 [] trees.Nil };
  classes =
      record { id = 5; name = codes "long"; super_name = None; fields = []; categories = [] }
      ∷ record { id = 7; name = codes "t.Node"; super_name = None; fields = record { name = codes "next"; shape = reference 7 } ∷ record { name = codes "n"; shape = plain 5 } ∷ []; categories = [] }
      ∷ record { id = 8; name = codes "t.A"; super_name = None; fields = record { name = codes "n"; shape = plain 5 } ∷ record { name = codes "node"; shape = reference 7 } ∷ []; categories = [] }
      ∷ [];
  entries = entry 1 3 5 ∷ entry 2 5 7 ∷ [];
}

abbrev ring_event : NodeAt
ring_event = record { shape = plain 8; at = 0; end = 3 }

not_followed_row : event_shown ring 0 ring_event ≡ codes "t.A {\n  n = 300\n  node = t.Node#1\n}\n"
unfolding run int_at class_format value_format kind_of value_of number_in_force event_shown referred digits
not_followed_row = refl

followed_twice_row : event_shown ring 2 ring_event
    ≡ codes "t.A {\n  n = 300\n  node = t.Node {\n"
    ++ codes "    next = t.Node {\n      next = t.Node#1\n      n = 8\n    }\n"
    ++ codes "    n = 7\n  }\n}\n"
unfolding run int_at class_format value_format kind_of value_of number_in_force event_shown referred digits
followed_twice_row = refl

no_entry_row : event_shown (record ring { entries = entry 2 5 7 ∷ [] }) 2 ring_event ≡ codes "t.A {\n  n = 300\n  node = t.Node#1 (missing)\n}\n"
unfolding run int_at class_format value_format kind_of value_of number_in_force event_shown referred digits
no_entry_row = refl

-- An array of two numbers, and one without items.
numbers_row : shown classes (λ level target. []) 0 (Group (array 5) (2 ∷ []) (Cons (Single (plain 5) (leaf_kinds.Base kinds.Long) (7 ∷ []) None) (Cons (Single (plain 5) (leaf_kinds.Base kinds.Long) (0 ∷ []) None) Nil))) ≡ codes "[\n  7\n  0\n]"
unfolding digits
numbers_row = refl

no_items_row : shown classes (λ level target. []) 0 (Group (array 5) (0 ∷ []) Nil) ≡ codes "[\n]"
no_items_row = refl

-- A boolean is false exactly where its byte is 0.
abbrev flag : ℕ → Value
flag byte = Group (plain 8) [] (Cons (Single (plain 4) (leaf_kinds.Base kinds.Boolean) (byte ∷ []) None) Nil)

abbrev flagged : Classes
flagged = record { id = 8; name = codes "t.A"; super_name = None; fields = record { name = codes "last"; shape = plain 4 } ∷ []; categories = [] } ∷ []

false_row : shown flagged (λ level target. []) 0 (flag 0) ≡ codes "t.A {\n  last = false\n}"
false_row = refl

true_row : shown flagged (λ level target. []) 0 (flag 2) ≡ codes "t.A {\n  last = true\n}"
true_row = refl

false_json_row : compact_text (json_of flagged (λ target. reference_json flagged target) (flag 0)) ≡ codes "{\"last\":false}"
unfolding serde_json_on_literals
false_json_row = refl

-- Values of base names.
byte_row : base_shown kinds.Byte (0xFF ∷ []) ≡ codes "-1"
unfolding digits
byte_row = refl

char_row : base_shown kinds.Char (0xFF ∷ 0xFF ∷ 3 ∷ []) ≡ codes "65535"
unfolding digits
char_row = refl

short_row : base_shown kinds.Short (0xFF ∷ 0xFF ∷ 3 ∷ []) ≡ codes "-1"
unfolding digits
short_row = refl

double_row : base_shown kinds.Double (0x3F ∷ 0xF0 ∷ 0 ∷ 0 ∷ 0 ∷ 0 ∷ 0 ∷ 0 ∷ []) ≡ codes "0x3ff0000000000000"
double_row = refl

double_json_row : compact_text (base_json kinds.Double (0x3F ∷ 0xF0 ∷ 0 ∷ 0 ∷ 0 ∷ 0 ∷ 0 ∷ 0 ∷ [])) ≡ codes "\"0x3ff0000000000000\""
unfolding serde_json_on_literals digits
double_json_row = refl

byte_json_row : compact_text (base_json kinds.Byte (0xFF ∷ [])) ≡ codes "-1"
unfolding digits
byte_json_row = refl

-- A quote, a backslash, the end of a line, U+007F, and a character beyond ASCII.
quoted_row : quoted (34 ∷ 92 ∷ 10 ∷ 127 ∷ 228 ∷ []) ≡ codes "\"\\\"\\\\\\u000a\\u007f" ++ 228 ∷ 34 ∷ []
quoted_row = refl

-- The classes of a chunk: with two categories, with one, with a super type, and with marks of both kinds.
abbrev described : Parts
described = record {
  bytes = [];
  records = [];
  chain = [];
  body = record { start = 0; duration = 0; id = 0; strings = []; root = trees.Node 0 0 [] trees.Nil };
  classes =
      record { id = 4; name = codes "boolean"; super_name = None; fields = []; categories = [] }
      ∷ record { id = 5; name = codes "long"; super_name = None; fields = []; categories = [] }
      ∷ record { id = 30; name = codes "jdk.types.StackFrame"; super_name = None; fields = record { name = codes "method"; shape = reference 31 } ∷ []; categories = [] }
      ∷ record { id = 31; name = codes "jdk.types.Method"; super_name = None; fields = []; categories = [] }
      ∷ record { id = 35; name = codes "jdk.types.StackTrace"; super_name = None; fields = record { name = codes "truncated"; shape = plain 4 } ∷ record { name = codes "frames"; shape = array 30 } ∷ record { name = codes "methods"; shape = record { class = 31; constant = true; array = true } } ∷ []; categories = [] }
      ∷ record { id = 103; name = codes "jdk.CPULoad"; super_name = Some (codes "jdk.jfr.Event"); fields = record { name = codes "startTime"; shape = plain 5 } ∷ []; categories = codes "Operating System" ∷ codes "Processor" ∷ [] }
      ∷ record { id = 104; name = codes "t.A"; super_name = Some (codes "jdk.jfr.Event"); fields = []; categories = codes "the \"A\"" ∷ [] }
      ∷ [];
  entries = [];
}

metadata_row : metadata_shown described 3
    ≡ codes "chunk 3\n"
    ++ codes "boolean id 4\n"
    ++ codes "long id 5\n"
    ++ codes "jdk.types.StackFrame id 30\n" ++ codes "  method: jdk.types.Method constant\n"
    ++ codes "jdk.types.Method id 31\n"
    ++ codes "jdk.types.StackTrace id 35\n" ++ codes "  truncated: boolean\n" ++ codes "  frames: jdk.types.StackFrame[]\n" ++ codes "  methods: jdk.types.Method[] constant\n"
    ++ codes "jdk.CPULoad id 103 super jdk.jfr.Event\n" ++ codes "  category \"Operating System\", \"Processor\"\n" ++ codes "  startTime: long\n"
    ++ codes "t.A id 104 super jdk.jfr.Event\n" ++ codes "  category \"the \\\"A\\\"\"\n"
unfolding metadata_shown digits
metadata_row = refl

-- The totals of two chunks with four events.
abbrev beginning : Beginning
beginning = record { major = 2; minor = 1; start_nanos = 1000 }

abbrev totals : Totals
totals = record {
  first = Some beginning;
  chunks = 2;
  bytes = 640;
  duration = 18446744073709551620;
  events = 4;
  checkpoints = 3;
  constants = 8;
  inert = 1;
  tallies = tallies_of [];
}

totals_row : number_lines totals beginning
    ≡ codes "version 2.1\n"
    ++ codes "chunks 2\n"
    ++ codes "bytes 640\n"
    ++ codes "start 1000\n"
    ++ codes "duration 18446744073709551620\n"
    ++ codes "events 4\n"
    ++ codes "checkpoints 3\n"
    ++ codes "constants 8\n"
    ++ codes "inert 1\n"
unfolding digits
totals_row = refl

no_chunks_row : summary_shown (record totals { first = None }) ≡ []
unfolding summary_shown
no_chunks_row = refl

-- The totals of the chunk of rings as JSON, given the names in order, and those without names.
abbrev ring_totals : Tallies → Totals
ring_totals m = record {
  first = Some beginning;
  chunks = 1;
  bytes = 362;
  duration = 5;
  events = 2;
  checkpoints = 1;
  constants = 4;
  inert = 0;
  tallies = m;
}

abbrev ring_object : List (List ℕ × Tally) → List ℕ
ring_object es = codes "{\"version\":\"2.1\",\"chunks\":1,\"bytes\":362,\"start\":1000,\"duration\":5,\"events\":2,\"checkpoints\":1,\"constants\":4,\"inert\":0,\"types\":" ++ compact_text (written.array (items_of (map tally_json es))) ++ codes "}"

totals_json_row : (m : Tallies) → fin.entries m ≡ (codes "t.A", record { events = 1; bytes = 5 }) ∷ (codes "t.B", record { events = 1; bytes = 3 }) ∷ [] → compact_text (totals_json (ring_totals m) beginning)
    ≡ codes "{\"version\":\"2.1\",\"chunks\":1,\"bytes\":362,\"start\":1000,\"duration\":5,\"events\":2,\"checkpoints\":1,\"constants\":4,\"inert\":0,"
    ++ codes "\"types\":[{\"name\":\"t.A\",\"events\":1,\"bytes\":5},{\"name\":\"t.B\",\"events\":1,\"bytes\":3}]}"
unfolding serde_json_on_literals digits
totals_json_row m e = ap ring_object e

no_names_row : (m : Tallies) → fin.entries m ≡ [] → compact_text (totals_json (ring_totals m) beginning)
    ≡ codes "{\"version\":\"2.1\",\"chunks\":1,\"bytes\":362,\"start\":1000,\"duration\":5,\"events\":2,\"checkpoints\":1,\"constants\":4,\"inert\":0,\"types\":[]}"
unfolding serde_json_on_literals digits
no_names_row m e = ap ring_object e

no_chunks_json_row : summary_json (record totals { first = None }) ≡ []
unfolding summary_json
no_chunks_json_row = refl

-- A class of the chunk of rings as JSON, and one with a super type, categories and both marks.
abbrev node_class : Class
node_class = record { id = 7; name = codes "t.Node"; super_name = None; fields = record { name = codes "next"; shape = reference 7 } ∷ record { name = codes "text"; shape = plain 6 } ∷ []; categories = [] }

abbrev ring_classes : Classes
ring_classes = record { id = 6; name = codes "java.lang.String"; super_name = None; fields = []; categories = [] } ∷ node_class ∷ []

class_json_row : compact_text (class_json 1 ring_classes node_class)
    ≡ codes "{\"chunk\":1,\"name\":\"t.Node\",\"id\":7,\"super\":null,\"categories\":[],\"fields\":[{\"name\":\"next\",\"class\":\"t.Node\",\"class_id\":7,\"constant\":true,\"array\":false},"
    ++ codes "{\"name\":\"text\",\"class\":\"java.lang.String\",\"class_id\":6,\"constant\":false,\"array\":false}]}"
unfolding serde_json_on_literals digits
class_json_row = refl

abbrev marked_class : Class
marked_class = record { id = 104; name = codes "t.A"; super_name = Some (codes "jdk.jfr.Event"); fields = record { name = codes "as"; shape = record { class = 104; constant = true; array = true } } ∷ []; categories = codes "the \"A\"" ∷ codes "b" ∷ [] }

marked_json_row : compact_text (class_json 3 (marked_class ∷ []) marked_class)
    ≡ codes "{\"chunk\":3,\"name\":\"t.A\",\"id\":104,\"super\":\"jdk.jfr.Event\",\"categories\":[\"the \\\"A\\\"\",\"b\"],\"fields\":[{\"name\":\"as\",\"class\":\"t.A\",\"class_id\":104,\"constant\":true,\"array\":true}]}"
unfolding serde_json_on_literals digits
marked_json_row = refl

no_classes_row : metadata_json (record described { classes = [] }) 1 ≡ []
unfolding metadata_json
no_classes_row = refl
