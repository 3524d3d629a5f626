-- The totals of chunks, their text and their JSON.
use Rattle.std.specs.Prelude.{ℕ, ◌==◌, Bool, false, List, [], ◌∷◌, ◌++◌, length, map, filter, count_by, sum_by, take, slice_get, codes, decimal, Option, option_map}
use Rattle.std.specs.List.{enumerate_from, flat_map}
use Rattle.std.specs.Option.{option_map_or}
use Rattle.std.specs.Ordering.{nat_cmp}
use Rattle.std.specs.Cmp.Lexicographic.{slice_cmp}
use Rattle.std.specs.Str.{bytes_eq, chars, encode_utf8_all}
use Rattle.std.specs.FinMap as fin
use Rattle.serde_json.specs.Data.{Data, array, object, string}
use Rattle.serde_json.specs.View.{items_of}
use Rattle.jfr_header.specs.declared.header.Header.{Header}
use Rattle.jfr_header.specs.Headers.{header_of}
use Rattle.jfr_layout.specs.Classes.{Classes}
use Rattle.jfr_frame.specs.declared.framed.Framed.{Framed}
use Rattle.jfr_pool.specs.declared.entry.EntryAt.{EntryAt}
use Rattle.jfr_pool.specs.Entries.{number_in_force}
use Rattle.jfr_chunk.specs.Parts.{Parts, events_of, is_inert}
use Rattle.jfr_show.specs.declared.beginning.Beginning.{Beginning}
use Rattle.jfr_show.specs.declared.tally.Tally.{Tally}
use Rattle.jfr_show.specs.Json.{json_line, listed, number_json, text_json}
use Rattle.jfr_show.specs.Names.{class_name}
use Rattle.jfr_show.specs.Texts.{newline}

-- An event as it is counted: the bytes of its class's name, and the size of its record in bytes.
pub record Occurrence : Type 0 where
  pub name : List ℕ
  pub size : ℕ

-- The event of this record, as it is counted.
abbrev pub occurrence : Classes → Framed → Occurrence
occurrence k r = record { name = encode_utf8_all (class_name k r.type_id); size = r.size }

-- The events of a chunk, as they are counted.
abbrev pub occurrences : Parts → List Occurrence
occurrences p = map (λ e. occurrence p.classes e.record_of) (events_of p)

-- The number of these events, and the bytes of their records together.
abbrev pub tally_of : List Occurrence → Tally
tally_of es = record { events = length es; bytes = sum_by (λ e. e.size) es }

-- The events whose class has this name.
abbrev pub of_name : List ℕ → List Occurrence → List Occurrence
of_name name es = filter (λ e. bytes_eq e.name name) es

-- Tallies by name, in the order of the names' bytes.
abbrev pub Tallies : Type 0
Tallies = fin.FinMap (slice_cmp nat_cmp) Tally

-- The tallies of events: for each name that occurs, that of all events with this name.
abbrev pub tallies_of : List Occurrence → Tallies
tallies_of es = fin.from_entries (map (λ e. (e.name, tally_of (of_name e.name es))) es)

-- The entry with this number is the one in force for its class and key.
abbrev pub is_in_force : List EntryAt → ℕ × EntryAt → Bool
is_in_force es (number, e) = option_map_or (λ n. n == number) (number_in_force es (e.class, e.key)) false

-- The number of entries in force.
abbrev pub count_in_force : List EntryAt → ℕ
count_in_force es = count_by (is_in_force es) (enumerate_from 0 es)

-- The header of a chunk.
abbrev pub header_in : Parts → Header
header_in p = header_of (take 68 p.bytes)

-- The beginning of a recording whose first chunk has this header: its version, and when it starts.
abbrev pub beginning_of : Header → Beginning
beginning_of h = record { major = h.major; minor = h.minor; start_nanos = h.start_nanos }

-- The totals of chunks. Without a chunk there is no beginning.
pub record Totals : Type 0 where
  pub first : Option Beginning
  pub chunks : ℕ
  pub bytes : ℕ
  pub duration : ℕ
  pub events : ℕ
  pub checkpoints : ℕ
  pub constants : ℕ
  pub inert : ℕ
  pub tallies : Tallies

-- The totals of these chunks, in the order of the recording.
unfoldable pub totals_of : List Parts → Totals
totals_of ps = record {
  first = option_map (λ p. beginning_of (header_in p)) (slice_get ps 0);
  chunks = length ps;
  bytes = sum_by (λ p. length p.bytes) ps;
  duration = sum_by (λ p. (header_in p).duration_nanos) ps;
  events = sum_by (λ p. length (events_of p)) ps;
  checkpoints = sum_by (λ p. length p.chain) ps;
  constants = sum_by (λ p. count_in_force p.entries) ps;
  inert = sum_by (λ p. length (filter (is_inert p) p.records)) ps;
  tallies = tallies_of (flat_map occurrences ps);
}

-- A line with a word and a number.
abbrev pub number_line : List ℕ → ℕ → List ℕ
number_line word n = word ++ codes " " ++ decimal n ++ newline

-- The version, as in 2.1.
abbrev pub version_shown : Beginning → List ℕ
version_shown b = decimal b.major ++ codes "." ++ decimal b.minor

-- The line with the version.
abbrev pub version_line : Beginning → List ℕ
version_line b = codes "version " ++ version_shown b ++ newline

-- The line of a name: the number of its events, and their bytes.
abbrev pub tally_line : List ℕ × Tally → List ℕ
tally_line (name, t) = chars name ++ codes " " ++ decimal t.events ++ codes " " ++ decimal t.bytes ++ newline

-- The first nine lines of the totals, for a recording with this beginning.
abbrev pub number_lines : Totals → Beginning → List ℕ
number_lines t b =
    version_line b
    ++ number_line (codes "chunks") t.chunks
    ++ number_line (codes "bytes") t.bytes
    ++ number_line (codes "start") b.start_nanos
    ++ number_line (codes "duration") t.duration
    ++ number_line (codes "events") t.events
    ++ number_line (codes "checkpoints") t.checkpoints
    ++ number_line (codes "constants") t.constants
    ++ number_line (codes "inert") t.inert

-- A line for each name, in the order of the names' bytes.
abbrev pub tally_lines : Tallies → List ℕ
tally_lines m = flat_map tally_line (fin.entries m)

-- The text of the totals: the numbers, then the names. Without a chunk it is empty.
unfoldable pub summary_shown : Totals → List ℕ
summary_shown t = option_map_or (λ b. number_lines t b ++ tally_lines t.tallies) t.first []

-- A name as an object: the name, the number of its events, and their bytes.
abbrev pub tally_json : List ℕ × Tally → Data
tally_json (name, t) = object (listed (
    (codes "name", string name)
    ∷ (codes "events", number_json t.events)
    ∷ (codes "bytes", number_json t.bytes)
    ∷ []))

-- The names as an array, in the order of their bytes.
abbrev pub tallies_json : Tallies → Data
tallies_json m = array (items_of (map tally_json (fin.entries m)))

-- The totals as an object, for a recording with this beginning: a member for each of the first nine lines, in
-- their order, and the names.
abbrev pub totals_json : Totals → Beginning → Data
totals_json t b = object (listed (
    (codes "version", text_json (version_shown b))
    ∷ (codes "chunks", number_json t.chunks)
    ∷ (codes "bytes", number_json t.bytes)
    ∷ (codes "start", number_json b.start_nanos)
    ∷ (codes "duration", number_json t.duration)
    ∷ (codes "events", number_json t.events)
    ∷ (codes "checkpoints", number_json t.checkpoints)
    ∷ (codes "constants", number_json t.constants)
    ∷ (codes "inert", number_json t.inert)
    ∷ (codes "types", tallies_json t.tallies)
    ∷ []))

-- The line of JSON of the totals. Without a chunk it is empty.
unfoldable pub summary_json : Totals → List ℕ
summary_json t = option_map_or (λ b. json_line (totals_json t b)) t.first []
