-- What the commands that write text do for each chunk.
use Rattle.std.specs.Prelude.{ℕ, ◌+◌, Bool, true, false, List, [], ◌∷◌, length, map, Result, Ok, Err, encode_utf8_all}
use Rattle.jfr_base.specs.declared.flaw.Flaw.{Flaw}
use Rattle.jfr_filter.specs.Filters.{Given}
use Rattle.jfr_value.specs.Nodes.{NodeAt}
use Rattle.jfr_plan.specs.Ends.{refused}
use Rattle.jfr_plan.specs.Effects.{Effect, Write}
use Rattle.jfr_plan.specs.Rules.{Rule, Asked, Stops, Goes, Text}
use Rattle.jfr_chunk.specs.Parts.{Parts, EventAt}
use Rattle.jfr_chunk.specs.Chosen.{kept_of}
use Rattle.jfr_chunk.specs.Refusal.{read_parts}
use Rattle.jfr_show.specs.Shown.{event_shown}
use Rattle.jfr_show.specs.Json.{event_json}
use Rattle.jfr_show.specs.Totals.{Totals, totals_of, summary_json, summary_shown}
use Rattle.jfr_show.specs.Metadata.{metadata_json, metadata_shown}
use Rattle.jfr_stacks.specs.Folded.{lines_of, stacks_of}
use Rattle.jfr_report.specs.declared.print.Writer.{Writer}
use Rattle.jfr_report.specs.declared.print.Writer.TheVariants as writers

-- Each text is written, one after another.
abbrev pub writes : List (List ℕ) → List Effect
writes texts = map Write texts

-- Chunk number n is refused with its flaw, or the texts of its parts are written.
abbrev pub asks_texts : ℕ → (Parts → List (List ℕ)) → Result Parts Flaw → Asked
asks_texts n texts (Ok p) = Goes (writes (texts p))
asks_texts n texts (Err flaw) = Stops (refused n flaw)

-- The rule of a command that writes texts for each chunk, given its number and its parts, and then texts at
-- the end.
abbrev pub texting : (ℕ → Parts → List (List ℕ)) → (List (List ℕ) → List (List ℕ)) → Rule
texting texts last = record {
  opens = [];
  asks = λ before c. asks_texts (length before + 1) (texts (length before + 1)) (read_parts c);
  ends = λ before. writes (last before);
  target = Text;
}

-- An event as a line of JSON or as text, in UTF-8.
abbrev pub event_bytes : Bool → ℕ → Parts → NodeAt → List ℕ
event_bytes true depth p n = encode_utf8_all (event_json p depth n)
event_bytes false depth p n = encode_utf8_all (event_shown p depth n)

-- Each of these events as a line of JSON or as text, in UTF-8.
abbrev pub events_bytes : Bool → ℕ → Parts → List EventAt → List (List ℕ)
events_bytes json depth p es = map (λ e. event_bytes json depth p e.node) es

-- The writer of a chunk's events: as JSON, or as text.
abbrev pub writer_of : Bool → Parts → Writer
writer_of true p = writers.Json p
writer_of false p = writers.Text p

-- The chunk whose events the writer writes.
abbrev pub chunk_of : Writer → Parts
chunk_of (writers.Text p) = p
chunk_of (writers.Json p) = p

-- The text that the writer writes for an event.
abbrev pub text_by : Writer → ℕ → NodeAt → List ℕ
text_by (writers.Text p) depth n = event_shown p depth n
text_by (writers.Json p) depth n = event_json p depth n

-- The rule of `print`: each event that the filter keeps is shown.
abbrev pub printing : Given → ℕ → Bool → Rule
printing g depth json = texting (λ n p. events_bytes json depth p (kept_of g p)) (λ before. [])

-- The classes of the chunk with this number, as lines of JSON or as text, in UTF-8.
abbrev pub classes_bytes : Bool → ℕ → Parts → List ℕ
classes_bytes true n p = encode_utf8_all (metadata_json p n)
classes_bytes false n p = encode_utf8_all (metadata_shown p n)

-- The rule of `metadata`: the classes of each chunk are shown.
abbrev pub describing : Bool → Rule
describing json = texting (λ n p. classes_bytes json n p ∷ []) (λ before. [])

-- The list with the parts of a chunk in front, if the chunk is accepted.
abbrev pub parts_with : Result Parts Flaw → List Parts → List Parts
parts_with (Ok p) ps = p ∷ ps
parts_with (Err flaw) ps = ps

-- The parts of the chunks that are accepted.
abbrev pub all_parts : List (List ℕ) → List Parts
all_parts [] = []
all_parts (c ∷ cs) = parts_with (read_parts c) (all_parts cs)

-- Totals as a line of JSON or as text, in UTF-8.
abbrev pub totals_bytes : Bool → Totals → List ℕ
totals_bytes true t = encode_utf8_all (summary_json t)
totals_bytes false t = encode_utf8_all (summary_shown t)

-- The rule of `summary`: the totals of the recording are shown at its end.
abbrev pub summing : Bool → Rule
summing json = texting (λ n p. []) (λ before. totals_bytes json (totals_of (all_parts before)) ∷ [])

-- The rule of `stacks`: the folded stacks of the events that the filter keeps are shown at the end of the
-- recording.
abbrev pub folding : Given → Rule
folding g = texting (λ n p. []) (λ before. lines_of (stacks_of g (all_parts before)) ∷ [])
