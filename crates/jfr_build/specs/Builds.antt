-- What is built of a text, or why and for which line it is refused.
use Rattle.std.specs.Prelude.{◌≡◌, ⊤, ℕ, ◌+◌, ◌-◌, ◌^◌, ◌==◌, nat_le, nat_lt, List, length, slice_get, slice_index, Option, Some, None, Result, Ok, Err, option_and_then, if◌then◌else◌}
use Rattle.std.specs.List.{count_by}
use Rattle.jfr_layout.specs.Classes.{Classes, ClassFlaw, class_faults}
use Rattle.jfr_build.specs.declared.lines.NumberedLine.{NumberedLine}
use Rattle.jfr_build.specs.declared.reason.BuildFault.{BuildFault}
use Rattle.jfr_build.specs.declared.reason.BuildFault.TheVariants.{Refused, Memory}
use Rattle.jfr_build.specs.declared.reason.BuildReason.{BuildReason}
use Rattle.jfr_build.specs.declared.reason.BuildReason.TheVariants.{TooLarge, LineBad, ValueBad, Class}
use Rattle.jfr_build.specs.Lines.{read_lines}
use Rattle.jfr_build.specs.ClassLines.{classes_in, line_at}
use Rattle.jfr_build.specs.LineValues.{first_bad_value}
use Rattle.jfr_build.specs.Regions.{region_in}
use Rattle.jfr_build.specs.Described.{metadata_record}
use Rattle.jfr_build.specs.Built.{checkpoint_of, chunk_with, events_of}

-- The chunk, if it has fewer than 2 ^ 30 bytes.
abbrev pub if_small : List ℕ → Option (List ℕ)
if_small chunk = if nat_lt (length chunk) (2 ^ 30) then Some chunk else None

-- The chunk of these classes and lines; none if the metadata's strings and tree take 2 ^ 29 bytes or more, or
-- the chunk 2 ^ 30 or more.
unfoldable pub chunk_of : Classes → List NumberedLine → Option (List ℕ)
chunk_of k lines = option_and_then (λ metadata. if_small (chunk_with metadata (events_of k lines) (checkpoint_of k lines))) (metadata_record k (region_in lines))

-- The number of lines. The last one may lack its newline.
abbrev pub line_count : List ℕ → ℕ
line_count text = count_by (λ b. b == 10) text + (if length text == 0 then 0 else if slice_index text (length text - 1) == 10 then 0 else 1)

-- A refusal: the number of a line, and the reason.
pub record Refusal : Type 0 where
  pub line : ℕ
  pub reason : BuildReason

-- What is built, or the refusal.
abbrev pub Build : Type 0
Build = Result (List ℕ) Refusal

-- The refusal for this line and reason.
abbrev pub refused : ℕ → BuildReason → Build
refused line reason = Err (record { line = line; reason = reason })

-- Checks the sizes of the metadata and of the chunk, after all else.
abbrev pub build_chunk : ℕ → Option (List ℕ) → Build
build_chunk count None = refused count TooLarge
build_chunk count (Some chunk) = Ok chunk

-- Checks the values of constants and events and the region's offset; then, by `build_chunk`, the sizes.
abbrev pub build_values : ℕ → Option NumberedLine → Option (List ℕ) → Build
build_values count (Some line) chunk = refused line.number ValueBad
build_values count None chunk = build_chunk count chunk

-- Checks the classes; then, by `build_values`, the rest.
abbrev pub build_classes : ℕ → List NumberedLine → Option ClassFlaw → Build
build_classes count lines (Some f) = refused (line_at lines f.class f.field) (Class f.reason)
build_classes count lines None = build_values count (first_bad_value (classes_in lines) lines) (chunk_of (classes_in lines) lines)

-- Reads the lines; then, by `build_classes`, checks the rest.
abbrev pub build_lines : ℕ → Result (List NumberedLine) ℕ → Build
build_lines count (Err line) = refused line LineBad
build_lines count (Ok lines) = build_classes count lines (slice_get (class_faults (classes_in lines)) 0)

-- Checks the size of the text; then, by `build_lines`, the rest. This is what is built, or the first refusal.
unfoldable pub build_of : List ℕ → Build
build_of text = if nat_le (2 ^ 30) (length text) then refused 0 TooLarge else build_lines (line_count text) (read_lines text)

-- The fault is this refusal, or memory ran out.
abbrev pub IsFault : Build → BuildFault → Type 0
IsFault build (Refused line reason) = build ≡ refused line reason
IsFault build Memory = ⊤
