-- The lines of a chunk's kept events, with the numbers that its scrub has for their events and entries.
use Rattle.std.specs.Prelude.{◌≡◌, ◌<◌, ℕ, Bool, List, length, take, slice_get, slice_index_or, Option, None, false, unwrap_or, if◌then◌else◌}
use Rattle.jfr_worklist.specs.Marks.{marked_at}
use Rattle.jfr_worklist.specs.Worklists.{marked_count}
use Rattle.jfr_chunk.specs.Parts.{Parts, EventAt}
use Rattle.jfr_chunk.specs.Reach.{roots}
use Rattle.jfr_verify.specs.declared.line.Line.{Line}
use Rattle.jfr_verify.specs.declared.line.Parent.{Parent}
use Rattle.jfr_verify.specs.declared.line.Parent.TheVariants.{OfEvent, OfEntry}
use Rattle.jfr_verify.specs.Receipts.{event_lines, line_bytes, lines_from, no_marks}

-- The event with this number, if its flag says that it is kept.
abbrev pub kept_at : List Bool → List EventAt → ℕ → Option EventAt
kept_at flags es i = if unwrap_or (slice_get flags i) false then slice_get es i else None

-- The lines for what the kept events refer to, and then for what the entries of lines refer to. Events are
-- numbered among the kept ones, entries among all of the chunk.
unfoldable pub kept_lines : Parts → List EventAt → List Line
kept_lines p kept = lines_from (length p.entries) p (marked_at (no_marks p) (roots p kept)) (event_lines p (no_marks p) 0 kept)

-- For each number, how many below it are marked.
pub record AreRanks (marks : List Bool) (ranks : List ℕ) : Type 0 where
  pub size : length ranks ≡ length marks
  pub each : (n : ℕ) → n < length marks → slice_index_or ranks n 0 ≡ marked_count (take n marks)

-- The parent. If it is an entry, its number is replaced by its rank.
abbrev pub ranked_parent : List ℕ → Parent → Parent
ranked_parent ranks (OfEvent n) = OfEvent n
ranked_parent ranks (OfEntry n) = OfEntry (slice_index_or ranks n 0)

-- The line, with the number of each entry in it replaced by the entry's rank.
abbrev pub ranked : List ℕ → Line → Line
ranked ranks l = record { entry = slice_index_or ranks l.entry 0; parent = ranked_parent ranks l.parent }

-- The bytes of the line with the ranks of its entries.
abbrev pub ranked_bytes : List ℕ → Line → List ℕ
ranked_bytes ranks l = line_bytes (ranked ranks l)
