-- Runs of kept events.
use Rattle.std.specs.Prelude.{◌≡◌, ℕ, ◌+◌, ◌-◌, ◌^◌, ◌<◌, ◌≤◌, Bool, false, ◌==◌, List, ◌++◌, length, map, drop, slice_get, slice_range, Option, Some}
use Rattle.std.specs.List.{AllByRecursion}
use Rattle.std.specs.Option.{option_map_or}
use Rattle.jfr_frame.specs.declared.framed.Framed.{Framed}
use Rattle.jfr_frame.specs.Records.{Tiles}
use Rattle.jfr_chunk.specs.Parts.{Parts, EventAt, events_of, metadata_at}
use Rattle.jfr_chunk.specs.Scrub.{Whole}
use Rattle.jfr_output.specs.declared.remaining_records.RecordCursor.{RecordCursor}
use Rattle.jfr_output.specs.RemainingRecords.{IsCursor, events_from, is_kept_at, output_records_from}
use Rattle.jfr_scrub.specs.declared.run.Run.{Run}
use Rattle.jfr_scrub.specs.Bodies.{Progress}
use Rattle.jfr_scrub.specs.Pieces.{more}
use Rattle.jfr_scrub.specs.Scrubbing.{IsAccepted}

-- The offset of the record with this number; after the last one, the chunk's end.
abbrev pub record_start : Parts → ℕ → ℕ
record_start p n = option_map_or (λ r. r.at) (slice_get p.records n) (length p.bytes)

-- Whether the cursor's record is that of the cursor's event, and the event is kept.
abbrev pub is_in_run : Parts → List Bool → RecordCursor → Bool
is_in_run p flags c = option_map_or (λ r. is_kept_at (events_of p) flags c.event r.at) (slice_get p.records c.frame) false

-- The parts are those of a whole chunk, and from the cursor's event on, the events are those of the records
-- from its record on.
pub record IsAtEvents (p : Parts) (c : RecordCursor) : Type 0 where
  pub accepted : IsAccepted p
  pub events : drop c.event (events_of p) ≡ events_from p (drop c.frame p.records)

-- The record at this offset from the cursor's is that of the event at the same offset from the cursor's.
pub record HasEventAt (p : Parts) (c : RecordCursor) (offset : ℕ) : Type 0 where
  pub event : EventAt
  pub there : slice_get (events_of p) (c.event + offset) ≡ Some event
  pub framed : slice_get p.records (c.frame + offset) ≡ Some event.record_of

-- The numbers at this offset from the cursor's fit in 64 bits.
pub record HasRoom (c : RecordCursor) (offset : ℕ) : Type 0 where
  pub event : c.event + offset < 2 ^ 64
  pub frame : c.frame + offset < 2 ^ 64

-- A run of consecutive records that are written whole covers this range of the chunk, and none of them is the
-- metadata record. The output records from one cursor on are these, then those from the other.
pub record IsRun (p : Parts) (flags : List Bool) (c d : RecordCursor) (from to : ℕ) : Type 0 where
  pub records : List Framed
  pub tiles : Tiles p.bytes from records to
  pub within : to ≤ length p.bytes
  pub others : AllByRecursion (λ r. (r.at == metadata_at p.bytes) ≡ false) records
  pub output_records : (slim : Option (List ℕ)) → output_records_from slim p flags c ≡ map (λ r. Whole r) records ++ output_records_from slim p flags d

-- The cursor has moved past a run.
pub record Passes (p : Parts) (flags : List Bool) (c d : RecordCursor) : Type 0 where
  pub cursor : IsCursor p flags d
  pub run : IsRun p flags c d (record_start p c.frame) (record_start p d.frame)

-- The body with the range of a run added.
abbrev pub body_with_run : Progress → Run → Progress
body_with_run b run = record b { output = more b.output (slice_range b.output.chunk run.from run.to); at = b.at + (run.to - run.from) }
