-- The records of a chunk that remain in the output, and the output record for each, one after another.
use Rattle.std.specs.Prelude.{◌≡◌, ℕ, ◌+◌, Bool, false, ◌&&◌, ◌==◌, List, drop, slice_get, find, reverse, Option, Some, None, option_and_then, unwrap_or, true, if◌then◌else◌, ⊤}
use Rattle.std.specs.List.{filter_map, enumerate_from}
use Rattle.std.specs.Option.{option_map_or}
use Rattle.jfr_frame.specs.declared.framed.Framed.{Framed}
use Rattle.jfr_pool.specs.declared.link.Link.{Link}
use Rattle.jfr_chunk.specs.Parts.{Parts, EventAt, AreParts, event_of, event_records, events_of}
use Rattle.jfr_chunk.specs.Reach.{marked, kept_by}
use Rattle.jfr_chunk.specs.Scrub.{OutputRecord, Whole, Chained, Rebuilt, output_record_of}
use Rattle.jfr_chunk.specs.Metas.{Names, new_metadata}
use Rattle.jfr_output.specs.declared.remaining_records.RemainingRecord.{RemainingRecord}
use Rattle.jfr_output.specs.declared.remaining_records.RemainingRecord.TheVariants as remaining_records
use Rattle.jfr_output.specs.declared.remaining_records.RecordCursor.{RecordCursor}

-- The output record for a record: the whole record, or the bytes that replace it.
abbrev pub whole_or : Option (List ℕ) → Framed → OutputRecord
whole_or None r = Whole r
whole_or (Some x) r = Rebuilt r x

-- What is written for a remaining record, given the new metadata record, if there is one.
abbrev pub output_record_for : Option (List ℕ) → RemainingRecord → OutputRecord
output_record_for slim (remaining_records.Event number r) = Whole r
output_record_for slim (remaining_records.Metadata r) = whole_or slim r
output_record_for slim (remaining_records.Chained number l) = Chained number l

-- A remaining record is `Metadata` exactly if it starts at this offset.
abbrev pub ShowsMetadata : ℕ → RemainingRecord → Type 0
ShowsMetadata place (remaining_records.Event number r) = (r.at == place) ≡ false
ShowsMetadata place (remaining_records.Metadata r) = (r.at == place) ≡ true
ShowsMetadata place (remaining_records.Chained number l) = (l.frame.at == place) ≡ false

-- This is the new metadata record if these events are kept, for some set of names.
pub record IsNewMetadata (p : Parts) (kept : List EventAt) (slim : Option (List ℕ)) : Type 0 where
  pub names : Names
  pub is : slim ≡ new_metadata names p kept

-- The events of some of the records.
abbrev pub events_from : Parts → List Framed → List EventAt
events_from p rs = filter_map (event_of p.bytes p.classes) (event_records p.classes rs)

-- The event, of a list of events, whose record starts where this record does.
abbrev pub event_there : List EventAt → Framed → Option EventAt
event_there es r = find (λ e. e.record_of.at == r.at) es

-- The event with this number is kept, and its record is this one.
pub record IsKeptEvent (p : Parts) (flags : List Bool) (number : ℕ) (r : Framed) : Type 0 where
  pub event : EventAt
  pub numbered : slice_get (events_of p) number ≡ Some event
  pub there : event_there (kept_by p flags) r ≡ Some event

-- If a remaining record is an event, the event is kept and has this number.
abbrev pub ShowsEvent : Parts → List Bool → RemainingRecord → Type 0
ShowsEvent p flags (remaining_records.Event number r) = IsKeptEvent p flags number r
ShowsEvent p flags (remaining_records.Metadata r) = ⊤
ShowsEvent p flags (remaining_records.Chained number l) = ⊤

-- The record r remains as this, given the chained checkpoint and the kept event that start there, if there are
-- any, and whether it is the metadata record.
abbrev pub IsRemaining : Option (ℕ × Link) → Option ℕ → Bool → Framed → RemainingRecord → Type 0
IsRemaining link event metadata r (remaining_records.Event number s) = (event ≡ Some number) × (metadata ≡ false) × (s ≡ r)
IsRemaining link event metadata r (remaining_records.Metadata s) = (metadata ≡ true) × (s ≡ r)
IsRemaining link event metadata r (remaining_records.Chained number l) = link ≡ Some (number, l)

-- The chained checkpoint that starts where this record does, with its number.
abbrev pub link_there : Parts → Framed → Option (ℕ × Link)
link_there p r = find (λ l. l.1.frame.at == r.at) (enumerate_from 0 (reverse p.chain))

-- From the cursor's event and checkpoint on, the events and checkpoints are those of the records from its
-- record on.
pub record IsCursor (p : Parts) (flags : List Bool) (c : RecordCursor) : Type 0 where
  pub parts : AreParts p
  pub events : drop c.event (events_of p) ≡ events_from p (drop c.frame p.records)
  pub kept : marked (drop c.event flags) (drop c.event (events_of p)) ≡ filter_map (event_there (kept_by p flags)) (drop c.frame p.records)
  pub links : enumerate_from c.link (drop c.link (reverse p.chain)) ≡ filter_map (link_there p) (drop c.frame p.records)

-- The output records for the records from the cursor's on, given the new metadata record, if there is one.
abbrev pub output_records_from : Option (List ℕ) → Parts → List Bool → RecordCursor → List OutputRecord
output_records_from slim p flags c = filter_map (output_record_of slim p (kept_by p flags)) (drop c.frame p.records)

-- Whether the event with this number starts at this offset and is kept.
abbrev pub is_kept_at : List EventAt → List Bool → ℕ → ℕ → Bool
is_kept_at es flags n at = option_map_or (λ e. (e.record_of.at == at) && unwrap_or (slice_get flags n) false) (slice_get es n) false

-- The number of the first event after this offset, given that of the first event at or after it.
abbrev pub event_after : List EventAt → ℕ → ℕ → ℕ
event_after es n at = option_map_or (λ e. if e.record_of.at == at then n + 1 else n) (slice_get es n) n

-- The checkpoint with this number, and the number, if it starts at this offset.
abbrev pub linked_at : List Link → ℕ → ℕ → Option (ℕ × Link)
linked_at ls n at = option_and_then (λ l. if l.frame.at == at then Some (n, l) else None) (slice_get ls n)

-- The number of the first checkpoint after this offset, given that of the first one at or after it.
abbrev pub link_after : List Link → ℕ → ℕ → ℕ
link_after ls n at = option_map_or (λ l. if l.frame.at == at then n + 1 else n) (slice_get ls n) n
