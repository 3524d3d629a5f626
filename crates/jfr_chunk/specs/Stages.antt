-- The result of the stage that reads the events.
use Rattle.std.specs.Prelude.{◌≡◌, ℕ, List, map, Some, All}
use Rattle.std.specs.List.{filter_map}
use Rattle.std.specs.BTreeMap.{BTreeMap}
use Rattle.jfr_base.specs.declared.flaw.Flaw.{Flaw}
use Rattle.jfr_base.specs.Formats.{Fails}
use Rattle.jfr_layout.specs.Classes.{Classes}
use Rattle.jfr_frame.specs.declared.framed.Framed.{Framed}
use Rattle.jfr_frame.specs.Records.{record_end}
use Rattle.jfr_value.specs.Reading.{value_format}
use Rattle.jfr_pool.specs.Entries.{inline}
use Rattle.jfr_chunk.specs.declared.event_index.EventIndexEntry.{EventIndexEntry}
use Rattle.jfr_chunk.specs.Parts.{HasFields, event_records, event_of}
use Rattle.jfr_chunk.specs.Refusal.{FirstFails}
use Rattle.jfr_chunk.specs.Indexed.{indexed_event}

-- Each event's record has all its fields. The index has an entry for each event, in order, with the number of
-- its record, and the early ends are those of the events whose fields end before the record does.
pub record AreFields (c : List ℕ) (k : Classes) (rs : List Framed) (fields : List EventIndexEntry) (early : BTreeMap ℕ ℕ) : Type 0 where
  pub valid : All (HasFields c k) (event_records k rs)
  pub listed : map (indexed_event rs early) fields ≡ map Some (filter_map (event_of c k) (event_records k rs))

-- The flaw is that of the first event, in file order, whose record doesn't have all its fields.
abbrev pub IsRefusedEvents : List ℕ → Classes → List Framed → Flaw → Type 0
IsRefusedEvents c k rs flaw = FirstFails (HasFields c k) (λ r. Fails (value_format k (inline r.type_id)) c (record_end r) r.body) (event_records k rs) flaw
