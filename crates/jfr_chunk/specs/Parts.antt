-- The parts of an accepted chunk, which its bytes determine.
use Rattle.std.specs.Prelude.{◌≡◌, ℕ, Bool, not, ◌||◌, ◌==◌, List, take, filter, reverse, Option, Some, None, Ok, Err, Contains, All}
use Rattle.std.specs.List.{filter_map, list_any}
use Rattle.jfr_header.specs.Headers.{header_of}
use Rattle.jfr_base.specs.Formats.{Reads, Answer, run}
use Rattle.jfr_layout.specs.Classes.{Classes, is_event_class}
use Rattle.jfr_frame.specs.declared.framed.Framed.{Framed}
use Rattle.jfr_frame.specs.Records.{AreRecords, record_end}
use Rattle.jfr_meta.specs.Body.{Body}
use Rattle.jfr_meta.specs.Described.{IsMetadata}
use Rattle.jfr_value.specs.Values.{Value}
use Rattle.jfr_value.specs.Reading.{value_format}
use Rattle.jfr_value.specs.Nodes.{NodeAt}
use Rattle.jfr_pool.specs.declared.link.Link.{Link}
use Rattle.jfr_pool.specs.declared.entry.EntryAt.{EntryAt}
use Rattle.jfr_pool.specs.Chains.{IsChain}
use Rattle.jfr_pool.specs.Entries.{AreEntries, inline}

-- The position of the last checkpoint, from the header.
abbrev pub pools_at : List ℕ → ℕ
pools_at c = (header_of (take 68 c)).pools

-- The position of the metadata record, from the header.
abbrev pub metadata_at : List ℕ → ℕ
metadata_at c = (header_of (take 68 c)).metadata

-- The parts of a chunk: the bytes, the records, the chained checkpoints with the newest first, the contents
-- of the metadata record, the classes that it describes, and the entries of the chained checkpoints in file
-- order.
pub record Parts : Type 0 where
  pub bytes : List ℕ
  pub records : List Framed
  pub chain : List Link
  pub body : Body
  pub classes : Classes
  pub entries : List EntryAt

-- An event: its record, and the node of its fields, which ends where the last field ends.
pub record EventAt : Type 0 where
  pub record_of : Framed
  pub node : NodeAt

-- The records of event classes, in order.
abbrev pub event_records : Classes → List Framed → List Framed
event_records k rs = filter (λ r. is_event_class k r.type_id) rs

-- The record of an event has all its fields.
abbrev pub HasFields : List ℕ → Classes → Framed → Type 0
HasFields c k r = (v : Value) × (to : ℕ) × Reads (value_format k (inline r.type_id)) c (record_end r) r.body v to

-- The event of a record, given what reading its fields found.
abbrev pub event_by : Framed → Answer Value → Option EventAt
event_by r (Ok g) = Some (record { record_of = r; node = record { shape = inline r.type_id; at = r.body; end = g.place } })
event_by r (Err flaw) = None

-- The event of a record, if the record has all its fields.
abbrev pub event_of : List ℕ → Classes → Framed → Option EventAt
event_of c k r = event_by r (run (value_format k (inline r.type_id)) c (record_end r) r.body)

-- The events of a chunk, in order.
unfoldable pub events_of : Parts → List EventAt
events_of p = filter_map (event_of p.bytes p.classes) (event_records p.classes p.records)

-- Whether a record is neither an event, nor the metadata record at the position in the header, nor a chained
-- checkpoint.
abbrev pub is_inert : Parts → Framed → Bool
is_inert p r = not (is_event_class p.classes r.type_id || (r.at == metadata_at p.bytes) || list_any (λ l. l.frame.at == r.at) p.chain)

-- This record starts at the offset and has the type.
pub record StartsAt (rs : List Framed) (at type_id : ℕ) (r : Framed) : Type 0 where
  pub listed : Contains rs r
  pub place : r.at ≡ at
  pub type_is : r.type_id ≡ type_id

-- These are the parts of the chunk with these bytes.
pub record AreParts (p : Parts) : Type 0 where
  pub records : AreRecords p.bytes p.records
  pub chain : IsChain p.bytes p.records (pools_at p.bytes) p.chain
  pub metadata_record : Framed
  pub metadata_there : StartsAt p.records (metadata_at p.bytes) 0 metadata_record
  pub metadata : IsMetadata p.bytes metadata_record p.body p.classes
  pub entries : AreEntries p.bytes p.classes 0 (reverse p.chain) p.entries
  pub events : All (HasFields p.bytes p.classes) (event_records p.classes p.records)
