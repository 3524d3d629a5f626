-- Why a chunk is refused. Reading has stages, each of which needs what the ones before found.
use Rattle.std.specs.Prelude.{◌≡◌, ℕ, List, [], ◌∷◌, ◌++◌, reverse, Option, Some, None, Result, Ok, Err, All}
use Rattle.jfr_base.specs.declared.reason.Reason.{Reason}
use Rattle.jfr_base.specs.declared.reason.Reason.TheVariants.{RecordSize, MetadataPosition, PoolPosition}
use Rattle.jfr_base.specs.declared.flaw.Flaw.{Flaw}
use Rattle.jfr_base.specs.Formats.{Fails, Answer, run}
use Rattle.jfr_layout.specs.Classes.{Classes}
use Rattle.jfr_frame.specs.declared.framed.Framed.{Framed}
use Rattle.jfr_frame.specs.Records.{AreRecords, FrameFlaw, records_of, record_there, record_end}
use Rattle.jfr_meta.specs.Body.{Body, meta_format}
use Rattle.jfr_meta.specs.Described.{IsMetadata, IsMetadataFlaw, described}
use Rattle.jfr_value.specs.Values.{Value}
use Rattle.jfr_value.specs.Reading.{value_format}
use Rattle.jfr_pool.specs.declared.link.Link.{Link}
use Rattle.jfr_pool.specs.declared.entry.EntryAt.{EntryAt}
use Rattle.jfr_pool.specs.Chains.{IsChain, ChainFlaw, chain_of}
use Rattle.jfr_pool.specs.Entries.{AreEntries, checkpoint_format, entries_of, inline}
use Rattle.jfr_chunk.specs.Parts.{Parts, StartsAt, HasFields, event_records, pools_at, metadata_at}

-- The first stage found the records, and those at the header's positions.
pub record Framing (c : List ℕ) : Type 0 where
  pub records : List Framed
  pub cover : AreRecords c records
  pub metadata : Framed
  pub metadata_there : StartsAt records (metadata_at c) 0 metadata
  pub last : Framed
  pub last_there : StartsAt records (pools_at c) 1 last

-- The next stage found the chain.
pub record Chained (c : List ℕ) : Type 0 where
  pub framing : Framing c
  pub chain : List Link
  pub links : IsChain c framing.records (pools_at c) chain

-- The next stage found the metadata and its classes.
pub record Described (c : List ℕ) : Type 0 where
  pub chained : Chained c
  pub body : Body
  pub classes : Classes
  pub metadata : IsMetadata c chained.framing.metadata body classes

-- The next stage found the entries of the chained checkpoints.
pub record Pooled (c : List ℕ) : Type 0 where
  pub described : Described c
  pub entries : List EntryAt
  pub valid : AreEntries c described.classes 0 (reverse described.chained.chain) entries

-- One member fails with this flaw, and those before it are good.
pub record FirstFails {X : Type 0} (Good : X → Type 0) (Bad : X → ℕ → Reason → Type 0) (xs : List X) (flaw : Flaw) : Type 0 where
  pub before : List X
  pub first : X
  pub after : List X
  pub parts : xs ≡ before ++ first ∷ after
  pub good : All Good before
  pub fails : Bad first flaw.offset flaw.reason

-- The chunk is refused for this flaw, the first one of the first stage that has any.
pub data Refused (c : List ℕ) (flaw : Flaw) : Type 0 where
  -- No record fits at an offset.
  framing : FrameFlaw c flaw.offset → flaw.reason ≡ RecordSize → Refused c flaw
  -- No metadata record starts at the position in the header.
  metadata_position : (rs : List Framed) → AreRecords c rs → ((r : Framed) → StartsAt rs (metadata_at c) 0 r → ⊥) → flaw ≡ record { offset = 24; reason = MetadataPosition } → Refused c flaw
  -- No checkpoint starts at the position in the header.
  pool_position : (rs : List Framed) → AreRecords c rs → (m : Framed) → StartsAt rs (metadata_at c) 0 m → ((r : Framed) → StartsAt rs (pools_at c) 1 r → ⊥)
      → flaw ≡ record { offset = 16; reason = PoolPosition } → Refused c flaw
  -- A chained checkpoint's head or delta is faulty.
  chain : (f : Framing c) (before : List Link) → ChainFlaw c f.records (pools_at c) before flaw.offset flaw.reason → Refused c flaw
  -- The metadata's body or its classes are faulty.
  metadata : (h : Chained c) → IsMetadataFlaw c h.framing.metadata flaw → Refused c flaw
  -- A chained checkpoint's body is faulty; it is the first such one in file order.
  checkpoints : (d : Described c)
      → FirstFails (λ l. (es : List EntryAt) × AreEntries c d.classes 0 (l ∷ []) es) (λ l. Fails (checkpoint_format d.classes) c (record_end l.frame) l.frame.body) (reverse d.chained.chain) flaw
      → Refused c flaw
  -- An event's fields are faulty; it is the first such event in file order.
  events : (p : Pooled c)
      → FirstFails (HasFields c p.described.classes) (λ r. Fails (value_format p.described.classes (inline r.type_id)) c (record_end r) r.body) (event_records p.described.classes p.described.chained.framing.records) flaw → Refused c flaw

-- In the computation, a stage gets what the one before found; if that was a flaw, it is the result.
abbrev pub and_then : {A B : Type 0} → Result A Flaw → (A → Result B Flaw) → Result B Flaw
and_then (Ok a) next = next a
and_then (Err flaw) next = Err flaw

-- The record that was looked for, or the flaw.
abbrev pub found_or : Flaw → Option Framed → Result Framed Flaw
found_or flaw (Some r) = Ok r
found_or flaw None = Err flaw

-- The body that was read, or its flaw.
abbrev pub body_by : Answer Body → Result Body Flaw
body_by (Ok g) = Ok g.value
body_by (Err flaw) = Err flaw

-- The flaw of an event's fields, if there is one, else the result for the events after it.
abbrev pub fields_by : Answer Value → Result (List Framed) Flaw → Result (List Framed) Flaw
fields_by (Ok g) later = later
fields_by (Err flaw) later = Err flaw

-- The flaw of the first event whose record doesn't have all its fields, else all events.
abbrev pub events_checked : List ℕ → Classes → List Framed → List Framed → Result (List Framed) Flaw
events_checked c k all [] = Ok all
events_checked c k all (r ∷ rs) = fields_by (run (value_format k (inline r.type_id)) c (record_end r) r.body) (events_checked c k all rs)

-- The parts of the chunk, or its flaw.
unfoldable pub read_parts : List ℕ → Result Parts Flaw
read_parts c =
    and_then (records_of c) λ rs.
    and_then (found_or (record { offset = 24; reason = MetadataPosition }) (record_there rs (metadata_at c) 0)) λ m.
    and_then (found_or (record { offset = 16; reason = PoolPosition }) (record_there rs (pools_at c) 1)) λ last.
    and_then (chain_of c rs last) λ chain.
    and_then (body_by (run meta_format c (record_end m) m.body)) λ body.
    and_then (described body) λ classes.
    and_then (entries_of c classes 0 (reverse chain)) λ entries.
    and_then (events_checked c classes (event_records classes rs) (event_records classes rs)) λ events.
    Ok (record { bytes = c; records = rs; chain = chain; body = body; classes = classes; entries = entries })

-- The flaw in a result, if it is one.
abbrev pub flaw_in : {A : Type 0} → Result A Flaw → Option Flaw
flaw_in (Ok a) = None
flaw_in (Err flaw) = Some flaw

-- The flaw for which a chunk is refused, if it is.
unfoldable pub refusal_of : List ℕ → Option Flaw
refusal_of c = flaw_in (read_parts c)
