-- What an output tells: all that it is made of, and nothing else. No offset of the input is in it.
use Rattle.std.specs.Prelude.{ℕ, ◌+◌, ◌-◌, ◌==◌, List, [], ◌∷◌, ◌++◌, length, map, take, Option, Some, None, slice_range, unwrap_or, if◌then◌else◌}
use Rattle.std.specs.List.{flat_map}
use Rattle.jfr_base.specs.Integer.{spell}
use Rattle.jfr_header.specs.declared.header.Header.{Header}
use Rattle.jfr_header.specs.Headers.{header_of, header_bytes}
use Rattle.jfr_frame.specs.declared.framed.Framed.{Framed}
use Rattle.jfr_frame.specs.Records.{record_bytes}
use Rattle.jfr_pool.specs.declared.link.Link.{Link}
use Rattle.jfr_pool.specs.declared.entry.EntryAt.{EntryAt}
use Rattle.jfr_chunk.specs.Parts.{Parts, EventAt, metadata_at}
use Rattle.jfr_chunk.specs.Reach.{remain}
use Rattle.jfr_chunk.specs.Written.{Group, distance, entry_bytes, sized}
use Rattle.jfr_chunk.specs.Scrub.{OutputRecord, Whole, Chained, Rebuilt, groups_of, output_records}

-- A pool of the output: its class, and the bytes of each of its entries.
pub record ToldPool : Type 0 where
  pub class : ℕ
  pub entries : List (List ℕ)

-- A chained checkpoint of the output: the number of bytes of its size, the bytes of its type, of its start and
-- duration, and of its type byte, and its pools. The number of bytes is told because the output keeps it: without
-- it, the size, the offsets after it and the deltas couldn't be written.
pub record ToldCheckpoint : Type 0 where
  pub width : ℕ
  pub type_bytes : List ℕ
  pub times : List ℕ
  pub kind : List ℕ
  pub pools : List ToldPool

-- A record of the output: an event, the metadata record, or a chained checkpoint.
pub data ToldRecord : Type 0 where
  Event : (bytes : List ℕ) → ToldRecord
  Metadata : (bytes : List ℕ) → ToldRecord
  Checkpoint : ToldCheckpoint → ToldRecord

-- What an output tells: the fields of the header except its size and positions, and the records, in order.
pub record Told : Type 0 where
  pub header : Header
  pub records : List ToldRecord

-- A pool: its class and the number of its entries, each in its shortest spelling, then the entries.
abbrev pub pool_bytes : ToldPool → List ℕ
pool_bytes g = spell g.class ++ (spell (length g.entries) ++ flat_map (λ x. x) g.entries)

-- What follows the size of a checkpoint.
abbrev pub tail_bytes : ToldCheckpoint → ℕ → List ℕ
tail_bytes k delta = k.type_bytes ++ (k.times ++ (spell delta ++ (k.kind ++ (spell (length k.pools) ++ flat_map pool_bytes k.pools))))

-- A record at this offset of the output, with the newest checkpoint before it at `newest`, if there is one.
abbrev pub told_bytes : ToldRecord → ℕ → Option ℕ → List ℕ
told_bytes (Event x) at newest = x
told_bytes (Metadata x) at newest = x
told_bytes (Checkpoint k) at newest = sized k.width (tail_bytes k (distance at newest))

-- The offset of the newest checkpoint once this record is written at this offset.
abbrev pub after : ToldRecord → ℕ → Option ℕ → Option ℕ
after (Event x) at newest = newest
after (Metadata x) at newest = newest
after (Checkpoint k) at newest = Some at

-- The records, one after another, from this offset on.
abbrev pub body_from : ℕ → Option ℕ → List ToldRecord → List ℕ
body_from at newest [] = []
body_from at newest (t ∷ ts) = told_bytes t at newest ++ body_from (at + length (told_bytes t at newest)) (after t at newest) ts

-- The offset of the newest checkpoint; 0 if there is none.
abbrev pub last_from : ℕ → Option ℕ → List ToldRecord → ℕ
last_from at newest [] = unwrap_or newest 0
last_from at newest (t ∷ ts) = last_from (at + length (told_bytes t at newest)) (after t at newest) ts

-- The offset of the metadata record; 0 if there is none.
abbrev pub metadata_from : ℕ → Option ℕ → List ToldRecord → ℕ
metadata_from at newest [] = 0
metadata_from at newest (Event x ∷ ts) = metadata_from (at + length x) newest ts
metadata_from at newest (Metadata x ∷ ts) = at
metadata_from at newest (Checkpoint k ∷ ts) = metadata_from (at + length (told_bytes (Checkpoint k) at newest)) (Some at) ts

-- The output that tells this. No chunk is mentioned.
unfoldable pub rendered : Told → List ℕ
rendered t =
    let body = body_from 68 None t.records in
    header_bytes (record t.header { size = 68 + length body; pools = last_from 68 None t.records; metadata = metadata_from 68 None t.records }) ++ body

-- The fields of a chunk's header, with 0 for its size and positions.
abbrev pub told_header : List ℕ → Header
told_header c = record (header_of (take 68 c)) { size = 0; pools = 0; metadata = 0 }

-- A chained checkpoint without its pools.
abbrev pub told_head : List ℕ → Link → ToldCheckpoint
told_head c l = record {
  width = l.frame.type_at - l.frame.at;
  type_bytes = slice_range c l.frame.type_at l.frame.body;
  times = slice_range c l.frame.body l.delta_at;
  kind = slice_range c l.delta_end (l.delta_end + 1);
  pools = [];
}

-- A group of entries, given the bytes of each.
abbrev pub told_pool : (EntryAt → List ℕ) → Group → ToldPool
told_pool entry g = record { class = g.class; entries = map entry g.entries }

-- The pools of the checkpoint with this number, given the entries of the output and the bytes of each.
abbrev pub told_pools : (EntryAt → List ℕ) → List EntryAt → ℕ → List ToldPool
told_pools entry entries number = map (told_pool entry) (groups_of entries number)

-- An output record, given the entries of the output, the bytes of each, and the bytes of what isn't a
-- checkpoint.
abbrev pub told_record : (Framed → List ℕ) → (EntryAt → List ℕ) → Parts → List EntryAt → OutputRecord → ToldRecord
told_record whole entry p entries (Whole r) = if r.at == metadata_at p.bytes then Metadata (whole r) else Event (whole r)
told_record whole entry p entries (Rebuilt r x) = Metadata x
told_record whole entry p entries (Chained number l) = Checkpoint (record (told_head p.bytes l) { pools = told_pools entry entries number })

-- What an output with these entries and records tells.
abbrev pub told_by : (Framed → List ℕ) → (EntryAt → List ℕ) → Parts → List EntryAt → List OutputRecord → Told
told_by whole entry p entries ss = record { header = told_header p.bytes; records = map (told_record whole entry p entries) ss }

-- What the output of a chunk tells if these events are kept, given the new metadata record, if there is one.
unfoldable pub told : Option (List ℕ) → Parts → List EventAt → Told
told slim p kept = told_by (record_bytes p.bytes) (entry_bytes p.bytes) p (remain p kept) (output_records slim p kept)
