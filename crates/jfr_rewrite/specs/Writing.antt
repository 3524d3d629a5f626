-- The rewritten chunk while it is written.
use Rattle.std.specs.Prelude.{◌≡◌, ℕ, ◌==◌, Bool, List, ◌++◌, length, filter, replicate, slice_range, Option, None, unwrap_or, Result, Ok, Err, ⊤}
use Rattle.std.specs.List.{AllByRecursion, flat_map}
use Rattle.jfr_frame.specs.Records.{IsRecord}
use Rattle.jfr_value.specs.Nodes.{NodeAt}
use Rattle.jfr_pool.specs.declared.entry.EntryAt.{EntryAt}
use Rattle.jfr_pool.specs.declared.link.Link.{Link}
use Rattle.jfr_chunk.specs.Parts.{Parts, metadata_at}
use Rattle.jfr_chunk.specs.Reach.{marked}
use Rattle.jfr_chunk.specs.Scrub.{OutputRecord, Whole, Chained, Rebuilt, newest_at, moved, newest_after, record_of}
use Rattle.jfr_laws.specs.InChunk.{IsEntryIn, IsLinkIn}
use Rattle.jfr_output.specs.Positions.{offset_so_far}
use Rattle.jfr_rewrite.specs.declared.fault.WriteFault.{WriteFault}
use Rattle.jfr_rewrite.specs.declared.fault.WriteFault.TheVariants as faults
use Rattle.jfr_rewrite.specs.declared.writer.ChunkSoFar.{ChunkSoFar}
use Rattle.jfr_rewrite.specs.Changed.{Change}
use Rattle.jfr_rewrite.specs.Rewrite.{Rewrite, bytes_by, changed_bytes, written_by}

-- What the result of writing says. If it is Ok, this was written; it is TooLong only if this isn't so: each size is
-- carried.
abbrev pub Wrote : {A : Type 0} → Result A WriteFault → (A → Type 0) → Type 0 → Type 0
Wrote (Ok x) Written Carried = Written x
Wrote (Err faults.Memory) Written Carried = ⊤
Wrote (Err faults.TooLong) Written Carried = Carried → ⊥

-- This way to rewrite, but with this new metadata record, if there is one.
abbrev pub with_metadata : Rewrite → Option (List ℕ) → Rewrite
with_metadata w new = record { change = w.change; key = w.key; width = w.width; metadata = new }

-- The bytes from one offset up to another, with this node between them changed.
abbrev pub changed_within : Change → Parts → NodeAt → ℕ → ℕ → List ℕ
changed_within ch p n from to = slice_range p.bytes from n.at ++ (changed_bytes ch p.classes p.bytes n ++ slice_range p.bytes n.end to)

-- These are some of the chunk's entries, in order.
abbrev pub AreSomeOf : Parts → List EntryAt → Type 0
AreSomeOf p es = (marks : List Bool) × (es ≡ marked marks p.entries)

-- The bytes so far, of which the first 68 are for the header, and the offsets of the newest checkpoint and of
-- the metadata record, if they have been written.
pub record Progress : Type 0 where
  pub bytes : List ℕ
  pub newest : Option ℕ
  pub metadata : Option ℕ

-- The code's `ChunkSoFar`, as the progress that it has made.
abbrev pub progress_of : ChunkSoFar → Progress
progress_of o = record { bytes = o.bytes.items; newest = o.newest; metadata = o.metadata }

-- The output with one output record more, given the bytes of each. The metadata record was at this offset in
-- the chunk.
unfoldable pub with_record : (OutputRecord → ℕ → Option ℕ → List ℕ) → ℕ → Progress → OutputRecord → Progress
with_record bytes old_at b s = record {
  bytes = b.bytes ++ bytes s (length b.bytes) b.newest;
  newest = newest_after s (length b.bytes) b.newest;
  metadata = offset_so_far b.metadata ((record_of s).at == old_at) (length b.bytes);
}

-- The output has all output records, given the bytes of each, and 68 bytes for the header.
pub record HasAllRecords (p : Parts) (bytes : OutputRecord → ℕ → Option ℕ → List ℕ) (ss : List OutputRecord) (b : Progress) : Type 0 where
  pub body : b.bytes ≡ replicate 68 0 ++ flat_map (bytes_by bytes) (written_by bytes 68 None ss)
  pub newest : unwrap_or b.newest 0 ≡ newest_at None (written_by bytes 68 None ss)
  pub metadata : unwrap_or b.metadata 0 ≡ moved (written_by bytes 68 None ss) (metadata_at p.bytes)

-- The checkpoint and these entries are in the chunk.
pub record CheckpointStands (p : Parts) (l : Link) (es : List EntryAt) : Type 0 where
  pub link : IsLinkIn p.bytes l
  pub entries : AllByRecursion (IsEntryIn p.bytes p.classes) es

-- The output record can be written: what it is made of is in the chunk.
unfoldable pub CanWrite : Parts → List EntryAt → OutputRecord → Type 0
CanWrite p entries (Whole r) = IsRecord p.bytes r
CanWrite p entries (Rebuilt r x) = IsRecord p.bytes r
CanWrite p entries (Chained number l) = CheckpointStands p l (filter (λ e. e.checkpoint == number) entries)
