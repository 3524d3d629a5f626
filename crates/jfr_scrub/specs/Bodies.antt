-- The body of an output chunk, which is all that follows its header, while it is laid out.
use Rattle.std.specs.Prelude.{◌≡◌, ℕ, ◌+◌, ◌≤◌, ◌==◌, List, [], ◌∷◌, length, filter, Option, None, unwrap_or, ⊤}
use Rattle.std.specs.List.{AllByRecursion, flat_map}
use Rattle.jfr_frame.specs.Records.{IsRecord}
use Rattle.jfr_pool.specs.declared.entry.EntryAt.{EntryAt}
use Rattle.jfr_chunk.specs.Parts.{Parts, EventAt, metadata_at}
use Rattle.jfr_chunk.specs.Reach.{remain}
use Rattle.jfr_chunk.specs.Written.{Group, distance}
use Rattle.jfr_chunk.specs.Scrub.{OutputRecord, Whole, Chained, Rebuilt, output_records, groups_of, bytes_of, written_bytes, newest_after, written, newest_at, record_of, moved}
use Rattle.jfr_output.specs.Positions.{offset_so_far}
use Rattle.jfr_scrub.specs.declared.body.BodySoFar.{BodySoFar}
use Rattle.jfr_scrub.specs.declared.piece.MadePart.{MadePart}
use Rattle.jfr_scrub.specs.declared.piece.MadePart.TheVariants.{ChunkHeader, CheckpointSize, CheckpointDelta, PoolCount, PoolClass, EntryCount, MetadataRecord}
use Rattle.jfr_scrub.specs.declared.piece.Range.{Range}
use Rattle.jfr_scrub.specs.Pieces.{OutputSoFar, output_so_far, more, EntryIsCopied, Keeps, RecordIsCopied}
use Rattle.jfr_scrub.specs.Fits.{LinkFits}

-- The body so far, as bytes.
pub record Progress : Type 0 where
  pub output : OutputSoFar
  pub at : ℕ
  pub newest : Option ℕ
  pub metadata : Option ℕ

-- The code's `BodySoFar`, as the progress that it has made.
abbrev pub progress_of : BodySoFar → Progress
progress_of b = record { output = output_so_far b.output; at = b.at; newest = b.newest; metadata = b.metadata }

-- The output record takes no more bytes than the record of the chunk from which it is made.
abbrev pub OutputRecordFits : List ℕ → List EntryAt → OutputRecord → ℕ → Option ℕ → Type 0
OutputRecordFits c remaining (Whole r) at newest = IsRecord c r
OutputRecordFits c remaining (Rebuilt r x) at newest = IsRecord c r × (1 ≤ length x) × (length x ≤ r.size)
OutputRecordFits c remaining (Chained number l) at newest = LinkFits c l (distance at newest) (groups_of remaining number)

-- The body with one output record more: its bytes, the offset after it, the offset of the newest checkpoint,
-- and that of the metadata record, which was at this offset in the chunk.
abbrev pub body_with : List EntryAt → ℕ → Progress → OutputRecord → Progress
body_with remaining metadata b s =
    let bytes = bytes_of b.output.chunk remaining s b.at b.newest in
    record { output = more b.output bytes; at = b.at + length bytes; newest = newest_after s b.at b.newest; metadata = offset_so_far b.metadata ((record_of s).at == metadata) b.at }

-- The body with all output records.
pub record HasAllRecords (p : Parts) (remaining : List EntryAt) (ss : List OutputRecord) (b : Progress) : Type 0 where
  pub output : b.output ≡ record { chunk = p.bytes; bytes = flat_map (written_bytes p.bytes remaining) (written p.bytes remaining 68 None ss) }
  pub at : b.at ≡ 68 + length (flat_map (written_bytes p.bytes remaining) (written p.bytes remaining 68 None ss))
  pub newest : unwrap_or b.newest 0 ≡ newest_at None (written p.bytes remaining 68 None ss)
  pub metadata : unwrap_or b.metadata 0 ≡ moved (written p.bytes remaining 68 None ss) (metadata_at p.bytes)
  pub within : b.at ≤ length p.bytes

-- What the pieces must copy of an output record: a whole record in one piece, or each entry of a chained
-- checkpoint in one piece. A rebuilt metadata record is made, so nothing of it must be copied.
abbrev pub OutputRecordIsCopied : List EntryAt → List Range → OutputRecord → Type 0
OutputRecordIsCopied remaining ps (Whole r) = RecordIsCopied ps r
OutputRecordIsCopied remaining ps (Rebuilt r x) = ⊤
OutputRecordIsCopied remaining ps (Chained number l) = AllByRecursion (EntryIsCopied ps) (filter (λ e. e.checkpoint == number) remaining)

-- The output records are copied in these pieces, and in any others that keep the copied ranges of these.
abbrev pub OutputRecordsAreCopied : List EntryAt → List OutputRecord → List Range → Type 0
OutputRecordsAreCopied remaining ss ps = (qs : List Range) → Keeps ps qs → AllByRecursion (OutputRecordIsCopied remaining qs) ss

-- The made parts of a pool: its class and its number of entries.
abbrev pub pool_parts : Group → List MadePart
pool_parts g = PoolClass ∷ EntryCount ∷ []

-- The made parts of a checkpoint: its size, its delta, its number of pools, then those of each pool.
abbrev pub checkpoint_parts : List Group → List MadePart
checkpoint_parts gs = CheckpointSize ∷ CheckpointDelta ∷ PoolCount ∷ flat_map pool_parts gs

-- The made parts of an output record: none for a whole record, which is copied, and one for a metadata record
-- that is built anew.
abbrev pub output_record_parts : List EntryAt → OutputRecord → List MadePart
output_record_parts remaining (Whole r) = []
output_record_parts remaining (Rebuilt r x) = MetadataRecord ∷ []
output_record_parts remaining (Chained number l) = checkpoint_parts (groups_of remaining number)

-- All made parts of the output if these events are kept, given the new metadata record, if there is one: the
-- header, then those of each output record.
abbrev pub all_made : Option (List ℕ) → Parts → List EventAt → List MadePart
all_made slim p kept = ChunkHeader ∷ flat_map (output_record_parts (remain p kept)) (output_records slim p kept)
