-- The pieces of an output: ranges of the chunk, and ranges of made bytes.
use Rattle.std.specs.Prelude.{◌≡◌, ℕ, ◌+◌, ◌^◌, ◌<◌, ◌≤◌, List, [], ◌∷◌, ◌++◌, length, slice_get, slice_range, Some, ⊤}
use Rattle.std.specs.List.{AllByRecursion, flat_map}
use Rattle.jfr_base.specs.Integer.{FitsIn, spell, spell_in}
use Rattle.jfr_header.specs.Headers.{header_bytes}
use Rattle.jfr_header.specs.declared.header.Header.{Header}
use Rattle.jfr_frame.specs.declared.framed.Framed.{Framed}
use Rattle.jfr_frame.specs.Records.{record_end}
use Rattle.jfr_pool.specs.declared.entry.EntryAt.{EntryAt}
use Rattle.jfr_chunk.specs.Parts.{Parts, EventAt, StartsAt, metadata_at}
use Rattle.jfr_output.specs.Metadata.{IsMetadataRecord}
use Rattle.jfr_scrub.specs.declared.piece.MadePart.{MadePart}
use Rattle.jfr_scrub.specs.declared.piece.MadePart.TheVariants.{ChunkHeader, CheckpointSize, CheckpointDelta, PoolCount, PoolClass, EntryCount, MetadataRecord}
use Rattle.jfr_scrub.specs.declared.piece.Range.{Range}
use Rattle.jfr_scrub.specs.declared.piece.Range.TheVariants as ranges
use Rattle.jfr_scrub.specs.declared.piece.Piece.{Piece}
use Rattle.jfr_scrub.specs.declared.piece.Piece.TheVariants as pieces
use Rattle.jfr_scrub.specs.declared.ranges.Ranges.{Ranges}

-- A chunk, the made bytes, and the ranges of the pieces, in order.
pub record PieceList : Type 0 where
  pub chunk : List ℕ
  pub made : List ℕ
  pub pieces : List Range

-- The bytes of a range.
abbrev pub range_bytes : List ℕ → List ℕ → Range → List ℕ
range_bytes c made (ranges.Copied from to) = slice_range c from to
range_bytes c made (ranges.Made part from to) = slice_range made from to

-- The bytes of the pieces, one after another.
abbrev pub joined : PieceList → List ℕ
joined l = flat_map (range_bytes l.chunk l.made) l.pieces

-- The range lies in the chunk, or in the made bytes, of these lengths.
abbrev pub Lies : ℕ → ℕ → Range → Type 0
Lies n m (ranges.Copied from to) = (from ≤ to) × (to ≤ n)
Lies n m (ranges.Made part from to) = (from ≤ to) × (to ≤ m)

-- The pieces lie in the chunk and in the made bytes.
abbrev pub LieIn : PieceList → Type 0
LieIn l = AllByRecursion (Lies (length l.chunk) (length l.made)) l.pieces

-- The pieces given by a chunk and these ranges.
abbrev pub laid_in : List ℕ → Ranges → PieceList
laid_in c r = record { chunk = c; made = r.made.items; pieces = r.ranges.items }

-- The range of a piece.
abbrev pub range_of : Piece → Range
range_of (pieces.Copied at bytes) = ranges.Copied at (at + length bytes.now)
range_of (pieces.Made part from to) = ranges.Made part from to

-- The bytes of a copied piece are those of the chunk at its offset.
abbrev pub IsOfChunk : List ℕ → Piece → Type 0
IsOfChunk c (pieces.Copied at bytes) = bytes.now ≡ slice_range c at (at + length bytes.now)
IsOfChunk c (pieces.Made part from to) = ⊤

-- The range of the chunk from start to end is in one copied piece.
pub record IsCopied (ps : List Range) (start end : ℕ) : Type 0 where
  pub number : ℕ
  pub from : ℕ
  pub to : ℕ
  pub piece : slice_get ps number ≡ Some (ranges.Copied from to)
  pub begins : from ≤ start
  pub ends : end ≤ to

-- The record is in one copied piece.
abbrev pub RecordIsCopied : List Range → Framed → Type 0
RecordIsCopied ps r = IsCopied ps r.at (record_end r)

-- The record of the event is in one copied piece.
abbrev pub EventIsCopied : List Range → EventAt → Type 0
EventIsCopied ps e = RecordIsCopied ps e.record_of

-- The entry, with its key and its value, is in one copied piece.
abbrev pub EntryIsCopied : List Range → EntryAt → Type 0
EntryIsCopied ps e = IsCopied ps e.key_at e.end

-- The metadata record at the position in the header is in one copied piece.
pub record MetadataIsCopied (ps : List Range) (p : Parts) : Type 0 where
  pub frame : Framed
  pub there : StartsAt p.records (metadata_at p.bytes) 0 frame
  pub copied : RecordIsCopied ps frame

-- Every range that isn't empty and was in one copied piece still is.
abbrev pub Keeps : List Range → List Range → Type 0
Keeps ps qs = (start end : ℕ) → start < end → IsCopied ps start end → IsCopied qs start end

-- The meanings of the made pieces, in order.
abbrev pub made_parts : List Range → List MadePart
made_parts [] = []
made_parts (ranges.Copied from to ∷ ps) = made_parts ps
made_parts (ranges.Made part from to ∷ ps) = part ∷ made_parts ps

-- All ranges that were copied still are, and `these` made parts were added after the old ones.
pub record Grows (ps qs : List Range) (these : List MadePart) : Type 0 where
  pub keeps : Keeps ps qs
  pub made : made_parts qs ≡ made_parts ps ++ these

-- The bytes are those of a header.
pub record IsHeader (b : List ℕ) : Type 0 where
  pub header : Header
  pub bytes : b ≡ header_bytes header

-- The bytes are the shortest spelling, of at most nine bytes, of an integer of 64 bits.
pub record IsShortest (b : List ℕ) : Type 0 where
  pub value : ℕ
  pub small : value < 2 ^ 64
  pub bytes : b ≡ spell value

-- The bytes spell an integer in a given number of bytes, at most nine, that is large enough for it.
pub record IsInWidth (b : List ℕ) : Type 0 where
  pub width : ℕ
  pub value : ℕ
  pub least : 1 ≤ width
  pub most : width ≤ 9
  pub fits : FitsIn value width
  pub bytes : b ≡ spell_in width value

-- The bytes are those of a part with this meaning: an integer in the right spelling, or a metadata record. A
-- header is neither.
abbrev pub IsMadeBytes : MadePart → List ℕ → Type 0
IsMadeBytes ChunkHeader b = ⊥
IsMadeBytes CheckpointSize b = IsInWidth b
IsMadeBytes CheckpointDelta b = IsShortest b
IsMadeBytes PoolCount b = IsShortest b
IsMadeBytes PoolClass b = IsShortest b
IsMadeBytes EntryCount b = IsShortest b
IsMadeBytes MetadataRecord b = IsMetadataRecord b

-- An integer with this meaning is in its shortest spelling.
abbrev pub TakesShortest : MadePart → Type 0
TakesShortest ChunkHeader = ⊥
TakesShortest CheckpointSize = ⊥
TakesShortest CheckpointDelta = ⊤
TakesShortest PoolCount = ⊤
TakesShortest PoolClass = ⊤
TakesShortest EntryCount = ⊤
TakesShortest MetadataRecord = ⊥

-- A made piece has the bytes of its meaning, which isn't a header.
abbrev pub IsMadeBytesIn : List ℕ → Range → Type 0
IsMadeBytesIn made (ranges.Copied from to) = ⊤
IsMadeBytesIn made (ranges.Made part from to) = IsMadeBytes part (slice_range made from to)

-- Each made piece has the bytes of its meaning, which isn't a header.
abbrev pub AreMadeBytes : PieceList → Type 0
AreMadeBytes l = AllByRecursion (IsMadeBytesIn l.made) l.pieces

-- The first piece is the header, and each other made piece has the bytes of its meaning.
pub record IsHeaded (l : PieceList) : Type 0 where
  pub from : ℕ
  pub to : ℕ
  pub others : List Range
  pub pieces : l.pieces ≡ ranges.Made ChunkHeader from to ∷ others
  pub header : IsHeader (slice_range l.made from to)
  pub numbers : AllByRecursion (IsMadeBytesIn l.made) others

-- A chunk, and the bytes of its output so far.
pub record OutputSoFar : Type 0 where
  pub chunk : List ℕ
  pub bytes : List ℕ

-- The bytes of the pieces so far.
abbrev pub output_so_far : PieceList → OutputSoFar
output_so_far l = record { chunk = l.chunk; bytes = joined l }

-- The output with more bytes.
abbrev pub more : OutputSoFar → List ℕ → OutputSoFar
more l bytes = record { chunk = l.chunk; bytes = l.bytes ++ bytes }
