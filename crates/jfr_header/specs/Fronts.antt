-- What is at the front of the bytes that are left of a recording: a chunk, the end, or a flaw.
use Rattle.std.specs.Prelude.{◌≡◌, ℕ, ◌%◌, ◌^◌, ◌≤◌, Bool, not, ◌==◌, nat_lt, nat_le, List, length, take, Option, Some, None, if◌then◌else◌}
use Rattle.byteorder.specs.Endian.{big_number}
use Rattle.jfr_header.specs.declared.header.Header.{Header}
use Rattle.jfr_header.specs.Headers.{header_of, magic}
use Rattle.jfr_base.specs.declared.flaw.Flaw.{Flaw}
use Rattle.jfr_base.specs.declared.reason.Reason.{Reason}
use Rattle.jfr_base.specs.declared.reason.Reason.TheVariants.{NoChunk, ShortHeader, Magic, Version, Unfinished, NotCompact, ChunkSize, ShortChunk, TooLong}

-- A flaw at an offset from the chunk's first byte.
abbrev pub flaw_at : ℕ → Reason → Flaw
flaw_at offset reason = record { offset = offset; reason = reason }

-- The size of the chunk in a header.
abbrev pub size_of : List ℕ → ℕ
size_of h = (header_of h).size

-- The first flaw in the fields of a header, in the order in which they are checked.
abbrev pub field_flaw : Header → Option Flaw
field_flaw h =
    if not (h.major == 2) then Some (flaw_at 4 Version)
    else if not (h.state == 0) then Some (flaw_at 64 Unfinished)
    else if h.flags % 2 == 0 then Some (flaw_at 67 NotCompact)
    else if nat_lt h.size 68 then Some (flaw_at 8 ChunkSize)
    else if nat_le (2 ^ 30) h.size then Some (flaw_at 8 ChunkSize)
    else None

-- The first flaw in the bytes of a header.
unfoldable pub header_flaw : List ℕ → Option Flaw
header_flaw h = if not (big_number 4 h == magic) then Some (flaw_at 0 Magic) else field_flaw (header_of h)

-- What is at the front: a flaw, the recording's end, or a chunk.
pub data Front : Type 0 where
  Bad : Flaw → Front
  End : Front
  Chunk : List ℕ → Front

-- What is at the front, if the header there has this size: a chunk of this size, if there are enough bytes.
abbrev pub sized : List ℕ → ℕ → Front
sized rest size = if nat_lt (length rest) size then Bad (flaw_at (length rest) ShortChunk) else Chunk (take size rest)

-- What is at the front, by the flaw of the header there.
abbrev pub headed : List ℕ → Option Flaw → Front
headed rest (Some f) = Bad f
headed rest None = sized rest (size_of (take 68 rest))

-- What is at the front of bytes that start at this byte of the recording; `first` says that there was no
-- chunk before them.
unfoldable pub front : List ℕ → ℕ → Bool → Front
front rest start first =
    if length rest == 0 then (if first then Bad (flaw_at 0 NoChunk) else End)
    else if nat_le (2 ^ 40) start then Bad (flaw_at 0 TooLong)
    else if nat_lt (length rest) 68 then Bad (flaw_at (length rest) ShortHeader)
    else headed rest (header_flaw (take 68 rest))

-- The length of a header and its chunk, by the size in the header and the header's flaw.
abbrev pub reach_by : ℕ → Option Flaw → ℕ
reach_by size (Some f) = 68
reach_by size None = size

-- The length of the header at the front and its chunk: 68 if the header is short or refused.
unfoldable pub reach : List ℕ → ℕ
reach rest = if nat_lt (length rest) 68 then 68 else reach_by (size_of (take 68 rest)) (header_flaw (take 68 rest))

-- A whole chunk: its header has no flaw, and the size in it is the chunk's length.
pub record Whole (c : List ℕ) : Type 0 where
  pub long : 68 ≤ length c
  pub flawless : header_flaw (take 68 c) ≡ None
  pub size : size_of (take 68 c) ≡ length c
