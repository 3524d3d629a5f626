-- A scrubber of one chunk.
use Rattle.std.specs.Prelude.{ℕ, List}
use Rattle.jfr_header.specs.Fronts.{Whole}
use Rattle.jfr_chunk.specs.Parts.{Parts, AreParts}
use Rattle.jfr_scrub.specs.Pieces.{PieceList, joined}

-- The parts are those of a whole chunk.
pub record IsAccepted (p : Parts) : Type 0 where
  pub whole : Whole p.bytes
  pub parts : AreParts p

-- The pieces of the output, a bound on their bytes, and the numbers of events and entries that are kept.
pub record Prepared : Type 0 where
  pub laid : PieceList
  pub size : ℕ
  pub events : ℕ
  pub entries : ℕ

-- The pieces of the output, the bytes that have been written, and the numbers of events and entries that are
-- kept.
pub record Scrubbing : Type 0 where
  pub laid : PieceList
  pub written : List ℕ
  pub events : ℕ
  pub entries : ℕ

-- The scrubber after all pieces have been written.
abbrev pub all_written : Scrubbing → Scrubbing
all_written s = record { laid = s.laid; written = joined s.laid; events = s.events; entries = s.entries }
