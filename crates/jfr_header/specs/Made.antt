-- The header of a chunk that this program makes.
use Rattle.std.specs.Prelude.{ℕ}
use Rattle.jfr_header.specs.declared.header.Header.{Header}

-- The header of a made chunk with this size and its last checkpoint at `pools`: version 2.1, 1,000,000,000
-- ticks in a second, compressed integers, the last chunk, and the metadata record right after the header.
abbrev pub made_header : ℕ → ℕ → Header
made_header size pools = record {
  major = 2;
  minor = 1;
  size = size;
  pools = pools;
  metadata = 68;
  start_nanos = 0;
  duration_nanos = 0;
  start_ticks = 0;
  ticks_per_second = 1000000000;
  state = 0;
  padding = 0;
  flags = 3;
}
