-- The plain chunk and edits of it, computed.
use Rattle.std.specs.Prelude.{◌≡◌, ℕ, ◌+◌, ◌-◌, ◌^◌, true, false, List, [], ◌∷◌, ◌++◌, length, take, drop, Some, None, refl}
use Rattle.jfr_base.specs.declared.reason.Reason.TheVariants.{NoChunk, ShortHeader, Magic, Version, Unfinished, NotCompact, ChunkSize, ShortChunk, TooLong}
use Rattle.jfr_header.specs.Headers.{header_of, header_bytes}
use Rattle.jfr_header.specs.Fronts.{Bad, End, Chunk, flaw_at, header_flaw, front, reach}
use Rattle.jfr_header.specs.Cuts.{cut, cut_within}

abbrev header : List ℕ
header = 70 ∷ 76 ∷ 82 ∷ 0 ∷ 0 ∷ 2 ∷ 0 ∷ 1 ∷ 0 ∷ 0 ∷ 0 ∷ 0 ∷ 0 ∷ 0 ∷ 0 ∷ 103 ∷ 0 ∷ 0 ∷ 0 ∷ 0 ∷ 0 ∷ 0 ∷ 0 ∷ 96 ∷ 0 ∷ 0 ∷ 0 ∷ 0 ∷ 0 ∷ 0 ∷ 0 ∷ 68 ∷ 0 ∷ 0 ∷ 0 ∷ 0 ∷ 0 ∷ 0 ∷ 3 ∷ 232 ∷ 0 ∷ 0 ∷ 0 ∷ 0 ∷ 0 ∷ 0
    ∷ 0 ∷ 5 ∷ 0 ∷ 0 ∷ 0 ∷ 0 ∷ 0 ∷ 0 ∷ 0 ∷ 0 ∷ 0 ∷ 0 ∷ 0 ∷ 0 ∷ 59 ∷ 154 ∷ 202 ∷ 0 ∷ 0 ∷ 0 ∷ 0 ∷ 1 ∷ []

abbrev plain : List ℕ
plain = header ++ 28 ∷ 0 ∷ 0 ∷ 0 ∷ 1 ∷ 2 ∷ 3 ∷ 4 ∷ 114 ∷ 111 ∷ 111 ∷ 116 ∷ 3 ∷ 8 ∷ 109 ∷ 101 ∷ 116 ∷ 97 ∷ 100 ∷ 97 ∷ 116 ∷ 97 ∷ 0 ∷ 0 ∷ 1 ∷ 1 ∷ 0 ∷ 0 ∷ 7 ∷ 1 ∷ 0 ∷ 0 ∷ 0 ∷ 0 ∷ 0 ∷ []

-- The chunk with another byte at a place.
abbrev edited : ℕ → ℕ → List ℕ
edited at byte = take at plain ++ byte ∷ drop (at + 1) plain

long : length plain ≡ 103
long = refl

fields : header_of plain ≡ record {
  major = 2;
  minor = 1;
  size = 103;
  pools = 96;
  metadata = 68;
  start_nanos = 1000;
  duration_nanos = 5;
  start_ticks = 0;
  ticks_per_second = 1000000000;
  state = 0;
  padding = 0;
  flags = 1;
}
fields = refl

layout : header_bytes (header_of plain) ≡ header
layout = refl

fine : header_flaw header ≡ None
unfolding header_flaw
fine = refl

magic : header_flaw (edited 0 71) ≡ Some (flaw_at 0 Magic)
unfolding header_flaw
magic = refl

version : header_flaw (edited 5 1) ≡ Some (flaw_at 4 Version)
unfolding header_flaw
version = refl

unfinished : header_flaw (edited 64 1) ≡ Some (flaw_at 64 Unfinished)
unfolding header_flaw
unfinished = refl

not_compact : header_flaw (edited 67 0) ≡ Some (flaw_at 67 NotCompact)
unfolding header_flaw
not_compact = refl

too_small : header_flaw (edited 15 67) ≡ Some (flaw_at 8 ChunkSize)
unfolding header_flaw
too_small = refl

too_large : header_flaw (edited 12 64) ≡ Some (flaw_at 8 ChunkSize)
unfolding header_flaw
too_large = refl

first_cause : header_flaw (take 64 plain ++ 1 ∷ 0 ∷ 0 ∷ 0 ∷ []) ≡ Some (flaw_at 64 Unfinished)
unfolding header_flaw
first_cause = refl

empty : front [] 0 true ≡ Bad (flaw_at 0 NoChunk)
unfolding front
empty = refl

empty_far : front [] (2 ^ 40) true ≡ Bad (flaw_at 0 NoChunk)
unfolding front
empty_far = refl

ended : front [] 103 false ≡ End
unfolding front
ended = refl

far : front plain (2 ^ 40) true ≡ Bad (flaw_at 0 TooLong)
unfolding front
far = refl

not_far : front plain (2 ^ 40 - 1) true ≡ Chunk plain
unfolding front header_flaw
not_far = refl

short_header : front (take 67 plain) 0 true ≡ Bad (flaw_at 67 ShortHeader)
unfolding front
short_header = refl

short_chunk : front (take 100 plain) 103 false ≡ Bad (flaw_at 100 ShortChunk)
unfolding front header_flaw
short_chunk = refl

whole_reach : reach plain ≡ 103
unfolding reach header_flaw
whole_reach = refl

refused_reach : reach (edited 0 71) ≡ 68
unfolding reach header_flaw
refused_reach = refl

two : cut (plain ++ plain) 0 true ≡ record { chunks = plain ∷ plain ∷ []; flaw = None }
unfolding cut cut_within front header_flaw
two = refl

one_and_a_part : cut (plain ++ take 100 plain) 0 true ≡ record { chunks = plain ∷ []; flaw = Some (flaw_at 100 ShortChunk) }
unfolding cut cut_within front header_flaw
one_and_a_part = refl
