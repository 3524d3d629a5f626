-- The 68 bytes of a header: each number at its offset, the highest byte first.
use Rattle.std.specs.Prelude.{ℕ, List, [], ◌∷◌, ◌++◌, drop, slice_index}
use Rattle.byteorder.specs.Endian.{big_number, big_bytes}
use Rattle.jfr_header.specs.declared.header.Header.{Header}

-- The number in `count` bytes from an offset on.
abbrev pub number_at : ℕ → ℕ → List ℕ → ℕ
number_at at count h = big_number count (drop at h)

-- The bytes `FLR` and 0, as a number.
abbrev pub magic : ℕ
magic = 1179406848

-- The fields of a header.
abbrev pub header_of : List ℕ → Header
header_of h = record {
  major = number_at 4 2 h;
  minor = number_at 6 2 h;
  size = number_at 8 8 h;
  pools = number_at 16 8 h;
  metadata = number_at 24 8 h;
  start_nanos = number_at 32 8 h;
  duration_nanos = number_at 40 8 h;
  start_ticks = number_at 48 8 h;
  ticks_per_second = number_at 56 8 h;
  state = slice_index h 64;
  padding = slice_index h 65;
  flags = number_at 66 2 h;
}

-- The bytes of a header with these fields.
abbrev pub header_bytes : Header → List ℕ
header_bytes h =
    big_bytes 4 magic ++ big_bytes 2 h.major ++ big_bytes 2 h.minor ++ big_bytes 8 h.size ++ big_bytes 8 h.pools
    ++ big_bytes 8 h.metadata ++ big_bytes 8 h.start_nanos ++ big_bytes 8 h.duration_nanos ++ big_bytes 8 h.start_ticks
    ++ big_bytes 8 h.ticks_per_second ++ (h.state ∷ []) ++ (h.padding ∷ []) ++ big_bytes 2 h.flags
