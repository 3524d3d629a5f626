-- The output of a scrub has the clock of its chunk.
use Rattle.std.specs.Prelude.{◌≡◌, ℕ, ◌+◌, ◌^◌, ◌%◌, List, ◌++◌, length, take, None}
use Rattle.std.specs.List.{flat_map}
use Rattle.std.specs.Int.{cast_signed, w64}
use Rattle.std.proofs.Common.{arith}
use Rattle.jfr_header.specs.declared.header.Header.{Header}
use Rattle.jfr_header.specs.Headers.{header_of, header_bytes}
use Rattle.jfr_chunk.specs.Parts.{Parts, EventAt, metadata_at}
use Rattle.jfr_chunk.specs.Reach.{remain}
use Rattle.jfr_chunk.specs.Metas.{Names, new_metadata}
use Rattle.jfr_chunk.specs.Scrub.{scrub_of, scrub_with, header_with, written, written_bytes, newest_at, moved, output_records}
use Rattle.jfr_chunk.specs.Windows.{Clock, clock_of}

-- The lowest 64 bits of each number are read back.
nanos_back : (h : Header) → (header_of (header_bytes h)).start_nanos % 2 ^ 64 ≡ h.start_nanos % 2 ^ 64
nanos_back h = omega arith

ticks_back : (h : Header) → (header_of (header_bytes h)).start_ticks % 2 ^ 64 ≡ h.start_ticks % 2 ^ 64
ticks_back h = omega arith

rate_back : (h : Header) → (header_of (header_bytes h)).ticks_per_second % 2 ^ 64 ≡ h.ticks_per_second % 2 ^ 64
rate_back h = omega arith

abbrev clock_by : ℕ → ℕ → ℕ → Clock
clock_by a b c = record { nanos = cast_signed w64 a; ticks = cast_signed w64 b; rate = cast_signed w64 c }

clock_same : (c body : List ℕ) (size pools metadata : ℕ) → clock_of (header_with c size pools metadata ++ body) ≡ clock_of c
clock_same c body size pools metadata =
    let h : Header = record (header_of (take 68 c)) { size = size; pools = pools; metadata = metadata } in
    λ i. clock_by (nanos_back h i) (ticks_back h i) (rate_back h i)

pub clock_kept : (names : Names) (p : Parts) (kept : List EventAt) → clock_of (scrub_of names p kept) ≡ clock_of p.bytes
unfolding scrub_with
clock_kept names p kept =
    let ws = written p.bytes (remain p kept) 68 None (output_records (new_metadata names p kept) p kept) in
    let body = flat_map (written_bytes p.bytes (remain p kept)) ws in
    clock_same p.bytes body (68 + length body) (newest_at None ws) (moved ws (metadata_at p.bytes))
