-- The header that is written: it leads to what is written, and the chunk is whole.
use Rattle.std.specs.Prelude.{◌≡◌, ℕ, ◌+◌, ◌^◌, ◌<◌, ◌≤◌, ◌%◌, Bool, true, false, not, ◌==◌, nat_lt, nat_le, List, ◌++◌, length, take, Option, Some, None, if◌then◌else◌}
use Rattle.std.proofs.Common.{ap, arith, refl, ◌∙◌, length-append}
use Rattle.std.proofs.lemmas.Bool.Decides.{nat_tests}
use Rattle.jfr_base.specs.declared.flaw.Flaw.{Flaw}
use Rattle.jfr_base.specs.declared.reason.Reason.TheVariants.{Version, Unfinished, NotCompact, ChunkSize, Magic}
use Rattle.jfr_header.specs.declared.header.Header.{Header}
use Rattle.jfr_header.specs.Headers.{number_at, header_of, header_bytes, magic}
use Rattle.jfr_header.specs.Fronts.{flaw_at, size_of, field_flaw, header_flaw, Whole}
use Rattle.jfr_header.proofs.Layouts.{header_first, header_long, header_of-bytes}
use Rattle.jfr_chunk.specs.Parts.{pools_at, metadata_at}
use Rattle.jfr_chunk.specs.Scrub.{header_with}

-- The fields that a header without a flaw has.
record Fine (h : Header) : Type 0 where
  major : h.major ≡ 2
  state : h.state ≡ 0
  compact : (h.flags % 2 == 0) ≡ false
  small : h.size < 2 ^ 30

-- A cause that isn't there, and those after it.
no_cause : (t : Bool) (flaw : Flaw) (rest : Option Flaw) → (if t then Some flaw else rest) ≡ None → (t ≡ false) × (rest ≡ None)
no_cause true flaw rest e = cc
no_cause false flaw rest e = (refl, e)

is_two : (n : ℕ) → not (n == 2) ≡ false → n ≡ 2
is_two n e = grind (arith, nat_tests)

is_zero : (n : ℕ) → not (n == 0) ≡ false → n ≡ 0
is_zero n e = grind (arith, nat_tests)

is_small : (n : ℕ) → nat_le (2 ^ 30) n ≡ false → n < 2 ^ 30
is_small n e = grind (arith, nat_tests)

fine_of : (h : Header) → field_flaw h ≡ None → Fine h
fine_of h e =
    let version = no_cause (not (h.major == 2)) (flaw_at 4 Version) _ e in
    let state = no_cause (not (h.state == 0)) (flaw_at 64 Unfinished) _ version.1 in
    let compact = no_cause (h.flags % 2 == 0) (flaw_at 67 NotCompact) _ state.1 in
    let least = no_cause (nat_lt h.size 68) (flaw_at 8 ChunkSize) _ compact.1 in
    let most = no_cause (nat_le (2 ^ 30) h.size) (flaw_at 8 ChunkSize) _ least.1 in
    record { major = is_two h.major version.0; state = is_zero h.state state.0; compact = compact.0; small = is_small h.size most.0 }

flawless_of : (h : Header) → Fine h → 68 ≤ h.size → field_flaw h ≡ None
flawless_of h f i =
    let a : (h.major == 2) ≡ true = let m : h.major ≡ 2 = f.major in grind (arith, nat_tests) in
    let b : (h.state == 0) ≡ true = let m : h.state ≡ 0 = f.state in grind (arith, nat_tests) in
    let d : nat_lt h.size 68 ≡ false = grind (arith, nat_tests) in
    let e : nat_le (2 ^ 30) h.size ≡ false = let m : h.size < 2 ^ 30 = f.small in grind (arith, nat_tests) in
    rw (a, b, f.compact, d, e) refl

-- The header of a whole chunk has no flaw.
header_fine : (c : List ℕ) → Whole c → Fine (header_of (take 68 c))
unfolding header_flaw
header_fine c w = fine_of (header_of (take 68 c)) (no_cause (not (number_at 0 4 (take 68 c) == magic)) (flaw_at 0 Magic) (field_flaw (header_of (take 68 c))) w.flawless).1

-- A whole chunk has fewer than 2^30 bytes.
pub whole_small : (c : List ℕ) → Whole c → length c < 2 ^ 30
whole_small c w = let f = header_fine c w in let i : size_of (take 68 c) < 2 ^ 30 = f.small in let e : size_of (take 68 c) ≡ length c = w.size in omega arith

pub header_length : (c : List ℕ) (size pools metadata : ℕ) → length (header_with c size pools metadata) ≡ 68
header_length c size pools metadata = header_long (record (header_of (take 68 c)) { size = size; pools = pools; metadata = metadata })

-- A number in range is read back, whatever comes before and after it.
abbrev alone : ℕ → ℕ → ℕ → ℕ → Header
alone major size pools metadata = record {
  major = major;
  minor = 0;
  size = size;
  pools = pools;
  metadata = metadata;
  start_nanos = 0;
  duration_nanos = 0;
  start_ticks = 0;
  ticks_per_second = 0;
  state = 0;
  padding = 0;
  flags = 0;
}

read_alone : (major size pools metadata : ℕ) → major < 2 ^ 16 → size < 2 ^ 64 → pools < 2 ^ 64 → metadata < 2 ^ 64
    → header_of (header_bytes (alone major size pools metadata)) ≡ alone major size pools metadata
read_alone major size pools metadata a b d e =
    header_of-bytes (alone major size pools metadata) (record {
      in_major = a;
      in_minor = omega arith;
      in_size = b;
      in_pools = d;
      in_metadata = e;
      in_start_nanos = omega arith;
      in_duration_nanos = omega arith;
      in_start_ticks = omega arith;
      in_ticks_per_second = omega arith;
      in_flags = omega arith;
    })

major_back : (h : Header) → h.major < 2 ^ 16 → (header_of (header_bytes h)).major ≡ h.major
major_back h i = ap (λ z. z.major) (read_alone h.major 0 0 0 i (omega arith) (omega arith) (omega arith))

size_back : (h : Header) → h.size < 2 ^ 64 → (header_of (header_bytes h)).size ≡ h.size
size_back h i = ap (λ z. z.size) (read_alone 0 h.size 0 0 (omega arith) i (omega arith) (omega arith))

pools_back : (h : Header) → h.pools < 2 ^ 64 → (header_of (header_bytes h)).pools ≡ h.pools
pools_back h i = ap (λ z. z.pools) (read_alone 0 0 h.pools 0 (omega arith) (omega arith) i (omega arith))

metadata_back : (h : Header) → h.metadata < 2 ^ 64 → (header_of (header_bytes h)).metadata ≡ h.metadata
metadata_back h i = ap (λ z. z.metadata) (read_alone 0 0 0 h.metadata (omega arith) (omega arith) (omega arith) i)

-- The last bit of the flags is kept.
flags_back : (h : Header) → (header_of (header_bytes h)).flags % 2 ≡ h.flags % 2
flags_back h = omega arith

module _ (c body : List ℕ) (size pools metadata : ℕ) where
  abbrev written : Header
  written = record (header_of (take 68 c)) { size = size; pools = pools; metadata = metadata }

  abbrev made : List ℕ
  made = header_with c size pools metadata ++ body

  -- It leads to the last checkpoint, and to the metadata record.
  pub made_pools : pools < 2 ^ 64 → pools_at made ≡ pools
  made_pools i = ap (λ z. (header_of z).pools) (header_first written body) ∙ pools_back written i

  pub made_metadata : metadata < 2 ^ 64 → metadata_at made ≡ metadata
  made_metadata i = ap (λ z. (header_of z).metadata) (header_first written body) ∙ metadata_back written i

  made_fine : Whole c → size < 2 ^ 30 → Fine (header_of (header_bytes written))
  made_fine w i =
      let f = header_fine c w in
      let a : written.major ≡ 2 = f.major in
      let b : (header_of (header_bytes written)).major ≡ written.major = major_back written (omega arith) in
      let d : (header_of (header_bytes written)).size ≡ size = size_back written (omega arith) in
      record { major = omega arith; state = f.state; compact = ap (λ z. z == 0) (flags_back written) ∙ f.compact; small = omega arith }

  pub made_whole : Whole c → size ≡ length made → size < 2 ^ 30 → Whole made
  unfolding header_flaw
  made_whole w e i =
      let l : length made ≡ length (header_with c size pools metadata) + length body = length-append (header_with c size pools metadata) body in
      let h : length (header_with c size pools metadata) ≡ 68 = header_length c size pools metadata in
      let d : size_of (header_bytes written) ≡ size = size_back written (omega arith) in
      let s : size_of (take 68 made) ≡ size = ap size_of (header_first written body) ∙ d in
      record { long = omega arith; flawless = ap header_flaw (header_first written body) ∙ flawless_of (header_of (header_bytes written)) (made_fine w i) (omega arith); size = s ∙ e }
