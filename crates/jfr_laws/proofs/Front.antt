-- A header that is read and written again has the same bytes.
use Rattle.std.specs.Prelude.{◌≡◌, ℕ, List, [], ◌∷◌, ◌++◌, take}
use Rattle.std.specs.Int.{byte_at, bytes_high_first}
use Rattle.std.proofs.Common.{arith}
use Rattle.jfr_header.specs.declared.header.Header.{Header}
use Rattle.jfr_header.specs.Headers.{header_of, header_bytes, magic}
use Rattle.jfr_chunk.specs.Scrub.{header_with}

-- Numbers of equal bytes.
two_bytes : (x y : ℕ) → byte_at 1 x ≡ byte_at 1 y → byte_at 0 x ≡ byte_at 0 y → bytes_high_first 2 x ≡ bytes_high_first 2 y
two_bytes x y e1 e0 = λ i. e1 i ∷ (e0 i ∷ [])

eight_bytes : (x y : ℕ) → byte_at 7 x ≡ byte_at 7 y → byte_at 6 x ≡ byte_at 6 y → byte_at 5 x ≡ byte_at 5 y → byte_at 4 x ≡ byte_at 4 y
    → byte_at 3 x ≡ byte_at 3 y → byte_at 2 x ≡ byte_at 2 y → byte_at 1 x ≡ byte_at 1 y → byte_at 0 x ≡ byte_at 0 y → bytes_high_first 8 x ≡ bytes_high_first 8 y
eight_bytes x y e7 e6 e5 e4 e3 e2 e1 e0 = λ i. e7 i ∷ (e6 i ∷ (e5 i ∷ (e4 i ∷ (e3 i ∷ (e2 i ∷ (e1 i ∷ (e0 i ∷ [])))))))

-- Each number of the header that was read.
module _ (h : Header) where
  abbrev read : Header
  read = header_of (header_bytes h)

  major_again : bytes_high_first 2 read.major ≡ bytes_high_first 2 h.major
  major_again = two_bytes read.major h.major (omega arith) (omega arith)

  minor_again : bytes_high_first 2 read.minor ≡ bytes_high_first 2 h.minor
  minor_again = two_bytes read.minor h.minor (omega arith) (omega arith)

  start_again : bytes_high_first 8 read.start_nanos ≡ bytes_high_first 8 h.start_nanos
  start_again = eight_bytes read.start_nanos h.start_nanos (omega arith) (omega arith) (omega arith) (omega arith) (omega arith) (omega arith) (omega arith) (omega arith)

  duration_again : bytes_high_first 8 read.duration_nanos ≡ bytes_high_first 8 h.duration_nanos
  duration_again = eight_bytes read.duration_nanos h.duration_nanos (omega arith) (omega arith) (omega arith) (omega arith) (omega arith) (omega arith) (omega arith) (omega arith)

  ticks_again : bytes_high_first 8 read.start_ticks ≡ bytes_high_first 8 h.start_ticks
  ticks_again = eight_bytes read.start_ticks h.start_ticks (omega arith) (omega arith) (omega arith) (omega arith) (omega arith) (omega arith) (omega arith) (omega arith)

  rate_again : bytes_high_first 8 read.ticks_per_second ≡ bytes_high_first 8 h.ticks_per_second
  rate_again = eight_bytes read.ticks_per_second h.ticks_per_second (omega arith) (omega arith) (omega arith) (omega arith) (omega arith) (omega arith) (omega arith) (omega arith)

  flags_again : bytes_high_first 2 read.flags ≡ bytes_high_first 2 h.flags
  flags_again = two_bytes read.flags h.flags (omega arith) (omega arith)

  -- The bytes of a header, by those of its numbers other than its size and its positions.
  abbrev spelled : List ℕ → List ℕ → List ℕ → List ℕ → List ℕ → List ℕ → List ℕ → List ℕ
  spelled major minor start duration ticks rate flags =
      bytes_high_first 4 magic ++ major ++ minor ++ bytes_high_first 8 h.size ++ bytes_high_first 8 h.pools ++ bytes_high_first 8 h.metadata
      ++ start ++ duration ++ ticks ++ rate ++ (h.state ∷ []) ++ (h.padding ∷ []) ++ flags

  pub header_again : header_bytes (record read { size = h.size; pools = h.pools; metadata = h.metadata }) ≡ header_bytes h
  header_again = λ i. spelled (major_again i) (minor_again i) (start_again i) (duration_again i) (ticks_again i) (rate_again i) (flags_again i)

-- The header that is written for a chunk with this header, the same size and positions, is this header.
pub front_again : (c body : List ℕ) (size pools metadata : ℕ) → header_with (header_with c size pools metadata ++ body) size pools metadata ≡ header_with c size pools metadata
front_again c body size pools metadata = header_again (record (header_of (take 68 c)) { size = size; pools = pools; metadata = metadata })
