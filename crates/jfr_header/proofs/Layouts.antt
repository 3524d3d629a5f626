-- A header that was written is read again.
use Rattle.std.proofs.Common.{◌≡◌, ℕ, ◌<◌, ◌^◌, List, ◌++◌, length, refl, ap, sym, subst, take, drop}
use Rattle.byteorder.specs.Numbers.{big_number-reads_back}
use Rattle.jfr_base.proofs.HoldLaws.{Holds, holds_after}
use Rattle.jfr_header.specs.declared.header.Header.{Header}
use Rattle.jfr_header.specs.Headers.{header_of, header_bytes}
use Rattle.jfr_header.specs.Fronts.{header_flaw, field_flaw}

-- Each field fits in its bytes.
pub record IsInRange (h : Header) : Type 0 where
  pub in_major : h.major < 2 ^ 16
  pub in_minor : h.minor < 2 ^ 16
  pub in_size : h.size < 2 ^ 64
  pub in_pools : h.pools < 2 ^ 64
  pub in_metadata : h.metadata < 2 ^ 64
  pub in_start_nanos : h.start_nanos < 2 ^ 64
  pub in_duration_nanos : h.duration_nanos < 2 ^ 64
  pub in_start_ticks : h.start_ticks < 2 ^ 64
  pub in_ticks_per_second : h.ticks_per_second < 2 ^ 64
  pub in_flags : h.flags < 2 ^ 16

same_header : (a0 a1 a2 a3 a4 a5 a6 a7 a8 a9 a10 a11 b0 b1 b2 b3 b4 b5 b6 b7 b8 b9 b10 b11 : ℕ) → a0 ≡ b0 → a1 ≡ b1 → a2 ≡ b2 → a3 ≡ b3 → a4 ≡ b4 → a5 ≡ b5 → a6 ≡ b6 → a7 ≡ b7 → a8 ≡ b8 → a9 ≡ b9
    → a10 ≡ b10 → a11 ≡ b11
    → ◌≡◌ {A = Header} (record { major = a0; minor = a1; size = a2; pools = a3; metadata = a4; start_nanos = a5; duration_nanos = a6; start_ticks = a7; ticks_per_second = a8; state = a9; padding = a10; flags = a11 }) (record { major = b0; minor = b1; size = b2; pools = b3; metadata = b4; start_nanos = b5; duration_nanos = b6; start_ticks = b7; ticks_per_second = b8; state = b9; padding = b10; flags = b11 })
same_header a0 a1 a2 a3 a4 a5 a6 a7 a8 a9 a10 a11 b0 b1 b2 b3 b4 b5 b6 b7 b8 b9 b10 b11 e0 e1 e2 e3 e4 e5 e6 e7 e8 e9 e10 e11 = cc

pub header_of-bytes : (h : Header) → IsInRange h → header_of (header_bytes h) ≡ h
header_of-bytes h r =
    same_header (header_of (header_bytes h)).major (header_of (header_bytes h)).minor (header_of (header_bytes h)).size (header_of (header_bytes h)).pools (header_of (header_bytes h)).metadata
    (header_of (header_bytes h)).start_nanos (header_of (header_bytes h)).duration_nanos (header_of (header_bytes h)).start_ticks (header_of (header_bytes h)).ticks_per_second
    (header_of (header_bytes h)).state (header_of (header_bytes h)).padding (header_of (header_bytes h)).flags
    h.major h.minor h.size h.pools h.metadata h.start_nanos h.duration_nanos h.start_ticks h.ticks_per_second h.state h.padding h.flags
    (big_number-reads_back 2 h.major (drop 6 (header_bytes h)) r.in_major)
    (big_number-reads_back 2 h.minor (drop 8 (header_bytes h)) r.in_minor)
    (big_number-reads_back 8 h.size (drop 16 (header_bytes h)) r.in_size)
    (big_number-reads_back 8 h.pools (drop 24 (header_bytes h)) r.in_pools)
    (big_number-reads_back 8 h.metadata (drop 32 (header_bytes h)) r.in_metadata)
    (big_number-reads_back 8 h.start_nanos (drop 40 (header_bytes h)) r.in_start_nanos)
    (big_number-reads_back 8 h.duration_nanos (drop 48 (header_bytes h)) r.in_duration_nanos)
    (big_number-reads_back 8 h.start_ticks (drop 56 (header_bytes h)) r.in_start_ticks)
    (big_number-reads_back 8 h.ticks_per_second (drop 64 (header_bytes h)) r.in_ticks_per_second)
    refl
    refl
    (big_number-reads_back 2 h.flags (drop 68 (header_bytes h)) r.in_flags)

pub header_flaw-bytes : (h : Header) → IsInRange h → header_flaw (header_bytes h) ≡ field_flaw h
unfolding header_flaw
header_flaw-bytes h r = ap field_flaw (header_of-bytes h r)

-- A header has 68 bytes, and the bytes written after it lie after them.
pub header_long : (h : Header) → length (header_bytes h) ≡ 68
header_long h = refl

pub header_first : (h : Header) (body : List ℕ) → take 68 (header_bytes h ++ body) ≡ header_bytes h
header_first h body = refl

pub after_header : (c body : List ℕ) (h : Header) → c ≡ header_bytes h ++ body → Holds c (length c) 68 body
after_header c body h is = subst (λ z. Holds z (length z) 68 body) (sym is) (holds_after (header_bytes h) body)
