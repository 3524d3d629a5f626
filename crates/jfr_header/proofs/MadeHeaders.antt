-- A header that this program makes is read again, and its chunk is whole.
use Rattle.std.specs.Prelude.{◌≡◌, ℕ, ◌^◌, ◌<◌, ◌≤◌, false, nat_le, nat_lt, List, ◌++◌, length, take, None}
use Rattle.std.proofs.Common.{ap, arith, refl, ◌∙◌, length-append}
use Rattle.std.proofs.lemmas.Bool.Decides.{nat_tests}
use Rattle.jfr_header.specs.declared.header.Header.{Header}
use Rattle.jfr_header.specs.Headers.{header_of, header_bytes}
use Rattle.jfr_header.specs.Made.{made_header}
use Rattle.jfr_header.specs.Fronts.{Whole, field_flaw, header_flaw, size_of}
use Rattle.jfr_header.proofs.Layouts.{IsInRange, header_of-bytes, header_flaw-bytes, header_long, header_first}

-- Each number fits in its bytes.
pub made_in_range : (size pools : ℕ) → size < 2 ^ 64 → pools < 2 ^ 64 → IsInRange (made_header size pools)
made_in_range size pools i j = record {
  in_major = omega arith;
  in_minor = omega arith;
  in_size = i;
  in_pools = j;
  in_metadata = omega arith;
  in_start_nanos = omega arith;
  in_duration_nanos = omega arith;
  in_start_ticks = omega arith;
  in_ticks_per_second = omega arith;
  in_flags = omega arith;
}

-- If the size is one that a chunk may have, the fields have no flaw.
pub made_flawless : (size pools : ℕ) → 68 ≤ size → size < 2 ^ 30 → field_flaw (made_header size pools) ≡ None
made_flawless size pools i j =
    let d : nat_lt size 68 ≡ false = grind (arith, nat_tests) in
    let e : nat_le (2 ^ 30) size ≡ false = grind (arith, nat_tests) in
    rw (d, e) refl

-- The header of a chunk is this one, and the chunk is whole.
pub record HasMadeHeader (c : List ℕ) (size pools : ℕ) : Type 0 where
  pub read : header_of (take 68 c) ≡ made_header size pools
  pub whole : Whole c

pub has_made_header : (c body : List ℕ) (size pools : ℕ) → c ≡ header_bytes (made_header size pools) ++ body → size ≡ length c → size < 2 ^ 30 → pools < 2 ^ 64 → HasMadeHeader c size pools
has_made_header c body size pools is e small within =
    let h : Header = made_header size pools in
    let r : IsInRange h = made_in_range size pools (omega arith) within in
    let first : take 68 c ≡ header_bytes h = ap (take 68) is ∙ header_first h body in
    let long : 68 ≤ length c = omega (arith, ap length is, length-append (header_bytes h) body, header_long h) in
    record {
      read = ap header_of first ∙ header_of-bytes h r;
      whole = record {
        long = long;
        flawless = ap header_flaw first ∙ (header_flaw-bytes h r ∙ made_flawless size pools (omega arith) small);
        size = ap size_of first ∙ (ap (λ z. z.size) (header_of-bytes h r) ∙ e);
      };
    }
