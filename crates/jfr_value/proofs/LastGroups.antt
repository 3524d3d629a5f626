-- Integers by the bits of the bytes that may be their last groups.
use Rattle.std.specs.Prelude.{◌≡◌, ℕ, zero, suc, ◌+◌, ◌/◌, ◌%◌, ◌^◌, ◌<◌, ◌≤◌, List, length, take, drop, get_or, slice_index, map, Bool, true, false, Ok, if◌then◌else◌}
use Rattle.std.specs.Int.{bit_at, trailing_zeros, w64}
use Rattle.std.specs.Int.Bits.{bit_or}
use Rattle.std.proofs.Common.{ap, refl, arith, inl, inr, sym, ◌∙◌, ltb, cond}
use Rattle.std.proofs.Math.Nat.{div-div-eq-div-mul, div-le_self}
use Rattle.std.proofs.lemmas.Nat.{or_lt, pow-add}
use Rattle.std.proofs.lemmas.Bool.{cases_lt, ltb-true, ltb-false}
use Rattle.std.proofs.lemmas.List.{get_or-take, get_or-drop, get_or-map, length-take, length-drop}
use Rattle.std.proofs.lemmas.Nat.Bits.{bit_at_or, bit_at-zero, bit_at-lt, bit_at-pow_same, bit_at-pow_other, bit_at-trailing_zeros}
use Rattle.std.proofs.lemmas.Simd.{bit_mask_l}
use Rattle.jfr_base.specs.Formats.{integer, run, end_or_flaw}
use Rattle.jfr_value.specs.Groups.{AreLastGroups}
use Rattle.jfr_value.proofs.SkipLaws.{skip_all, skip_end}
use lib.Lanes.{mask_l}

-- The mask of a vector has such bits.
module _ (x : List ℕ) (at : ℕ) (room : at + 16 ≤ length x) where
  abbrev sixteen : List ℕ
  sixteen = take 16 (drop at x)

  pub long : length sixteen ≡ 16
  long = omega (arith, room, length-take 16 (drop at x), length-drop at x)

  byte_is : (k : ℕ) → k < 16 → get_or sixteen k 0 ≡ slice_index x (at + k)
  byte_is k h = get_or-take 16 (drop at x) k 0 h ∙ get_or-drop at x k 0

  pub mask_lasts : AreLastGroups x at (mask_l (map (λ b. ltb b 128) sixteen))
  mask_lasts k h =
      bit_mask_l (map (λ b. ltb b 128) sixteen) k
      ∙ ap (λ t. cond t 1 0) (get_or-map (λ b. ltb b 128) sixteen k 0 false (omega (arith, h, long)) ∙ ap (λ b. ltb b 128) (byte_is k h))

-- So many bits are not set, up to the first that is, or the ninth.
pub record AreWithMore (lasts from count : ℕ) : Type 0 where
  pub range : count ≤ 8
  pub more : (k : ℕ) → k < count → bit_at lasts (from + k) ≡ 0
  pub last : count < 8 → bit_at lasts (from + count) ≡ 1

module _ (lasts from : ℕ) (small : lasts < 2 ^ 64) where
  shifted : (i : ℕ) → bit_at (lasts / 2 ^ from) i ≡ bit_at lasts (from + i)
  shifted i = ap (λ z. z % 2) (div-div-eq-div-mul lasts (2 ^ from) (2 ^ i) ∙ ap (λ z. lasts / z) (sym (pow-add 2 from i)))

  abbrev marked : ℕ
  marked = bit_or (lasts / 2 ^ from) 256

  marked_is : (k : ℕ) → k < 8 → bit_at marked k ≡ bit_at lasts (from + k)
  marked_is k h = omega (arith, bit_at_or (lasts / 2 ^ from) 256 k, bit_at-pow_other 8 k (λ e. omega (arith, e, h)), shifted k, bit_at-lt lasts (from + k))

  ninth_is : bit_at marked 8 ≡ 1
  ninth_is = omega (arith, bit_at_or (lasts / 2 ^ from) 256 8, bit_at-pow_same 8, bit_at-lt (lasts / 2 ^ from) 8)

  -- The place of the lowest bit.
  abbrev count : ℕ
  count = trailing_zeros w64 marked

  some : 0 < marked
  some = by_value marked ninth_is
    where
      by_value : (m : ℕ) → bit_at m 8 ≡ 1 → 0 < m
      by_value zero h = absurd (omega (arith, h, bit_at-zero 8))
      by_value (suc m) h = omega arith

  lowest : (count < 64) × (bit_at marked count ≡ 1) × ((i : ℕ) → i < count → bit_at marked i ≡ 0)
  lowest = bit_at-trailing_zeros w64 marked some (or_lt 64 (lasts / 2 ^ from) 256 (omega (arith, small, div-le_self lasts (2 ^ from))) (omega arith))

  range : count ≤ 8
  range = elim (cases_lt 8 count) [
    | inl past ↦ absurd (omega (arith, lowest.2 8 past, ninth_is))
    | inr within ↦ within
  ]

  pub first_last : AreWithMore lasts from count
  first_last = record {
    range = range;
    more = λ k h. sym (marked_is k (omega (arith, h, range))) ∙ lowest.2 k h;
    last = λ h. sym (marked_is count h) ∙ lowest.1;
  }

-- An integer of the bytes whose last group is one of the sixteen.
pub last_there : (x : List ℕ) (at end lasts from count : ℕ) → AreLastGroups x at lasts → AreWithMore lasts from count → from + count < 16 → at + from + count < end → end ≤ length x
    → Ok (at + from + count + 1) ≡ end_or_flaw (run integer x end (at + from))
last_there x at end lasts from count bits w inside upto within =
    skip_end x (at + from) end count (skip_all x (at + from) end count w.range (omega (arith, upto)) within more) upto within
    (elim (cases_lt count 8) [
      | inl short ↦ inl (omega (arith, set (from + count) inside (w.last short), at_byte count))
      | inr all ↦ inr (omega (arith, all, w.range))
    ])
  where
    -- What a bit says of its byte.
    unset : (t : Bool) (n : ℕ) → n ≡ (if t then 1 else 0) → n ≡ 0 → t ≡ false
    unset true n e h = absurd (omega (arith, e, h))
    unset false n e h = refl

    is_set : (t : Bool) (n : ℕ) → n ≡ (if t then 1 else 0) → n ≡ 1 → t ≡ true
    is_set true n e h = refl
    is_set false n e h = absurd (omega (arith, e, h))

    at_byte : (k : ℕ) → slice_index x (at + (from + k)) ≡ slice_index x (at + from + k)
    at_byte k = ap (slice_index x) (omega arith)

    more : (k : ℕ) → k < count → 128 ≤ slice_index x (at + from + k)
    more k h = omega (arith, at_byte k, ltb-false (slice_index x (at + (from + k))) 128 (unset _ _ (bits (from + k) (omega (arith, h, inside))) (w.more k h)))

    set : (k : ℕ) → k < 16 → bit_at lasts k ≡ 1 → slice_index x (at + k) < 128
    set k h e = ltb-true _ 128 (is_set _ _ (bits k h) e)
