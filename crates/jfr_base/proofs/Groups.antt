-- An integer that is read group by group.
use Rattle.std.specs.Prelude.{◌≡◌, ℕ, zero, suc, ◌+◌, ◌*◌, ◌^◌, ◌%◌, ◌<◌, ◌≤◌, List, [], ◌∷◌, length, slice_range, slice_index, ◌⊎◌, Option, Some, None, nat_lt, true, false}
use Rattle.std.specs.Option.{option_map}
use Rattle.std.proofs.Common.{ap, arith, refl, sym, ◌∙◌, inl, inr, subst, lit<}
use Rattle.std.proofs.lemmas.Nat.{pow-add, shl_whole}
use Rattle.std.proofs.Math.Nat.{mul_comm, pow-le-pow_right, mul-le-mul_left}
use Rattle.jfr_base.specs.declared.integer.Var.{Var}
use Rattle.jfr_base.specs.Integer.{worth_within}
use Rattle.jfr_base.specs.Formats.{prefix_length, int_at}
use Rattle.jfr_base.proofs.Ranges.{range_cons, range_none, range_one}

abbrev var : ℕ → ℕ → Var
var v q = record { value = v; end = q }

-- The integer whose groups so far add up to a value, if it ends: at most k more groups of seven bits
-- follow, the next one counted by a weight.
unfoldable pub going_on : ℕ → List ℕ → ℕ → ℕ → ℕ → ℕ → Option Var
going_on k x place end value weight = option_map (λ n. var (value + weight * worth_within k (slice_range x place (place + n))) (place + n)) (prefix_length k (slice_range x place end))

-- What a reader knows between two groups.
pub record Reading (x : List ℕ) (at end place value shift : ℕ) : Type 0 where
  pub groups : ℕ
  pub room : shift + 7 * groups ≡ 56
  pub small : value < 2 ^ shift
  pub same : int_at x at end ≡ going_on groups x place end value (2 ^ shift)

pub reading_start : (x : List ℕ) (at end : ℕ) → Reading x at end at 0 0
unfolding int_at going_on
reading_start x at end = record { groups = 8; room = refl; small = omega arith; same = by_front (prefix_length 8 (slice_range x at end)) }
  where
    by_front : (o : Option ℕ) → option_map (λ n. var (worth_within 8 (slice_range x at (at + n))) (at + n)) o ≡ option_map (λ n. var (0 + 1 * worth_within 8 (slice_range x at (at + n))) (at + n)) o
    by_front None = refl
    by_front (Some n) = ap (λ w. Some (var w (at + n))) (omega arith)

pub going_none : (k : ℕ) (x : List ℕ) (place end value weight : ℕ) → end ≤ place → going_on k x place end value weight ≡ None
unfolding going_on
going_none k x place end value weight h = ap (λ z. option_map (λ n. var (value + weight * worth_within k (slice_range x place (place + n))) (place + n)) (prefix_length k z)) (range_none x place end h)

found : (k : ℕ) (x : List ℕ) (place end value weight n w : ℕ) → prefix_length k (slice_range x place end) ≡ Some n → worth_within k (slice_range x place (place + n)) ≡ w
    → going_on k x place end value weight ≡ Some (var (value + weight * w) (place + n))
unfolding going_on
found k x place end value weight n w f e =
    ap (option_map (λ m. var (value + weight * worth_within k (slice_range x place (place + m))) (place + m))) f ∙ ap (λ z. Some (var (value + weight * z) (place + n))) e

front_small : (k b : ℕ) (bs : List ℕ) → b < 128 → prefix_length k (b ∷ bs) ≡ Some 1
front_small zero b bs h = refl
front_small (suc k) b bs h = let t : nat_lt b 128 ≡ true = grind arith in rw t refl

worth_small : (k b : ℕ) → b < 128 → worth_within k (b ∷ []) ≡ b
worth_small zero b h = refl
worth_small (suc k) b h = omega arith

-- The last group of seven bits.
pub going_last : (k : ℕ) (x : List ℕ) (place end value weight : ℕ) → place < end → end ≤ length x → slice_index x place < 128
    → going_on k x place end value weight ≡ Some (var (value + weight * slice_index x place) (place + 1))
going_last k x place end value weight h i j =
    let p : place < length x = omega arith in
    found k x place end value weight 1 (slice_index x place)
    (ap (prefix_length k) (range_cons x place end h p) ∙ front_small k (slice_index x place) (slice_range x (place + 1) end) j)
    (ap (worth_within k) (range_one x place p) ∙ worth_small k (slice_index x place) j)

-- The ninth byte.
pub going_ninth : (x : List ℕ) (place end value weight : ℕ) → place < end → end ≤ length x → going_on 0 x place end value weight ≡ Some (var (value + weight * slice_index x place) (place + 1))
going_ninth x place end value weight h i =
    let p : place < length x = omega arith in
    found 0 x place end value weight 1 (slice_index x place)
    (ap (prefix_length 0) (range_cons x place end h p))
    (ap (worth_within 0) (range_one x place p))

-- A group with more to come.
pub going_next : (k : ℕ) (x : List ℕ) (place end value weight : ℕ) → place < end → end ≤ length x → 128 ≤ slice_index x place
    → going_on (suc k) x place end value weight ≡ going_on k x (place + 1) end (value + weight * (slice_index x place % 128)) (weight * 128)
unfolding going_on
going_next k x place end value weight h i j =
    let p : place < length x = omega arith in
    let t : nat_lt (slice_index x place) 128 ≡ false = grind arith in
    ap (λ z. option_map after (prefix_length (suc k) z)) (range_cons x place end h p)
    ∙ (rw t (by_front (prefix_length k (slice_range x (place + 1) end)) p))
  where
    after : ℕ → Var
    after n = var (value + weight * worth_within (suc k) (slice_range x place (place + n))) (place + n)

    sums : (v g b w : ℕ) → v + g * (b + 128 * w) ≡ (v + g * b) + (g * 128) * w
    sums v g b w = omega arith

    step : (n : ℕ) → place < length x
        → after (suc n) ≡ var ((value + weight * (slice_index x place % 128)) + (weight * 128) * worth_within k (slice_range x (place + 1) ((place + 1) + n))) ((place + 1) + n)
    step n p =
        let e : place + suc n ≡ (place + 1) + n = omega arith in
        let f : slice_range x place (place + suc n) ≡ slice_index x place ∷ slice_range x (place + 1) ((place + 1) + n) =
        ap (slice_range x place) e ∙ range_cons x place ((place + 1) + n) (omega arith) p in
        ap (λ z. var (value + weight * worth_within (suc k) z) (place + suc n)) f
        ∙ (ap (λ z. var z (place + suc n)) (sums value weight (slice_index x place % 128) (worth_within k (slice_range x (place + 1) ((place + 1) + n))))
        ∙ ap (var ((value + weight * (slice_index x place % 128)) + (weight * 128) * worth_within k (slice_range x (place + 1) ((place + 1) + n)))) e)

    by_front : (o : Option ℕ) → place < length x
        → option_map after (option_map (λ n. suc n) o) ≡ option_map (λ n. var ((value + weight * (slice_index x place % 128)) + (weight * 128) * worth_within k (slice_range x (place + 1) ((place + 1) + n))) ((place + 1) + n)) o
    by_front None p = refl
    by_front (Some n) p = ap (λ z. Some z) (step n p)

-- No bit of a byte is shifted out.
module _ (shift byte : ℕ) (room : shift ≤ 56) (bound : byte < 256) where
  shifted : byte * 2 ^ shift % 18446744073709551616 ≡ 2 ^ shift * byte
  shifted =
      let e : byte * 2 ^ shift % 2 ^ 64 ≡ byte * 2 ^ shift = shl_whole byte 8 shift 64 bound (omega arith) in
      e ∙ mul_comm byte (2 ^ shift)

  weight_most : 2 ^ shift * 256 ≤ 18446744073709551616
  weight_most =
      let p : 2 ^ shift ≤ 2 ^ 56 = pow-le-pow_right (lit< tt) room in
      omega arith

  pub sum_fits : (value : ℕ) → value < 2 ^ shift → value + byte * 2 ^ shift % 18446744073709551616 < 18446744073709551616
  sum_fits value h =
      let e = shifted in
      let p : 2 ^ shift * (byte + 1) ≤ 2 ^ shift * 256 = mul-le-mul_left (2 ^ shift) (omega arith) in
      let q = weight_most in
      omega arith

  pub last_is : (x : List ℕ) (at end place value : ℕ) → (r : Reading x at end place value shift) → place < end → end ≤ length x → byte ≡ slice_index x place → (byte < 128) ⊎ (shift ≡ 56)
      → int_at x at end ≡ Some (var (value + byte * 2 ^ shift % 18446744073709551616) (place + 1))
  last_is x at end place value r h i e t =
      r.same ∙ (by_test t ∙ ap (λ z. Some (var (value + z) (place + 1))) (ap (λ b. 2 ^ shift * b) (sym e) ∙ sym shifted))
    where
      by_test : (byte < 128) ⊎ (shift ≡ 56) → going_on r.groups x place end value (2 ^ shift) ≡ Some (var (value + 2 ^ shift * slice_index x place) (place + 1))
      by_test (inl j) = going_last r.groups x place end value (2 ^ shift) h i (omega arith)
      by_test (inr j) =
          let z : r.groups ≡ 0 = omega (arith, r.room) in
          subst (λ k. going_on k x place end value (2 ^ shift) ≡ Some (var (value + 2 ^ shift * slice_index x place) (place + 1))) (sym z) (going_ninth x place end value (2 ^ shift) h i)

-- A group of seven bits, with more to come.
pub reading_next : (x : List ℕ) (at end place value shift byte : ℕ) → (r : Reading x at end place value shift) → place < end → end ≤ length x → byte ≡ slice_index x place → 128 ≤ byte
    → (shift ≡ 56 → ⊥)
    → Reading x at end (place + 1) (value + byte % 128 * 2 ^ shift % 18446744073709551616) (shift + 7)
reading_next x at end place value shift byte r h i e j n = by_groups r.groups refl
  where
    by_groups : (g : ℕ) → r.groups ≡ g → Reading x at end (place + 1) (value + byte % 128 * 2 ^ shift % 18446744073709551616) (shift + 7)
    by_groups zero z = absurd (n (omega (arith, r.room)))
    by_groups (suc k) z =
        let room : shift ≤ 56 = omega (arith, r.room) in
        let s : byte % 128 * 2 ^ shift % 18446744073709551616 ≡ 2 ^ shift * (byte % 128) = shifted shift (byte % 128) room (omega arith) in
        let p : 2 ^ (shift + 7) ≡ 2 ^ shift * 128 = pow-add 2 shift 7 in
        let q : 2 ^ shift * (byte % 128 + 1) ≤ 2 ^ shift * 128 = mul-le-mul_left (2 ^ shift) (omega arith) in
        let m : value < 2 ^ shift = r.small in
        let f : going_on r.groups x place end value (2 ^ shift) ≡ going_on k x (place + 1) end (value + 2 ^ shift * (slice_index x place % 128)) (2 ^ shift * 128) =
        ap (λ g. going_on g x place end value (2 ^ shift)) z ∙ going_next k x place end value (2 ^ shift) h i (omega arith) in
        let t : value + 2 ^ shift * (slice_index x place % 128) ≡ value + byte % 128 * 2 ^ shift % 18446744073709551616 =
        ap (λ b. value + 2 ^ shift * (b % 128)) (sym e) ∙ ap (λ y. value + y) (sym s) in
        record {
          groups = k;
          room = omega (arith, r.room);
          small = omega arith;
          same = r.same ∙ (f ∙ (ap (λ v. going_on k x (place + 1) end v (2 ^ shift * 128)) t
              ∙ ap (λ w. going_on k x (place + 1) end (value + byte % 128 * 2 ^ shift % 18446744073709551616) w) (sym p)));
        }
