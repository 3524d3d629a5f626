-- A window is compared in billionths of ticks, as its definition says.
use Rattle.std.specs.Prelude.{◌≡◌, ℤ, pos, ◌+ℤ◌, ◌-ℤ◌, ◌*ℤ◌, int_lt, int_le, Bool, true, false, ◌&&◌, Option, Some, None, option_map}
use Rattle.std.specs.Option.{option_map_or}
use Rattle.std.specs.Int.{w64, w128}
use Rattle.std.specs.Int.Signed.{le_z}
use Rattle.std.proofs.Common.{SFits, ap, arith, of_z, refl, subst, sym, to_z, ◌∙◌}
use Rattle.std.proofs.lemmas.Int.{fits_signed_mul, ints, to_z-of_z}
use Rattle.jfr_filter.specs.Filters.{Given}
use Rattle.jfr_chunk.specs.Parts.{Parts}
use Rattle.jfr_chunk.specs.Windows.{Clock, clock_of, is_before, is_from, is_in}
use Rattle.jfr_path.specs.declared.window.Window.{Window}
use Rattle.jfr_path.specs.declared.window.Window.TheVariants.{Between, Empty}
use Rattle.jfr_path.specs.Times.{IsWindowOf, has}

-- The billionths of ticks from the chunk's start until a moment.
abbrev billionths : Clock → ℤ → ℤ
billionths k m = (m -ℤ k.nanos) *ℤ k.rate

-- A number as it is in 128 bits.
abbrev pub wide : ℤ → ℤ
wide z = to_z w128 (of_z w128 z)

-- The product of a difference of two numbers of 64 bits and a third one fits in 128 bits.
module _ (a b c x y z : ℤ) (p : a ≡ x) (q : b ≡ y) (r : c ≡ z) (f : SFits w64 x) (g : SFits w64 y) (h : SFits w64 z) where
  difference : wide (wide a -ℤ wide b) ≡ x -ℤ y
  difference = omega (arith, ints)

  factor : wide c ≡ z
  factor = omega (arith, ints)

  pub product_fits : SFits w128 (wide (wide a -ℤ wide b) *ℤ wide c)
  product_fits =
      subst (λ n. SFits w128 n) (sym (ap (λ n. n *ℤ wide c) difference ∙ ap (λ n. (x -ℤ y) *ℤ n) factor))
      (fits_signed_mul w128 (x -ℤ y) z 18446744073709551615 9223372036854775808 (omega (arith, ints)) (omega (arith, ints)) (omega arith))

  pub product_is : wide (wide (wide a -ℤ wide b) *ℤ wide c) ≡ (x -ℤ y) *ℤ z
  product_is = to_z-of_z w128 (wide (wide a -ℤ wide b) *ℤ wide c) product_fits ∙ (ap (λ n. n *ℤ wide c) difference ∙ ap (λ n. (x -ℤ y) *ℤ n) factor)

-- The times of an event in billionths of ticks, as they are computed.
module _ (start first duration t b d : ℤ) (p : start ≡ t) (q : first ≡ b) (r : duration ≡ d) (f : SFits w64 t) (g : SFits w64 b) (h : SFits w64 d) where
  abbrev since : ℤ
  since = wide (wide (wide start -ℤ wide first) *ℤ pos 1000000000)

  pub since_is : since ≡ (t -ℤ b) *ℤ pos 1000000000
  since_is = omega (arith, ints)

  abbrev sum : ℤ
  sum = since +ℤ wide (wide duration *ℤ pos 1000000000)

  pub sum_fits : SFits w128 sum
  sum_fits = omega (arith, ints)

  pub until_is : wide sum ≡ ((t +ℤ d) -ℤ b) *ℤ pos 1000000000
  until_is = omega (arith, ints)

-- An event that ends before the window, and one that doesn't.
module _ (w : Window) (b t d : ℤ) (from to : Option ℤ) (is : w ≡ Between b from to) where
  ends_too : {until : ℤ} (ends : Bool) → ends ≡ option_map_or (λ a. int_le a until) from true → until ≡ ((t +ℤ d) -ℤ b) *ℤ pos 1000000000
      → ends ≡ option_map_or (λ a. int_le a (((t +ℤ d) -ℤ b) *ℤ pos 1000000000)) from true
  ends_too ends e u = e ∙ ap (λ z. option_map_or (λ a. int_le a z) from true) u

  pub ends_before : {until : ℤ} (ends : Bool) → ends ≡ option_map_or (λ a. int_le a until) from true → ends ≡ false → until ≡ ((t +ℤ d) -ℤ b) *ℤ pos 1000000000 → false ≡ has w t d
  ends_before ends e n u =
      let starts : Bool = option_map_or (λ end. int_lt ((t -ℤ b) *ℤ pos 1000000000) end) to true in
      ap (λ z. z && starts) (sym n ∙ ends_too ends e u) ∙ sym (ap (λ z. has z t d) is)

  pub starts_within : {since until : ℤ} (ends starts : Bool) → ends ≡ option_map_or (λ a. int_le a until) from true → ends ≡ true → until ≡ ((t +ℤ d) -ℤ b) *ℤ pos 1000000000
      → starts ≡ option_map_or (λ end. int_lt since end) to true → since ≡ (t -ℤ b) *ℤ pos 1000000000 → starts ≡ has w t d
  starts_within ends starts e n u s i =
      s ∙ (ap (λ z. option_map_or (λ end. int_lt z end) to true) i
      ∙ (ap (λ z. z && option_map_or (λ end. int_lt ((t -ℤ b) *ℤ pos 1000000000) end) to true) (sym n ∙ ends_too ends e u)
      ∙ sym (ap (λ z. has z t d) is)))

module _ (k : Clock) where
  ends_same : (x : ℤ) (o : Option ℤ) → option_map_or (λ a. int_le a x) (option_map (billionths k) o) true ≡ option_map_or (λ m. int_le (billionths k m) x) o true
  ends_same x None = refl
  ends_same x (Some m) = refl

  starts_same : (x : ℤ) (o : Option ℤ) → option_map_or (λ b. int_lt x b) (option_map (billionths k) o) true ≡ option_map_or (λ m. int_lt x (billionths k m)) o true
  starts_same x None = refl
  starts_same x (Some m) = refl

-- The billionths until a moment, by the numbers in the header.
pub until_same : (p : Parts) (moment given : Option ℤ) (nanos rate : ℤ) (until : Option ℤ) → until ≡ option_map (λ m. (m -ℤ nanos) *ℤ rate) moment → moment ≡ given → nanos ≡ (clock_of p.bytes).nanos
    → rate ≡ (clock_of p.bytes).rate → until ≡ option_map (billionths (clock_of p.bytes)) given
until_same p moment given nanos rate until u m n r =
    u ∙ (ap (option_map (λ m. (m -ℤ nanos) *ℤ rate)) m
    ∙ (ap (λ z. option_map (λ m. (m -ℤ z) *ℤ rate) given) n ∙ ap (λ z. option_map (λ m. (m -ℤ (clock_of p.bytes).nanos) *ℤ z) given) r))

module _ (g : Given) (p : Parts) where
  abbrev clock : Clock
  clock = clock_of p.bytes

  pub empty : int_lt (pos 0) clock.rate ≡ false → IsWindowOf g p Empty
  unfolding is_in
  empty r = record { has_same = λ t d. sym (ap (λ b. b && (option_map_or (is_from clock (t +ℤ d)) g.from true && option_map_or (is_before clock t) g.to true)) r) }

  -- A rate that is.
  pub positive_by : (rate : ℤ) → SFits w64 rate → rate ≡ clock.rate → le_z (to_z w64 (of_z w64 rate)) (pos 0) ≡ false → int_lt (pos 0) clock.rate ≡ true
  positive_by rate f e l = subst (λ z. int_lt (pos 0) z ≡ true) e (is_positive rate (sym (ap (λ z. le_z z (pos 0)) (to_z-of_z w64 rate f)) ∙ l))
    where
      is_positive : (z : ℤ) → le_z z (pos 0) ≡ false → int_lt (pos 0) z ≡ true
      is_positive z l = grind (arith, ints)

  pub between : (start : ℤ) (from to : Option ℤ) → int_lt (pos 0) clock.rate ≡ true → start ≡ clock.ticks → from ≡ option_map (billionths clock) g.from → to ≡ option_map (billionths clock) g.to
      → IsWindowOf g p (Between start from to)
  unfolding is_in
  between start from to r s f t = record {
    has_same = λ x d.
        (let ends : ℤ → Option ℤ → Bool = λ z o. option_map_or (λ a. int_le a (((x +ℤ d) -ℤ z) *ℤ pos 1000000000)) o true in
        let starts : ℤ → Option ℤ → Bool = λ z o. option_map_or (λ b. int_lt ((x -ℤ z) *ℤ pos 1000000000) b) o true in
        let within : Bool = option_map_or (is_from clock (x +ℤ d)) g.from true && option_map_or (is_before clock x) g.to true in
        ap (λ z. ends z from && starts z to) s
        ∙ (ap (λ z. ends clock.ticks z && starts clock.ticks to) f
        ∙ (ap (λ z. ends clock.ticks (option_map (billionths clock) g.from) && starts clock.ticks z) t
        ∙ (ap (λ b. b && starts clock.ticks (option_map (billionths clock) g.to)) (ends_same clock (((x +ℤ d) -ℤ clock.ticks) *ℤ pos 1000000000) g.from)
        ∙ (ap (λ b. option_map_or (is_from clock (x +ℤ d)) g.from true && b) (starts_same clock ((x -ℤ clock.ticks) *ℤ pos 1000000000) g.to)
        ∙ sym (ap (λ b. b && within) r))))));
  }

  -- A rate that isn't positive.
  pub empty_by : (rate : ℤ) → SFits w64 rate → rate ≡ clock.rate → le_z (to_z w64 (of_z w64 rate)) (pos 0) ≡ true → IsWindowOf g p Empty
  empty_by rate f e l = empty (subst (λ z. int_lt (pos 0) z ≡ false) e (not_positive rate (sym (ap (λ z. le_z z (pos 0)) (to_z-of_z w64 rate f)) ∙ l)))
    where
      not_positive : (z : ℤ) → le_z z (pos 0) ≡ true → int_lt (pos 0) z ≡ false
      not_positive z l = grind (arith, ints)
