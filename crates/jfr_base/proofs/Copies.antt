-- Bytes that are in two lists.
use Rattle.std.specs.Prelude.{◌≡◌, ℕ, ◌+◌, ◌-◌, ◌<◌, ◌≤◌, List, [], ◌∷◌, ◌++◌, length, slice_range, slice_index}
use Rattle.std.proofs.Common.{ap, arith, sym, ◌∙◌, subst}
use Rattle.jfr_base.specs.Integer.{Spells, IntAt}
use Rattle.jfr_base.proofs.Ranges.{range_split, range_length, range_one}
use Rattle.jfr_base.proofs.UnitLaws.{one_run}
use Rattle.jfr_base.proofs.Spelling.{some_byte}

-- n bytes of x at p are those of y at q.
pub record Copy (x y : List ℕ) (p q n : ℕ) : Type 0 where
  pub same : slice_range x p (p + n) ≡ slice_range y q (q + n)
  pub from_within : p + n ≤ length x
  pub to_within : q + n ≤ length y

pub copy_cut : (x y : List ℕ) (p q a b : ℕ) → Copy x y p q (a + b) → Copy x y p q a × Copy x y (p + a) (q + a) b
copy_cut x y p q a b c =
    let e : p + (a + b) ≡ p + a + b = omega arith in
    let f : q + (a + b) ≡ q + a + b = omega arith in
    let v : p + (a + b) ≤ length x = c.from_within in
    let w : q + (a + b) ≤ length y = c.to_within in
    let s : slice_range x p (p + a) ++ slice_range x (p + a) (p + a + b) ≡ slice_range y q (q + a) ++ slice_range y (q + a) (q + a + b) =
    sym (range_split x p (p + a) (p + a + b) (omega arith) (omega arith))
    ∙ (ap (slice_range x p) (sym e) ∙ (c.same ∙ (ap (slice_range y q) f ∙ range_split y q (q + a) (q + a + b) (omega arith) (omega arith)))) in
    let l : length (slice_range x p (p + a)) ≡ length (slice_range y q (q + a)) = range_length x p (p + a) (omega arith) ∙ (omega arith ∙ sym (range_length y q (q + a) (omega arith))) in
    let o = one_run (slice_range x p (p + a)) (slice_range y q (q + a)) (slice_range x (p + a) (p + a + b)) (slice_range y (q + a) (q + a + b)) s l in
    (record { same = o.0; from_within = omega arith; to_within = omega arith }, record { same = o.1; from_within = omega arith; to_within = omega arith })

-- An integer takes a byte.
pub int_some : (x : List ℕ) (p q v : ℕ) → IntAt x p q v → p < q
int_some x p q v i =
    let l : length (slice_range x p q) ≡ q - p = range_length x p q i.within in
    let n : 1 ≤ length (slice_range x p q) = some_byte (slice_range x p q) v i.spelled in
    omega arith

-- What is spelled is spelled in the copy.
pub copy_int : (x y : List ℕ) (p q n v : ℕ) → Copy x y p q n → IntAt x p (p + n) v → IntAt y q (q + n) v
copy_int x y p q n v c i = record { order = omega arith; within = c.to_within; spelled = subst (λ b. Spells b v) c.same i.spelled }

pub copy_byte : (x y : List ℕ) (p q : ℕ) → Copy x y p q 1 → slice_index x p ≡ slice_index y q
copy_byte x y p q c =
    let v : p + 1 ≤ length x = c.from_within in
    let w : q + 1 ≤ length y = c.to_within in
    let e : slice_index x p ∷ [] ≡ slice_index y q ∷ [] = sym (range_one x p (omega arith)) ∙ (c.same ∙ range_one y q (omega arith)) in
    cc
