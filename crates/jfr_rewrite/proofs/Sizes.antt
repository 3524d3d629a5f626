-- Widths that carry the size of a record.
use Rattle.std.specs.Prelude.{◌≡◌, ℕ, zero, suc, ◌+◌, ◌*◌, ◌<◌, ◌≤◌, ◌^◌, ◌==◌, Bool, true, false, List, length, nat_lt, slice_range, if◌then◌else◌}
use Rattle.std.proofs.Common.{ap, arith, refl, subst, inl}
use Rattle.std.proofs.lemmas.Bool.Decides.{nat_tests}
use Rattle.jfr_base.specs.Integer.{spell_as, spell_in}
use Rattle.jfr_base.proofs.Ranges.{range_length}
use Rattle.jfr_base.proofs.Spelling.{spell_in_spells}
use Rattle.jfr_base.proofs.Writing.{fits_spells}
use Rattle.jfr_frame.specs.declared.framed.Framed.{Framed}
use Rattle.jfr_frame.specs.Records.{IsRecord}
use Rattle.jfr_rewrite.specs.Rewrite.{fewest, fewest_or_five, old_width}
use Rattle.jfr_rewrite.specs.Rewritten.{Carries}

by_fit : (width n : ℕ) → 1 ≤ width → width ≤ 9 → width + n < 2 ^ (7 * width) → Carries width n
by_fit width n some most fits = fits_spells (width + n) width some most (inl fits)

fewest_carries : (n : ℕ) → n < 2 ^ 30 → Carries (fewest n) n
fewest_carries n small = one (nat_lt n 127) refl
  where
    four : (b : Bool) → nat_lt n 268435452 ≡ b → Carries (if b then 4 else 5) n
    four true e = let h : n < 268435452 = grind (arith, nat_tests) in by_fit 4 n (omega arith) (omega arith) (omega arith)
    four false e = by_fit 5 n (omega arith) (omega arith) (omega arith)

    three : (b : Bool) → nat_lt n 2097149 ≡ b → Carries (if b then 3 else if nat_lt n 268435452 then 4 else 5) n
    three true e = let h : n < 2097149 = grind (arith, nat_tests) in by_fit 3 n (omega arith) (omega arith) (omega arith)
    three false e = four (nat_lt n 268435452) refl

    two : (b : Bool) → nat_lt n 16382 ≡ b → Carries (if b then 2 else if nat_lt n 2097149 then 3 else if nat_lt n 268435452 then 4 else 5) n
    two true e = let h : n < 16382 = grind (arith, nat_tests) in by_fit 2 n (omega arith) (omega arith) (omega arith)
    two false e = three (nat_lt n 2097149) refl

    one : (b : Bool) → nat_lt n 127 ≡ b
        → Carries (if b then 1 else if nat_lt n 16382 then 2 else if nat_lt n 2097149 then 3 else if nat_lt n 268435452 then 4 else 5) n
    one true e = let h : n < 127 = grind (arith, nat_tests) in by_fit 1 n (omega arith) (omega arith) (omega arith)
    one false e = two (nat_lt n 16382) refl

pub fewest_or_five_carries : (r : Framed) (n : ℕ) → n < 2 ^ 30 → Carries (fewest_or_five r n) n
fewest_or_five_carries r n small = by_test (r.type_id == 1)
  where
    by_test : (t : Bool) → Carries (if t then 5 else fewest n) n
    by_test true = by_fit 5 n (omega arith) (omega arith) (omega arith)
    by_test false = fewest_carries n small

pub old_width_carries : (c : List ℕ) (r : Framed) (n : ℕ) → IsRecord c r → old_width r n + n ≤ r.size → Carries (old_width r n) n
old_width_carries c r n s h =
    let e : length (slice_range c r.at r.type_at) ≡ old_width r n = range_length c r.at r.type_at s.size_spelled.within in
    subst (λ m. Carries m n) e (spell_in_spells (slice_range c r.at r.type_at) (length (slice_range c r.at r.type_at) + n) r.size s.size_spelled.spelled (omega arith)).0

-- What is spelled in n bytes has n bytes.
pub in_length : (n v : ℕ) → length (spell_in n v) ≡ n
unfolding spell_in
in_length n v = as_length n v
  where
    as_length : (n v : ℕ) → length (spell_as n v) ≡ n
    as_length zero v = refl
    as_length (suc zero) v = refl
    as_length (suc (suc n)) v = ap suc (as_length (suc n) _)
