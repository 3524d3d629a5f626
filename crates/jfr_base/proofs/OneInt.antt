use Rattle.std.specs.Prelude.{◌≡◌, ℕ, ◌-◌, ◌≤◌, List, ◌++◌, length, slice_range}
use Rattle.std.proofs.Common.{ap, arith}
use Rattle.jfr_base.specs.Integer.{IntAt}
use Rattle.jfr_base.proofs.Ranges.{range_split, range_length}
use Rattle.jfr_base.proofs.UnitLaws.{one_integer}

-- There is at most one integer at an offset.
pub int_one : (x : List ℕ) (p q r v w : ℕ) → IntAt x p q v → IntAt x p r w → (q ≡ r) × (v ≡ w)
int_one x p q r v w a b =
    let s : slice_range x p (length x) ≡ slice_range x p q ++ slice_range x q (length x) = range_split x p q (length x) a.order a.within in
    let t : slice_range x p (length x) ≡ slice_range x p r ++ slice_range x r (length x) = range_split x p r (length x) b.order b.within in
    let h = one_integer (slice_range x p (length x)) (slice_range x p q) (slice_range x p r) (slice_range x q (length x)) (slice_range x r (length x)) v w s t a.spelled b.spelled in
    let l : length (slice_range x p q) ≡ q - p = range_length x p q a.within in
    let m : length (slice_range x p r) ≡ r - p = range_length x p r b.within in
    let n : length (slice_range x p q) ≡ length (slice_range x p r) = ap length h.0 in
    let o : p ≤ q = a.order in
    let u : p ≤ r = b.order in
    (omega arith, h.2)
