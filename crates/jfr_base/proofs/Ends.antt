-- What an integer that was read before one end is before another.
use Rattle.std.specs.Prelude.{◌≡◌, ℕ, ◌<◌, ◌≤◌, List, length, Some, None}
use Rattle.std.proofs.Common.{arith}
use Rattle.jfr_base.specs.declared.integer.Var.{Var}
use Rattle.jfr_base.specs.Formats.{int_at}
use Rattle.jfr_base.proofs.Exact.{int_found}
use Rattle.jfr_base.proofs.OneAnswer.{int_computed, none_computed}
use Rattle.jfr_base.proofs.OneInt.{int_one}

-- It is read before any end that its last byte isn't beyond.
pub ends_by : (x : List ℕ) (at end other : ℕ) (v : Var) → at ≤ end → end ≤ length x → at ≤ other → other ≤ length x → int_at x at other ≡ Some v → v.end ≤ end → int_at x at end ≡ Some v
ends_by x at end other v h i j k e l = int_computed x at end v.end v.value h i (int_found x at other v j k e).0 l

-- And before no other end.
pub ends_past : (x : List ℕ) (at end other : ℕ) (v : Var) → at ≤ end → end ≤ length x → at ≤ other → other ≤ length x → int_at x at other ≡ Some v → end < v.end → int_at x at end ≡ None
ends_past x at end other v h i j k e l =
    none_computed x at end h i (λ q w p m. let f = int_one x at q v.end w v.value p (int_found x at other v j k e).0 in let g : q ≡ v.end = f.0 in omega arith)
