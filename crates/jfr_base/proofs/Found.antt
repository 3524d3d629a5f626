-- What a reader of integers answers.
use Rattle.std.specs.Prelude.{◌≡◌, ℕ, ◌≤◌, List, length, Some, None, Result, Ok, Err, IfOk, OnErr, MatchResult}
use Rattle.jfr_base.specs.declared.flaw.Flaw.{Flaw}
use Rattle.jfr_base.specs.declared.integer.Var.{Var}
use Rattle.jfr_base.specs.declared.reason.Reason.TheVariants.{Short}
use Rattle.jfr_base.specs.Integer.{IntAt}
use Rattle.jfr_base.specs.Formats.{int_at}
use Rattle.jfr_base.proofs.Exact.{int_found, int_none}

abbrev pub IsFound : List ℕ → ℕ → ℕ → Result Var Flaw → Type 0
IsFound x at end r = MatchResult r (λ v. int_at x at end ≡ Some v) (λ e. (int_at x at end ≡ None) × (e ≡ record { offset = at; reason = Short }))

pub found_stands : (x : List ℕ) (at end : ℕ) (r : Result Var Flaw) → at ≤ end → end ≤ length x → IsFound x at end r → IfOk r (λ v. IntAt x at v.end v.value)
found_stands x at end (Ok v) h i e = (int_found x at end v h i e).0
found_stands x at end (Err f) h i e = tt

pub none_stands : (x : List ℕ) (at end : ℕ) (r : Result Var Flaw) → end ≤ length x → IsFound x at end r → OnErr r ((q v : ℕ) → IntAt x at q v → q ≤ end → ⊥)
none_stands x at end (Ok v) h e = tt
none_stands x at end (Err f) h e = int_none x at end h e.0
