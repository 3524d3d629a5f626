-- A place of whose files nothing is known meets the clauses about known files.
use Rattle.std.specs.Prelude.{ℕ, List, None, Ok, Err, Result, OnOk, IfOk, ⊤}
use Rattle.std.proofs.Common.{refl}
use Rattle.jfr_outside.specs.declared.fault.Fault.{Fault}
use Rattle.jfr_outside.specs.declared.fault.Fault.TheVariants.{Failed, Memory}
use Rattle.jfr_outside.specs.World.{World, IsAfterCall, IsAfterAppend}

pub untold_leaves : {T : Type 0} (r : Result T Fault) (ok : T → World → World) (failed : World → World) → IsAfterCall r None None ok failed
untold_leaves (Ok x) ok failed = refl
untold_leaves (Err Failed) ok failed = refl
untold_leaves (Err Memory) ok failed = refl

pub untold_prefix : {T W : Type 0} (r : Result T Fault) (bytes : List ℕ) (add : List ℕ → W → W) → IsAfterAppend {W = W} r None None bytes add
untold_prefix (Ok x) bytes add = refl
untold_prefix (Err Failed) bytes add = (0, refl)
untold_prefix (Err Memory) bytes add = refl

pub nothing_on_ok : {T E : Type 0} (r : Result T E) → OnOk r ⊤
nothing_on_ok (Ok x) = tt
nothing_on_ok (Err e) = tt

pub nothing_if_ok : {T E : Type 0} (r : Result T E) → IfOk r (λ _. ⊤)
nothing_if_ok (Ok x) = tt
nothing_if_ok (Err e) = tt
