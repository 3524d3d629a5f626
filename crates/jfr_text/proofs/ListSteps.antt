-- One step of an iterator whose state is seen as the list of what is left.
use Rattle.std.specs.Prelude.{ℕ, ◌<◌, List, length, Option, Some, None}
use Rattle.std.proofs.Common.{sym, subst, arith}
use Rattle.std.specs.Iterator.{YieldsFirst, MakesProgress, item_count}

pub goes_on : (s t : List ℕ) (r : Option ℕ) → YieldsFirst (λ l. l) s r t → MakesProgress {S = List ℕ} {A = ℕ} (λ _. Unit {0}) (item_count (λ l. l)) s r t
goes_on s t None e = record { on = λ _. tt; keeps = tt; rests = λ _. tt }
goes_on s t (Some x) e = record {
  on = λ _. (tt, tt, subst (λ l. length t < length l) (sym e) (omega arith));
  keeps = tt;
  rests = λ _. tt;
}
