use Rattle.std.specs.Prelude.{◌≡◌, ℕ, ◌+◌, List, Option, Some, None, nat_lt, nat_le, slice_range, slice_index, if◌then◌else◌, Bool, true, false}
use Rattle.std.proofs.Common.{ap, refl, ◌∙◌}
use Rattle.jfr_base.specs.declared.reason.Reason.{Reason}
use Rattle.jfr_base.specs.declared.reason.Reason.TheVariants.{Short, Trailing}
use Rattle.jfr_base.specs.declared.integer.Var.{Var}
use Rattle.jfr_base.specs.Formats.{Format, Done, Stop, Int, Byte, Run, Here, Refuse, ◌>>=◌, Answer, checked, refused, int_at, on, after_int, run}

checked-on : {A B : Type 0} (at : ℕ) (o : Option Reason) (r : Answer A) (f : A → ℕ → Answer B) → checked at o (on r f) ≡ on (checked at o r) f
checked-on at None r f = refl
checked-on at (Some why) r f = refl

-- One format after another.
pub run-bind : {A B : Type 0} (f : Format A) (g : A → Format B) (x : List ℕ) (end at : ℕ) → run (f >>= g) x end at ≡ on (run f x end at) (λ a p. run (g a) x end p)
unfolding run
run-bind (Done a) g x end at = refl
run-bind (Stop next) g x end at = by_test (nat_lt at end) (run-bind next g x end at)
  where
    by_test : (t : Bool) → run (next >>= g) x end at ≡ on (run next x end at) (λ a p. run (g a) x end p)
        → (if t then refused at Trailing else run (next >>= g) x end at) ≡ on (if t then refused at Trailing else run next x end at) (λ a p. run (g a) x end p)
    by_test true h = refl
    by_test false h = h
run-bind (Int check next) g x end at = by_int (int_at x at end) (λ v s p. run-bind (next v s) g x end p)
  where
    by_int : (o : Option Var) → ((v : ℕ) (s : List ℕ) (p : ℕ) → run (next v s >>= g) x end p ≡ on (run (next v s) x end p) (λ a p. run (g a) x end p))
        → after_int x at check (λ v s p. run (next v s >>= g) x end p) o ≡ on (after_int x at check (λ v s p. run (next v s) x end p) o) (λ a p. run (g a) x end p)
    by_int None h = refl
    by_int (Some v) h = ap (λ r. checked at (check v.value) r) (h v.value (slice_range x at v.end) v.end)
        ∙ checked-on at (check v.value) (run (next v.value (slice_range x at v.end)) x end v.end) (λ a p. run (g a) x end p)
run-bind (Byte check next) g x end at = by_test (nat_lt at end) (run-bind (next (slice_index x at)) g x end (at + 1))
  where
    by_test : (t : Bool) → run (next (slice_index x at) >>= g) x end (at + 1) ≡ on (run (next (slice_index x at)) x end (at + 1)) (λ a p. run (g a) x end p)
        → (if t then checked at (check (slice_index x at)) (run (next (slice_index x at) >>= g) x end (at + 1)) else refused at Short)
        ≡ on (if t then checked at (check (slice_index x at)) (run (next (slice_index x at)) x end (at + 1)) else refused at Short) (λ a p. run (g a) x end p)
    by_test true h = ap (λ r. checked at (check (slice_index x at)) r) h ∙ checked-on at (check (slice_index x at)) (run (next (slice_index x at)) x end (at + 1)) (λ a p. run (g a) x end p)
    by_test false h = refl
run-bind (Run n next) g x end at = by_test (nat_le (at + n) end) (run-bind (next (slice_range x at (at + n))) g x end (at + n))
  where
    by_test : (t : Bool) → run (next (slice_range x at (at + n)) >>= g) x end (at + n) ≡ on (run (next (slice_range x at (at + n))) x end (at + n)) (λ a p. run (g a) x end p)
        → (if t then run (next (slice_range x at (at + n)) >>= g) x end (at + n) else refused at Short) ≡ on (if t then run (next (slice_range x at (at + n))) x end (at + n) else refused at Short) (λ a p. run (g a) x end p)
    by_test true h = h
    by_test false h = refl
run-bind (Here next) g x end at = run-bind (next at) g x end at
run-bind (Refuse why) g x end at = refl
