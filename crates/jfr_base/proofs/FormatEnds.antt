-- Where formats end, one after another.
use Rattle.std.specs.Prelude.{◌≡◌, ℕ, suc, ◌+◌, List, [], ◌∷◌, ◌++◌, Result, Ok, Err, Bool, true, false, Option, Some, None, if◌then◌else◌, slice_index, slice_range, nat_lt, nat_le}
use Rattle.std.proofs.Common.{ap, refl, ◌∙◌}
use Rattle.jfr_base.specs.declared.flaw.Flaw.{Flaw}
use Rattle.jfr_base.specs.declared.integer.Var.{Var}
use Rattle.jfr_base.specs.declared.reason.Reason.{Reason}
use Rattle.jfr_base.specs.declared.reason.Reason.TheVariants.{Short, Trailing}
use Rattle.jfr_base.specs.Formats.{Format, Done, Stop, Int, Byte, Run, Here, Refuse, ◌>>=◌, with_bytes, Answer, on, checked, refused, int_at, after_int, run, times, for_each, end_or_flaw}
use Rattle.jfr_base.proofs.FormatLaws.{run-bind}

-- What comes after a place, if there is one.
abbrev pub then_at : Result ℕ Flaw → (ℕ → Result ℕ Flaw) → Result ℕ Flaw
then_at (Ok p) f = f p
then_at (Err e) f = Err e

end_or_flaw-on : {A B : Type 0} (r : Answer A) (f : A → ℕ → Answer B) (g : ℕ → Result ℕ Flaw) → ((a : A) (p : ℕ) → end_or_flaw (f a p) ≡ g p) → end_or_flaw (on r f) ≡ then_at (end_or_flaw r) g
end_or_flaw-on (Ok r) f g h = h r.value r.place
end_or_flaw-on (Err e) f g h = refl

pub end_or_flaw-bind : {A B : Type 0} (f : Format A) (g : A → Format B) (h : ℕ → Result ℕ Flaw) (x : List ℕ) (end at : ℕ)
    → ((a : A) (p : ℕ) → end_or_flaw (run (g a) x end p) ≡ h p) → end_or_flaw (run (f >>= g) x end at) ≡ then_at (end_or_flaw (run f x end at)) h
end_or_flaw-bind f g h x end at e = ap end_or_flaw (run-bind f g x end at) ∙ end_or_flaw-on (run f x end at) (λ a p. run (g a) x end p) h e

pub then_at_ok : (r : Result ℕ Flaw) → then_at r (λ p. Ok p) ≡ r
then_at_ok (Ok p) = refl
then_at_ok (Err e) = refl

-- What is computed from the value doesn't change where a format ends.
pub end_or_flaw-made : {A B : Type 0} (f : Format A) (g : A → B) (x : List ℕ) (end at : ℕ) → end_or_flaw (run (f >>= λ a. Done (g a)) x end at) ≡ end_or_flaw (run f x end at)
unfolding run
end_or_flaw-made f g x end at = end_or_flaw-bind f (λ a. Done (g a)) (λ p. Ok p) x end at (λ a p. refl) ∙ then_at_ok (end_or_flaw (run f x end at))

pub end_or_flaw-times : {A : Type 0} (n : ℕ) (f : Format A) (x : List ℕ) (end at : ℕ)
    → end_or_flaw (run (times (suc n) f) x end at) ≡ then_at (end_or_flaw (run f x end at)) (λ p. end_or_flaw (run (times n f) x end p))
end_or_flaw-times n f x end at = end_or_flaw-bind f (λ a. times n f >>= λ rest. Done (a ∷ rest)) (λ p. end_or_flaw (run (times n f) x end p)) x end at
    (λ a p. end_or_flaw-made (times n f) (λ rest. a ∷ rest) x end p)

pub end_or_flaw-for_each : {X A : Type 0} (y : X) (ys : List X) (f : X → Format A) (x : List ℕ) (end at : ℕ)
    → end_or_flaw (run (for_each (y ∷ ys) f) x end at) ≡ then_at (end_or_flaw (run (f y) x end at)) (λ p. end_or_flaw (run (for_each ys f) x end p))
end_or_flaw-for_each y ys f x end at = end_or_flaw-bind (f y) (λ a. for_each ys f >>= λ rest. Done (a ∷ rest)) (λ p. end_or_flaw (run (for_each ys f) x end p)) x end at
    (λ a p. end_or_flaw-made (for_each ys f) (λ rest. a ∷ rest) x end p)

end_or_flaw-checked : {A B : Type 0} (at : ℕ) (o : Option Reason) (r : Answer A) (q : Answer B) → end_or_flaw r ≡ end_or_flaw q → end_or_flaw (checked at o r) ≡ end_or_flaw (checked at o q)
end_or_flaw-checked at None r q h = h
end_or_flaw-checked at (Some why) r q h = refl

-- Nor does what is made of the value and its bytes.
pub end_or_flaw-with : {A B : Type 0} (b : List ℕ) (f : Format A) (g : A → List ℕ → B) (x : List ℕ) (end at : ℕ)
    → end_or_flaw (run (with_bytes b f (λ a s. Done (g a s))) x end at) ≡ end_or_flaw (run f x end at)
unfolding run
end_or_flaw-with b (Done a) g x end at = refl
end_or_flaw-with b (Stop next) g x end at = by_test (nat_lt at end) (end_or_flaw-with b next g x end at)
  where
    by_test : (t : Bool) → end_or_flaw (run (with_bytes b next (λ a s. Done (g a s))) x end at) ≡ end_or_flaw (run next x end at)
        → end_or_flaw (if t then refused at Trailing else run (with_bytes b next (λ a s. Done (g a s))) x end at) ≡ end_or_flaw (if t then refused at Trailing else run next x end at)
    by_test true h = refl
    by_test false h = h
end_or_flaw-with b (Int check next) g x end at = by_int (int_at x at end) (λ v s p. end_or_flaw-with (b ++ s) (next v s) g x end p)
  where
    by_int : (o : Option Var) → ((v : ℕ) (s : List ℕ) (p : ℕ) → end_or_flaw (run (with_bytes (b ++ s) (next v s) (λ a s. Done (g a s))) x end p) ≡ end_or_flaw (run (next v s) x end p))
        → end_or_flaw (after_int x at check (λ v s p. run (with_bytes (b ++ s) (next v s) (λ a s. Done (g a s))) x end p) o) ≡ end_or_flaw (after_int x at check (λ v s p. run (next v s) x end p) o)
    by_int None h = refl
    by_int (Some v) h = end_or_flaw-checked at (check v.value) (run (with_bytes (b ++ slice_range x at v.end) (next v.value (slice_range x at v.end)) (λ a s. Done (g a s))) x end v.end)
        (run (next v.value (slice_range x at v.end)) x end v.end) (h v.value (slice_range x at v.end) v.end)
end_or_flaw-with b (Byte check next) g x end at = by_test (nat_lt at end) (end_or_flaw-with (b ++ (slice_index x at ∷ [])) (next (slice_index x at)) g x end (at + 1))
  where
    by_test : (t : Bool) → end_or_flaw (run (with_bytes (b ++ (slice_index x at ∷ [])) (next (slice_index x at)) (λ a s. Done (g a s))) x end (at + 1)) ≡ end_or_flaw (run (next (slice_index x at)) x end (at + 1))
        → end_or_flaw (if t then checked at (check (slice_index x at)) (run (with_bytes (b ++ (slice_index x at ∷ [])) (next (slice_index x at)) (λ a s. Done (g a s))) x end (at + 1)) else refused at Short) ≡ end_or_flaw (if t then checked at (check (slice_index x at)) (run (next (slice_index x at)) x end (at + 1)) else refused at Short)
    by_test true h = end_or_flaw-checked at (check (slice_index x at)) (run (with_bytes (b ++ (slice_index x at ∷ [])) (next (slice_index x at)) (λ a s. Done (g a s))) x end (at + 1))
        (run (next (slice_index x at)) x end (at + 1)) h
    by_test false h = refl
end_or_flaw-with b (Run n next) g x end at = by_test (nat_le (at + n) end) (end_or_flaw-with (b ++ slice_range x at (at + n)) (next (slice_range x at (at + n))) g x end (at + n))
  where
    by_test : (t : Bool) → end_or_flaw (run (with_bytes (b ++ slice_range x at (at + n)) (next (slice_range x at (at + n))) (λ a s. Done (g a s))) x end (at + n)) ≡ end_or_flaw (run (next (slice_range x at (at + n))) x end (at + n))
        → end_or_flaw (if t then run (with_bytes (b ++ slice_range x at (at + n)) (next (slice_range x at (at + n))) (λ a s. Done (g a s))) x end (at + n) else refused at Short) ≡ end_or_flaw (if t then run (next (slice_range x at (at + n))) x end (at + n) else refused at Short)
    by_test true h = h
    by_test false h = refl
end_or_flaw-with b (Here next) g x end at = end_or_flaw-with b (next at) g x end at
end_or_flaw-with b (Refuse why) g x end at = refl

pub ruleset ends = (end_or_flaw-made, end_or_flaw-times, end_or_flaw-for_each)
