-- Formats without places: what they read somewhere, they read exactly from these bytes.
use Rattle.std.specs.Prelude.{⊤, ◌≡◌, ℕ, zero, suc, ◌+◌, ◌-◌, ◌≤◌, List, [], ◌∷◌, ◌++◌, length, slice_range, slice_index, Bool, true, false, if◌then◌else◌}
use Rattle.std.proofs.Common.{ap, arith, refl, ◌∙◌}
use Rattle.jfr_base.specs.Formats.{Format, Done, Stop, Int, Byte, Run, Here, Refuse, ◌>>=◌, with_bytes, times, for_each, Exactly, Reads}
use Rattle.jfr_base.proofs.Ranges.{range_split, range_length, range_one}

-- No unit asks for a place or for the end.
abbrev pub PlaceFree : {A : Type 0} → Format A → Type 0
PlaceFree (Done a) = ⊤
PlaceFree (Stop next) = ⊥
PlaceFree (Int check next) = (v : ℕ) (s : List ℕ) → PlaceFree (next v s)
PlaceFree (Byte check next) = (c : ℕ) → PlaceFree (next c)
PlaceFree (Run n next) = (s : List ℕ) → PlaceFree (next s)
PlaceFree (Here next) = ⊥
PlaceFree (Refuse why) = ⊤

pub record ReadExactly {A : Type 0} (f : Format A) (x : List ℕ) (end at : ℕ) (a : A) (to : ℕ) : Type 0 where
  pub order : at ≤ to
  pub within : to ≤ end
  pub exact : Exactly f (slice_range x at to) a

pub reads_exact : {A : Type 0} (f : Format A) (x : List ℕ) (end at : ℕ) (a : A) (to : ℕ) → end ≤ length x → at ≤ end → PlaceFree f → Reads f x end at a to → ReadExactly f x end at a to
reads_exact (Done v) x end at a to h i p r =
    let e : to ≡ at = r.1 in
    let z : to - at ≡ 0 = omega arith in
    record { order = omega arith; within = omega arith; exact = (r.0, rw z refl) }
reads_exact (Stop next) x end at a to h i p r = absurd p
reads_exact (Int check next) x end at a to h i p r =
    let j = reads_exact (next r.1 (slice_range x at r.0)) x end r.0 a to h r.3 (p r.1 (slice_range x at r.0)) r.5 in
    let o : at ≤ r.0 = r.2.order in
    record { order = omega (arith, j.order); within = j.within; exact = (slice_range x at r.0, slice_range x r.0 to, r.1, range_split x at r.0 to o j.order, r.2.spelled, r.4, j.exact) }
reads_exact (Byte check next) x end at a to h i p r =
    let j = reads_exact (next (slice_index x at)) x end (at + 1) a to h (omega (arith, r.0)) (p (slice_index x at)) r.2 in
    let s : slice_range x at to ≡ slice_index x at ∷ slice_range x (at + 1) to =
    range_split x at (at + 1) to (omega arith) j.order ∙ ap (λ z. z ++ slice_range x (at + 1) to) (range_one x at (omega (arith, r.0))) in
    record { order = omega (arith, j.order); within = j.within; exact = (slice_index x at, slice_range x (at + 1) to, s, r.1, j.exact) }
reads_exact (Run n next) x end at a to h i p r =
    let j = reads_exact (next (slice_range x at (at + n))) x end (at + n) a to h r.0 (p (slice_range x at (at + n))) r.1 in
    let l : length (slice_range x at (at + n)) ≡ n = range_length x at (at + n) (omega (arith, r.0)) ∙ omega arith in
    record { order = omega (arith, j.order); within = j.within; exact = (slice_range x at (at + n), slice_range x (at + n) to, range_split x at (at + n) to (omega arith) j.order, l, j.exact) }
reads_exact (Here next) x end at a to h i p r = absurd p
reads_exact (Refuse why) x end at a to h i p r = absurd r

pub bind_free : {A B : Type 0} (f : Format A) (g : A → Format B) → PlaceFree f → ((a : A) → PlaceFree (g a)) → PlaceFree (f >>= g)
bind_free (Done a) g p q = q a
bind_free (Stop next) g p q = absurd p
bind_free (Int check next) g p q = λ v s. bind_free (next v s) g (p v s) q
bind_free (Byte check next) g p q = λ c. bind_free (next c) g (p c) q
bind_free (Run n next) g p q = λ s. bind_free (next s) g (p s) q
bind_free (Here next) g p q = absurd p
bind_free (Refuse why) g p q = tt

pub with_free : {A B : Type 0} (b : List ℕ) (f : Format A) (g : A → List ℕ → Format B) → PlaceFree f → ((a : A) (s : List ℕ) → PlaceFree (g a s)) → PlaceFree (with_bytes b f g)
with_free b (Done a) g p q = q a b
with_free b (Stop next) g p q = absurd p
with_free b (Int check next) g p q = λ v s. with_free (b ++ s) (next v s) g (p v s) q
with_free b (Byte check next) g p q = λ c. with_free (b ++ (c ∷ [])) (next c) g (p c) q
with_free b (Run n next) g p q = λ s. with_free (b ++ s) (next s) g (p s) q
with_free b (Here next) g p q = absurd p
with_free b (Refuse why) g p q = tt

pub times_free : {A : Type 0} (n : ℕ) (f : Format A) → PlaceFree f → PlaceFree (times n f)
times_free zero f p = tt
times_free (suc n) f p = bind_free f (λ a. times n f >>= λ rest. Done (a ∷ rest)) p (λ a. bind_free (times n f) (λ rest. Done (a ∷ rest)) (times_free n f p) (λ rest. tt))

pub each_free : {X A : Type 0} (xs : List X) (f : X → Format A) → ((x : X) → PlaceFree (f x)) → PlaceFree (for_each xs f)
each_free [] f p = tt
each_free (x ∷ xs) f p = bind_free (f x) (λ a. for_each xs f >>= λ rest. Done (a ∷ rest)) (p x) (λ a. bind_free (for_each xs f) (λ rest. Done (a ∷ rest)) (each_free xs f p) (λ rest. tt))

pub if_free : {A : Type 0} (t : Bool) (f g : Format A) → PlaceFree f → PlaceFree g → PlaceFree (if t then f else g)
if_free true f g p q = p
if_free false f g p q = q
