-- A format is a sequence of units: integers, bytes and runs of bytes. The values of the units read so far
-- decide which one comes next.
use Rattle.std.specs.Prelude.{◌≡◌, ℕ, zero, suc, ◌+◌, ◌<◌, ◌≤◌, List, [], ◌∷◌, ◌++◌, length, Option, Some, None, ◌⊎◌, Result, Ok, Err, nat_lt, nat_le, slice_range, slice_index, if◌then◌else◌}
use Rattle.std.specs.Option.{option_map}
use Rattle.jfr_base.specs.declared.reason.Reason.{Reason}
use Rattle.jfr_base.specs.declared.reason.Reason.TheVariants.{Short, Trailing}
use Rattle.jfr_base.specs.declared.flaw.Flaw.{Flaw}
use Rattle.jfr_base.specs.declared.integer.Var.{Var}
use Rattle.jfr_base.specs.Integer.{IntAt, Spells, worth_within}

pub data Format (A : Type 0) : Type 0 where
  -- The format's value; nothing more is read.
  Done : (value : A) → Format A
  -- The bytes end here.
  Stop : (next : Format A) → Format A
  -- An integer. The check gives the reason for which its value is faulty, if it is.
  Int : (check : ℕ → Option Reason) → (next : ℕ → List ℕ → Format A) → Format A
  -- A byte, with such a check.
  Byte : (check : ℕ → Option Reason) → (next : ℕ → Format A) → Format A
  -- A run of `count` bytes.
  Run : (count : ℕ) → (next : List ℕ → Format A) → Format A
  -- No bytes: what comes next depends on the offset that has been reached.
  Here : (next : ℕ → Format A) → Format A
  -- Whatever is here is refused, for this reason.
  Refuse : (why : Reason) → Format A

-- A format followed by the one that its value selects.
infixl 10 ◌>>=◌
abbrev pub ◌>>=◌ : {A B : Type 0} → Format A → (A → Format B) → Format B
(Done a) >>= g = g a
(Stop next) >>= g = Stop (next >>= g)
(Int check next) >>= g = Int check (λ v s. next v s >>= g)
(Byte check next) >>= g = Byte check (λ b. next b >>= g)
(Run n next) >>= g = Run n (λ bs. next bs >>= g)
(Here next) >>= g = Here (λ at. next at >>= g)
(Refuse why) >>= g = Refuse why

-- As >>=, but the next format also gets the bytes that the first one read, appended to b.
abbrev pub with_bytes : {A B : Type 0} → List ℕ → Format A → (A → List ℕ → Format B) → Format B
with_bytes b (Done a) g = g a b
with_bytes b (Stop next) g = Stop (with_bytes b next g)
with_bytes b (Int check next) g = Int check (λ v s. with_bytes (b ++ s) (next v s) g)
with_bytes b (Byte check next) g = Byte check (λ c. with_bytes (b ++ (c ∷ [])) (next c) g)
with_bytes b (Run n next) g = Run n (λ s. with_bytes (b ++ s) (next s) g)
with_bytes b (Here next) g = Here (λ at. with_bytes b (next at) g)
with_bytes b (Refuse why) g = Refuse why

-- A check that finds no integer faulty.
abbrev pub unchecked : ℕ → Option Reason
unchecked v = None

-- A compressed integer of any value.
abbrev pub integer : Format ℕ
integer = Int unchecked (λ v s. Done v)

-- The format n times, one after another: the list of its values.
abbrev pub times : {A : Type 0} → ℕ → Format A → Format (List A)
times zero f = Done []
times (suc n) f = f >>= λ a. times n f >>= λ rest. Done (a ∷ rest)

-- A format for each item of the list, one after another: the list of their values.
abbrev pub for_each : {X A : Type 0} → List X → (X → Format A) → Format (List A)
for_each [] f = Done []
for_each (x ∷ xs) f = f x >>= λ a. for_each xs f >>= λ rest. Done (a ∷ rest)

-- The format, read in x from the offset `at` and not past `end`, gives the value and stops at the offset
-- `to`.
abbrev pub Reads : {A : Type 0} → Format A → List ℕ → ℕ → ℕ → A → ℕ → Type 0
Reads (Done a) x end at value to = (value ≡ a) × (to ≡ at)
Reads (Stop next) x end at value to = (end ≤ at) × Reads next x end at value to
Reads (Int check next) x end at value to = (q v : ℕ) × IntAt x at q v × (q ≤ end) × (check v ≡ None) × Reads (next v (slice_range x at q)) x end q value to
Reads (Byte check next) x end at value to = (at < end) × (check (slice_index x at) ≡ None) × Reads (next (slice_index x at)) x end (at + 1) value to
Reads (Run n next) x end at value to = (at + n ≤ end) × Reads (next (slice_range x at (at + n))) x end (at + n) value to
Reads (Here next) x end at value to = Reads (next at) x end at value to
Reads (Refuse why) x end at value to = ⊥

-- The format, read in x from the offset `at` and not past `end`, fails: all units before the offset o are
-- good, and the one at o is faulty for this reason.
abbrev pub Fails : {A : Type 0} → Format A → List ℕ → ℕ → ℕ → ℕ → Reason → Type 0
Fails (Done a) x end at o why = ⊥
Fails (Stop next) x end at o why = ((at < end) × (o ≡ at) × (why ≡ Trailing)) ⊎ ((end ≤ at) × Fails next x end at o why)
Fails (Int check next) x end at o why =
    (((q v : ℕ) → IntAt x at q v → q ≤ end → ⊥) × (o ≡ at) × (why ≡ Short))
    ⊎ ((q v : ℕ) × IntAt x at q v × (q ≤ end) × (((check v ≡ Some why) × (o ≡ at)) ⊎ ((check v ≡ None) × Fails (next v (slice_range x at q)) x end q o why)))
Fails (Byte check next) x end at o why =
    ((end ≤ at) × (o ≡ at) × (why ≡ Short))
    ⊎ ((at < end) × (((check (slice_index x at) ≡ Some why) × (o ≡ at)) ⊎ ((check (slice_index x at) ≡ None) × Fails (next (slice_index x at)) x end (at + 1) o why)))
Fails (Run n next) x end at o why =
    ((end < at + n) × (o ≡ at) × (why ≡ Short))
    ⊎ ((at + n ≤ end) × Fails (next (slice_range x at (at + n))) x end (at + n) o why)
Fails (Here next) x end at o why = Fails (next at) x end at o why
Fails (Refuse r) x end at o why = (o ≡ at) × (why ≡ r)

-- The format reads all of these bytes as the value, at whatever offset they lie. This never holds of a format
-- that asks for its offset or for the end of the input.
abbrev pub Exactly : {A : Type 0} → Format A → List ℕ → A → Type 0
Exactly (Done a) b value = (value ≡ a) × (b ≡ [])
Exactly (Stop next) b value = ⊥
Exactly (Int check next) b value = (h r : List ℕ) × (v : ℕ) × (b ≡ h ++ r) × Spells h v × (check v ≡ None) × Exactly (next v h) r value
Exactly (Byte check next) b value = (c : ℕ) × (r : List ℕ) × (b ≡ c ∷ r) × (check c ≡ None) × Exactly (next c) r value
Exactly (Run n next) b value = (h r : List ℕ) × (b ≡ h ++ r) × (length h ≡ n) × Exactly (next h) r value
Exactly (Here next) b value = ⊥
Exactly (Refuse why) b value = ⊥

-- What a format gives when it is computed: its value, and the offset after it.
pub record Got (A : Type 0) : Type 0 where
  pub value : A
  pub place : ℕ

abbrev pub Answer : Type 0 → Type 0
Answer A = Result (Got A) Flaw

-- The answer if the unit at an offset is faulty.
abbrev pub refused : {A : Type 0} → ℕ → Reason → Answer A
refused at why = Err (record { offset = at; reason = why })

-- The answer r, unless the check of the unit at an offset gives a reason.
abbrev pub checked : {A : Type 0} → ℕ → Option Reason → Answer A → Answer A
checked at None r = r
checked at (Some why) r = refused at why

-- The length of the integer at the front of the list, if it ends in the list. At most k of its bytes carry
-- seven bits.
abbrev pub prefix_length : ℕ → List ℕ → Option ℕ
prefix_length k [] = None
prefix_length zero (b ∷ bs) = Some 1
prefix_length (suc k) (b ∷ bs) = if nat_lt b 128 then Some 1 else option_map (λ n. suc n) (prefix_length k bs)

-- The integer at the offset `at`, if one ends by `end`.
unfoldable pub int_at : List ℕ → ℕ → ℕ → Option Var
int_at x at end = option_map (λ n. record { value = worth_within 8 (slice_range x at (at + n)); end = at + n }) (prefix_length 8 (slice_range x at end))

-- Continues from a value and the offset after it; a flaw is kept.
abbrev pub on : {A B : Type 0} → Answer A → (A → ℕ → Answer B) → Answer B
on (Ok g) f = f g.value g.place
on (Err e) f = Err e

-- Continues after the integer at an offset, if there is one and its check gives no reason.
abbrev pub after_int : {A : Type 0} → List ℕ → ℕ → (ℕ → Option Reason) → (ℕ → List ℕ → ℕ → Answer A) → Option Var → Answer A
after_int x at check f None = refused at Short
after_int x at check f (Some v) = checked at (check v.value) (f v.value (slice_range x at v.end) v.end)

-- The computed answer of the format, which is read in x from the offset `at` and not past `end`.
unfoldable pub run : {A : Type 0} → Format A → List ℕ → ℕ → ℕ → Answer A
run (Done a) x end at = Ok (record { value = a; place = at })
run (Stop next) x end at = if nat_lt at end then refused at Trailing else run next x end at
run (Int check next) x end at = after_int x at check (λ v s p. run (next v s) x end p) (int_at x at end)
run (Byte check next) x end at = if nat_lt at end then checked at (check (slice_index x at)) (run (next (slice_index x at)) x end (at + 1)) else refused at Short
run (Run n next) x end at = if nat_le (at + n) end then run (next (slice_range x at (at + n))) x end (at + n) else refused at Short
run (Here next) x end at = run (next at) x end at
run (Refuse why) x end at = refused at why

-- An answer without its value: the offset after it, or the flaw.
abbrev pub end_or_flaw : {A : Type 0} → Answer A → Result ℕ Flaw
end_or_flaw (Ok g) = Ok g.place
end_or_flaw (Err e) = Err e
