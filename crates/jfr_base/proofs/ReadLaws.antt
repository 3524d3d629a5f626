-- Where a format ends, and one format after another.
use Rattle.std.specs.Prelude.{◌≡◌, ℕ, ◌+◌, ◌<◌, ◌≤◌, List, slice_range, slice_index}
use Rattle.std.proofs.Common.{arith, refl, subst}
use Rattle.jfr_base.specs.Formats.{Format, Done, Stop, Int, Byte, Run, Here, Refuse, ◌>>=◌, Reads}

-- A format doesn't end before it begins.
pub reads_order : {A : Type 0} (f : Format A) (x : List ℕ) (end at : ℕ) (v : A) (to : ℕ) → Reads f x end at v to → at ≤ to
reads_order (Done a) x end at v to r = let e : to ≡ at = r.1 in omega arith
reads_order (Stop next) x end at v to r = reads_order next x end at v to r.1
reads_order (Int check next) x end at v to r =
    let i : r.0 ≤ to = reads_order (next r.1 (slice_range x at r.0)) x end r.0 v to r.5 in
    let j : at ≤ r.0 = r.2.order in
    omega arith
reads_order (Byte check next) x end at v to r = let i : at + 1 ≤ to = reads_order (next (slice_index x at)) x end (at + 1) v to r.2 in omega arith
reads_order (Run n next) x end at v to r = let i : at + n ≤ to = reads_order (next (slice_range x at (at + n))) x end (at + n) v to r.1 in omega arith
reads_order (Here next) x end at v to r = reads_order (next at) x end at v to r
reads_order (Refuse why) x end at v to r = absurd r

-- One format after another.
pub reads_then : {A B : Type 0} (f : Format A) (g : A → Format B) (x : List ℕ) (end at : ℕ) (a : A) (m : ℕ) (b : B) (to : ℕ) → Reads f x end at a m → Reads (g a) x end m b to
    → Reads (f >>= g) x end at b to
reads_then {B = B} (Done c) g x end at a m b to r s = subst (λ z. Reads (g z) x end at b to) r.0 (subst (λ n. Reads (g a) x end n b to) r.1 s)
reads_then (Stop next) g x end at a m b to r s = (r.0, reads_then next g x end at a m b to r.1 s)
reads_then (Int check next) g x end at a m b to r s = (r.0, r.1, r.2, r.3, r.4, reads_then (next r.1 (slice_range x at r.0)) g x end r.0 a m b to r.5 s)
reads_then (Byte check next) g x end at a m b to r s = (r.0, r.1, reads_then (next (slice_index x at)) g x end (at + 1) a m b to r.2 s)
reads_then (Run n next) g x end at a m b to r s = (r.0, reads_then (next (slice_range x at (at + n))) g x end (at + n) a m b to r.1 s)
reads_then (Here next) g x end at a m b to r s = reads_then (next at) g x end at a m b to r s
reads_then (Refuse why) g x end at a m b to r s = absurd r

-- The converse: the first format ends at some offset, and the second is read from there.
pub record Parted {A B : Type 0} (f : Format A) (g : A → Format B) (x : List ℕ) (end at : ℕ) (b : B) (to : ℕ) : Type 0 where
  pub value : A
  pub place : ℕ
  pub first : Reads f x end at value place
  pub second : Reads (g value) x end place b to

pub reads_parted : {A B : Type 0} (f : Format A) (g : A → Format B) (x : List ℕ) (end at : ℕ) (b : B) (to : ℕ) → Reads (f >>= g) x end at b to → Parted f g x end at b to
reads_parted (Done c) g x end at b to r = record { value = c; place = at; first = (refl, refl); second = r }
reads_parted (Stop next) g x end at b to r = let s = reads_parted next g x end at b to r.1 in record { value = s.value; place = s.place; first = (r.0, s.first); second = s.second }
reads_parted (Int check next) g x end at b to r = let s =
    reads_parted (next r.1 (slice_range x at r.0)) g x end r.0 b to r.5 in record { value = s.value; place = s.place; first = (r.0, r.1, r.2, r.3, r.4, s.first); second = s.second }
reads_parted (Byte check next) g x end at b to r = let s =
    reads_parted (next (slice_index x at)) g x end (at + 1) b to r.2 in record { value = s.value; place = s.place; first = (r.0, r.1, s.first); second = s.second }
reads_parted (Run n next) g x end at b to r = let s =
    reads_parted (next (slice_range x at (at + n))) g x end (at + n) b to r.1 in record { value = s.value; place = s.place; first = (r.0, s.first); second = s.second }
reads_parted (Here next) g x end at b to r = let s = reads_parted (next at) g x end at b to r in record { value = s.value; place = s.place; first = s.first; second = s.second }
reads_parted (Refuse why) g x end at b to r = absurd r

pub reads_within : {A : Type 0} (f : Format A) (x : List ℕ) (end at : ℕ) (v : A) (to : ℕ) → at ≤ end → Reads f x end at v to → to ≤ end
reads_within (Done a) x end at v to h r = let e : to ≡ at = r.1 in omega arith
reads_within (Stop next) x end at v to h r = reads_within next x end at v to h r.1
reads_within (Int check next) x end at v to h r = reads_within (next r.1 (slice_range x at r.0)) x end r.0 v to r.3 r.5
reads_within (Byte check next) x end at v to h r = let i : at < end = r.0 in reads_within (next (slice_index x at)) x end (at + 1) v to (omega arith) r.2
reads_within (Run n next) x end at v to h r = reads_within (next (slice_range x at (at + n))) x end (at + n) v to r.0 r.1
reads_within (Here next) x end at v to h r = reads_within (next at) x end at v to h r
reads_within (Refuse why) x end at v to h r = absurd r
