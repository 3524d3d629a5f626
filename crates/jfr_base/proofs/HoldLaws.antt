-- Bytes that lie in a list before an end, and what reads them.
use Rattle.std.specs.Prelude.{◌≡◌, ℕ, ◌+◌, ◌-◌, ◌≤◌, List, [], ◌∷◌, ◌++◌, length, take, drop, slice_range}
use Rattle.std.specs.List.{flat_map, AllByRecursion}
use Rattle.std.proofs.Common.{ap, arith, refl, sym, ◌∙◌, subst, length-append}
use Rattle.std.proofs.Math.Seq.{drop-append_seam}
use Rattle.std.proofs.lemmas.List.{take_all}
use Rattle.jfr_base.specs.Integer.{Spells, IntAt}
use Rattle.jfr_base.specs.Formats.{Format, Done, ◌>>=◌, times, Reads}
use Rattle.jfr_base.proofs.Ranges.{range_split, range_length}
use Rattle.jfr_base.proofs.UnitLaws.{one_run}
use Rattle.jfr_base.proofs.Copies.{Copy}
use Rattle.jfr_base.proofs.ReadLaws.{reads_then}

-- The bytes lie at this offset, before the end.
pub record Holds (x : List ℕ) (end at : ℕ) (b : List ℕ) : Type 0 where
  pub bytes : slice_range x at (at + length b) ≡ b
  pub within : at + length b ≤ end
  pub inside : end ≤ length x

pub holds_parts : (x : List ℕ) (end at : ℕ) (a b : List ℕ) → Holds x end at (a ++ b) → Holds x end at a × Holds x end (at + length a) b
holds_parts x end at a b h =
    let l : length (a ++ b) ≡ length a + length b = length-append a b in
    let v : at + length (a ++ b) ≤ end = h.within in
    let w : end ≤ length x = h.inside in
    let s : slice_range x at (at + length a) ++ slice_range x (at + length a) (at + length (a ++ b)) ≡ a ++ b =
    sym (range_split x at (at + length a) (at + length (a ++ b)) (omega arith) (omega arith)) ∙ h.bytes in
    let n : length (slice_range x at (at + length a)) ≡ length a = range_length x at (at + length a) (omega arith) ∙ omega arith in
    let e : at + length (a ++ b) ≡ at + length a + length b = omega arith in
    let o = one_run (slice_range x at (at + length a)) a (slice_range x (at + length a) (at + length (a ++ b))) b s n in
    (record { bytes = o.0; within = omega arith; inside = w }, record { bytes = ap (slice_range x (at + length a)) (sym e) ∙ o.1; within = omega arith; inside = w })

pub holds_int : (x : List ℕ) (end at : ℕ) (b : List ℕ) (v : ℕ) → Holds x end at b → Spells b v → IntAt x at (at + length b) v
holds_int x end at b v h s =
    let i : at + length b ≤ end = h.within in
    let j : end ≤ length x = h.inside in
    record { order = omega arith; within = omega arith; spelled = subst (λ z. Spells z v) (sym h.bytes) s }

-- A range of one list that lies in another.
pub holds_copy : (x y : List ℕ) (end p q n : ℕ) → p + n ≤ length x → Holds y end q (slice_range x p (p + n)) → Copy x y p q n × (q + n ≤ end)
holds_copy x y end p q n i h =
    let l : length (slice_range x p (p + n)) ≡ n = range_length x p (p + n) i ∙ omega arith in
    let v : q + length (slice_range x p (p + n)) ≤ end = h.within in
    let w : end ≤ length y = h.inside in
    (record { same = sym h.bytes ∙ ap (λ m. slice_range y q (q + m)) l; from_within = i; to_within = omega arith }, omega arith)

-- What comes after the first bytes.
pub holds_after : (front b : List ℕ) → Holds (front ++ b) (length (front ++ b)) (length front) b
holds_after front b =
    let l : length (front ++ b) ≡ length front + length b = length-append front b in
    let e : length front + length b - length front ≡ length b = omega arith in
    let t : take (length b) b ≡ b = take_all (length b) b (omega arith) in
    record { bytes = ap (λ n. take n (drop (length front) (front ++ b))) e ∙ (ap (take (length b)) (drop-append_seam front b) ∙ t); within = omega arith; inside = omega arith }

pub holds_at : (x : List ℕ) (end p q : ℕ) (b : List ℕ) → p ≡ q → Holds x end p b → Holds x end q b
holds_at x end p q b e h = subst (λ m. Holds x end m b) e h

-- The end may be moved back to the end of the bytes.
pub holds_narrow : (x : List ℕ) (end at to : ℕ) (b : List ℕ) → at + length b ≤ to → to ≤ end → Holds x end at b → Holds x to at b
holds_narrow x end at to b i j h = let k : end ≤ length x = h.inside in record { bytes = h.bytes; within = i; inside = omega arith }

-- Things written one after another, each read by the format.
abbrev pub placed_each : {X A : Type 0} → (X → List ℕ) → (ℕ → X → A) → ℕ → List X → List A
placed_each bytes value at [] = []
placed_each bytes value at (x ∷ xs) = value at x ∷ placed_each bytes value (at + length (bytes x)) xs

pub times_read : {X A : Type 0} (f : Format A) (bytes : X → List ℕ) (value : ℕ → X → A) (Good : X → Type 0) (b : List ℕ) (end : ℕ)
    → ((x : X) (at : ℕ) → Good x → Holds b end at (bytes x) → Reads f b end at (value at x) (at + length (bytes x)))
    → (xs : List X) (at : ℕ) → AllByRecursion Good xs → Holds b end at (flat_map bytes xs) → Reads (times (length xs) f) b end at (placed_each bytes value at xs) (at + length (flat_map bytes xs))
times_read f bytes value Good b end one [] at g h = (refl, omega arith)
times_read f bytes value Good b end one (x ∷ xs) at g h =
    let p = holds_parts b end at (bytes x) (flat_map bytes xs) h in
    let m : ℕ = at + length (bytes x) in
    let to : ℕ = at + length (bytes x ++ flat_map bytes xs) in
    let n : m + length (flat_map bytes xs) ≡ to = omega (arith, length-append (bytes x) (flat_map bytes xs)) in
    let i = times_read f bytes value Good b end one xs m g.1 p.1 in
    let rest : List _ = placed_each bytes value m xs in
    reads_then f (λ a. times (length xs) f >>= λ rest. Done (a ∷ rest)) b end at (value at x) m (value at x ∷ rest) to (one x at g.0 p.0)
    (reads_then (times (length xs) f) (λ rest. Done (value at x ∷ rest)) b end m rest to (value at x ∷ rest) to (subst (Reads (times (length xs) f) b end m rest) n i) (refl, refl))

-- An integer of one list whose bytes lie in another.
pub holds_range_int : (c b : List ℕ) (p q v end at to : ℕ) → IntAt c p q v → Holds b end at (slice_range c p q) → at + (q - p) ≡ to → IntAt b at to v × (to ≤ end)
holds_range_int c b p q v end at to i h e =
    let l : length (slice_range c p q) ≡ q - p = range_length c p q i.within in
    let f : at + length (slice_range c p q) ≡ to = omega arith in
    let w : at + length (slice_range c p q) ≤ end = h.within in
    (subst (λ m. IntAt b at m v) f (holds_int b end at (slice_range c p q) v h i.spelled), omega arith)
