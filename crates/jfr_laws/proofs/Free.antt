-- A format that asks for no place reads the same value from the same bytes anywhere.
use Rattle.std.specs.Prelude.{◌≡◌, ℕ, ◌+◌, ◌-◌, ◌≤◌, List, [], ◌∷◌, ◌++◌, length, slice_range, Ok}
use Rattle.std.proofs.Common.{ap, arith, refl, sym, ◌∙◌, subst}
use Rattle.jfr_base.specs.Formats.{Got, Format, Done, Stop, Int, Byte, Run, Here, Refuse, Reads, run}
use Rattle.jfr_base.proofs.AlikeLaws.{Alike, Each}
use Rattle.jfr_base.proofs.Exact.{ReadsOrFails, run_reads_or_fails}
use Rattle.jfr_base.proofs.FreeLaws.{PlaceFree, reads_exact}
use Rattle.jfr_base.proofs.Ranges.{range_split, range_length}
use Rattle.jfr_base.proofs.RunLaws.{Stands, exact_run}
use Rattle.jfr_base.proofs.UnitLaws.{one_run}

abbrev pub Same : {A : Type 0} → A → A → Type 0
Same a b = a ≡ b

pub each_same : {A : Type 0} (xs ys : List A) → Each Same xs ys → xs ≡ ys
each_same [] [] e = refl
each_same [] (y ∷ ys) e = absurd e
each_same (x ∷ xs) [] e = absurd e
each_same (x ∷ xs) (y ∷ ys) e = ap (λ z. z ∷ xs) e.0 ∙ ap (λ zs. y ∷ zs) (each_same xs ys e.1)

pub free_alike : {A : Type 0} (f : Format A) → PlaceFree f → Alike Same f f
free_alike (Done a) p = refl
free_alike (Stop next) p = absurd p
free_alike (Int check next) p = λ v s. ((λ e. e), free_alike (next v s) (p v s))
free_alike (Byte check next) p = λ v. ((λ e. e), free_alike (next v) (p v))
free_alike (Run n next) p = (refl, λ s. free_alike (next s) (p s))
free_alike (Here next) p = absurd p
free_alike (Refuse why) p = tt

-- What is computed from a range of bytes is computed from an equal range.
pub free_run : {A : Type 0} (f : Format A) → PlaceFree f → (x y : List ℕ) (at end from to : ℕ) → at ≤ end → end ≤ length x → from ≤ to → to ≤ length y → slice_range x at end ≡ slice_range y from to
    → (g : Got A) → run f x end at ≡ Ok g → (q : ℕ) × (run f y to from ≡ Ok (record { value = g.value; place = q }))
free_run f p x y at end from to i j k l e g r =
    let reads : Reads f x end at g.value g.place = subst (ReadsOrFails f x end at) r (run_reads_or_fails f x end at i j) in
    let h = reads_exact f x end at g.value g.place j i p reads in
    let front : List ℕ = slice_range x at g.place in
    let rest : List ℕ = slice_range x g.place end in
    let order : at ≤ g.place = h.order in
    let within : g.place ≤ end = h.within in
    let n : length front ≡ g.place - at = range_length x at g.place (omega arith) in
    let m : to - from ≡ end - at = sym (range_length y from to l) ∙ (ap length (sym e) ∙ range_length x at end j) in
    let o : from + length front ≤ to = omega arith in
    let d : slice_range y from (from + length front) ++ slice_range y (from + length front) to ≡ front ++ rest =
    sym (range_split y from (from + length front) to (omega arith) o) ∙ (sym e ∙ range_split x at g.place end order within) in
    let q : length (slice_range y from (from + length front)) ≡ length front = range_length y from (from + length front) (omega arith) ∙ omega arith in
    let s : Stands y from (from + length front) front =
    record { order = omega arith; within = omega arith; bytes = (one_run (slice_range y from (from + length front)) front (slice_range y (from + length front) to) rest d q).0 } in
    (from + length front, exact_run y to l f from (from + length front) front g.value h.exact s o)
