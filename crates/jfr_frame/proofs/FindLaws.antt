-- The record with a number, and the one with an offset and a type.
use Rattle.std.specs.Prelude.{◌≡◌, ℕ, zero, suc, ◌+◌, ◌<◌, ◌≤◌, List, [], ◌∷◌, length, slice_get, Option, None, Some, Result, Ok, Err, MatchResult, IfSome, option_and_then, is_some, ◌==◌, ◌&&◌, Bool, true, false, if◌then◌else◌}
use Rattle.std.proofs.Common.{ap, arith, refl, sym, ◌∙◌, subst, get_or, inl, inr, ◌⊎◌, Ordering, Less, Equal, Greater}
use Rattle.std.proofs.lemmas.Bool.{cases_lt}
use Rattle.std.proofs.lemmas.List.Sorted.{searched}
use Rattle.std.proofs.lemmas.List.{length-map}
use Rattle.std.proofs.Math.ListN.{get_or-map}
use Rattle.std.specs.List.Sorted.{IsBinarySearchResult, IsNonDecreasingBy}
use Rattle.std.specs.Result.{result_ok}
use Rattle.std.specs.Ordering.{nat_cmp, ordering_index}
use Rattle.jfr_frame.specs.declared.framed.Framed.{Framed}
use Rattle.jfr_frame.specs.declared.start.Start.{Start}
use Rattle.jfr_frame.specs.Records.{AreRecords, Rising, places_of, record_there, starts_at}
use Rattle.jfr_frame.specs.Starts.{AreStarts, kept_places, records_at}
use Rattle.jfr_frame.proofs.RecordLaws.{rising_of, rising_places}

-- A record, if it has the type.
abbrev pub if_type : ℕ → Framed → Option Framed
if_type t r = if r.type_id == t then Some r else None

there_nowhere : (rs : List Framed) (at t : ℕ) → ((k : ℕ) → k < length (places_of rs) → get_or (places_of rs) k 0 ≡ at → ⊥) → record_there rs at t ≡ None
there_nowhere [] at t h = refl
there_nowhere (r ∷ rs) at t h =
    let e : (r.at == at) ≡ false = by_test (r.at == at) refl in
    rw e (there_nowhere rs at t (λ k i. h (suc k) (omega arith)))
  where
    by_test : (b : Bool) → (r.at == at) ≡ b → b ≡ false
    by_test true f = absurd (h 0 (omega arith) (grind (arith, f)))
    by_test false f = refl

there_past : (p at t : ℕ) (rs : List Framed) → Rising p rs → at < p → record_there rs at t ≡ None
there_past p at t [] h i = refl
there_past p at t (r ∷ rs) h i =
    let q : p ≤ r.at = h.0 in
    let e : (r.at == at) ≡ false = grind arith in
    rw e (there_past (r.at + 1) at t rs h.1 (omega arith))

there_at : (p : ℕ) (rs : List Framed) (n at t : ℕ) → Rising p rs → n < length (places_of rs) → get_or (places_of rs) n 0 ≡ at → record_there rs at t ≡ option_and_then (if_type t) (slice_get rs n)
there_at p [] n at t h i e = absurd (omega arith)
there_at p (x ∷ rs) zero at t h i e =
    let f : (x.at == at) ≡ true = grind arith in
    let g = there_past (x.at + 1) at t rs h.1 (omega arith) in
    rw (f, g) refl
there_at p (x ∷ rs) (suc n) at t h i e =
    let l = rising_places (x.at + 1) rs h.1 n n (omega arith) (omega arith) in
    let f : (x.at == at) ≡ false = grind (arith, l.0) in
    rw f (there_at (x.at + 1) rs n at t h.1 (omega arith) e)

-- A search among starts by their places is one among the places.
pub by_places : (starts : List Start) (at : ℕ) (r : Result ℕ ℕ) → IsBinarySearchResult (λ (s : Start). nat_cmp s.at at) starts r
    → IsBinarySearchResult (λ place. nat_cmp place at) (kept_places starts) r
by_places starts at r h = by_answer r h
  where
    start_at : ℕ → Start
    start_at d = record { at = d; type_id = 0; type_at = 0; body = 0 }

    same : (k : ℕ) (s : Start) → get_or (kept_places starts) k s.at ≡ (get_or starts k s).at
    same k s = get_or-map (λ (z : Start). z.at) starts k s

    stays : (o : Ordering) (k d : ℕ) → nat_cmp (get_or starts k (start_at d)).at at ≡ o → nat_cmp (get_or (kept_places starts) k d) at ≡ o
    stays o k d e = ap (λ p. nat_cmp p at) (same k (start_at d)) ∙ e

    rising : IsNonDecreasingBy (λ place. ordering_index (nat_cmp place at)) (kept_places starts) → IsNonDecreasingBy (λ (s : Start). ordering_index (nat_cmp s.at at)) starts
    rising g i j d le lt = rw (← same i d, ← same j d) (g i j d.at le (rw (length-map starts (λ (z : Start). z.at)) lt))

    by_answer : (r : Result ℕ ℕ) → IsBinarySearchResult (λ (s : Start). nat_cmp s.at at) starts r → IsBinarySearchResult (λ place. nat_cmp place at) (kept_places starts) r
    by_answer (Ok i) f = λ d. stays Equal i d (f (start_at d))
    by_answer (Err i) f = λ g.
        let p = f (rising g) in
        (λ k d low high. stays Less k d (p.0 k (start_at d) low high), λ k d low high. stays Greater k d (p.1 k (start_at d) low (rw (← length-map starts (λ (z : Start). z.at)) high)))

-- What a binary search over the places finds.
found_in : (all : List Framed) (at : ℕ) (r : Result ℕ ℕ) → Rising 68 all → IsBinarySearchResult (λ place. nat_cmp place at) (places_of all) r
    → MatchResult r (λ i. (i < length (places_of all)) × (get_or (places_of all) i 0 ≡ at)) (λ i. (i ≤ length (places_of all)) × ((k : ℕ) → k < i → get_or (places_of all) k 0 < at) × ((k : ℕ) → i ≤ k → k < length (places_of all) → at < get_or (places_of all) k 0))
found_in all at r rising s = searched (places_of all) at r s (λ i j k l. (rising_places 68 all rising i j k l).1)

pub records_rise : (c : List ℕ) (starts : List Start) (all : List Framed) → AreStarts c starts → records_at c starts ≡ all → Rising 68 all
records_rise c starts all h v = rising_of c 68 68 (length c) all (omega arith) (subst (AreRecords c) v h.cover)

-- The record at the place that a binary search found.
pub there_found : (all : List Framed) (at t n : ℕ) (o : Option Framed) (r : Result ℕ ℕ) → Rising 68 all → IsBinarySearchResult (λ place. nat_cmp place at) (places_of all) r → result_ok r ≡ Some n
    → o ≡ slice_get all n → record_there all at t ≡ option_and_then (if_type t) o
there_found all at t n o (Err m) rising s is g = cc
there_found all at t n o (Ok m) rising s is g =
    let f = found_in all at (Ok n) rising (subst (λ (k : Option ℕ). IfSome k (λ i. IsBinarySearchResult (λ place. nat_cmp place at) (places_of all) (Ok i))) is s) in
    there_at 68 all n at t rising f.0 f.1 ∙ ap (option_and_then (if_type t)) (sym g)

-- No record starts at an offset for which a binary search found none.
pub there_not_found : (all : List Framed) (at t : ℕ) (r : Result ℕ ℕ) → Rising 68 all → IsBinarySearchResult (λ place. nat_cmp place at) (places_of all) r → result_ok r ≡ None
    → record_there all at t ≡ None
there_not_found all at t (Ok n) rising s is = cc
there_not_found all at t (Err n) rising s is =
    let m = found_in all at (Err n) rising s in
    there_nowhere all at t (λ k i is. other all k i is (cases_lt k n) m)
  where
    other : (rs : List Framed) (k : ℕ) → k < length (places_of rs) → get_or (places_of rs) k 0 ≡ at → ((k < n) ⊎ (n ≤ k))
        → (n ≤ length (places_of rs)) × ((k : ℕ) → k < n → get_or (places_of rs) k 0 < at) × ((k : ℕ) → n ≤ k → k < length (places_of rs) → at < get_or (places_of rs) k 0) → ⊥
    other rs k i is (inl l) m = let a : get_or (places_of rs) k 0 < at = m.1 k l in omega arith
    other rs k i is (inr l) m = let a : at < get_or (places_of rs) k 0 = m.2 k l i in omega arith

pub is_type : (t : ℕ) (r : Framed) → r.type_id ≡ t → if_type t r ≡ Some r
is_type t r e = let f : (r.type_id == t) ≡ true = grind arith in rw f refl

pub is_no_type : (t : ℕ) (r : Framed) → (r.type_id ≡ t → ⊥) → if_type t r ≡ None
is_no_type t r e = let f : (r.type_id == t) ≡ false = by_test (r.type_id == t) refl in rw f refl
  where
    by_test : (b : Bool) → (r.type_id == t) ≡ b → b ≡ false
    by_test true g = absurd (e (grind (arith, g)))
    by_test false g = refl

-- A record that is found starts at the offset.
pub starts_there : (rs : List Framed) (at t : ℕ) → is_some (record_there rs at t) ≡ starts_at rs at t
starts_there [] at t = refl
starts_there (r ∷ rs) at t = by_test ((r.at == at) && (r.type_id == t)) refl (starts_there rs at t)
  where
    by_test : (b : Bool) → ((r.at == at) && (r.type_id == t)) ≡ b → is_some (record_there rs at t) ≡ starts_at rs at t → is_some (record_there (r ∷ rs) at t) ≡ starts_at (r ∷ rs) at t
    by_test true e h = rw e refl
    by_test false e h = rw e h
