-- Which events flags choose, and which records are theirs.
use Rattle.std.specs.Prelude.{◌≡◌, ℕ, ◌+◌, ◌<◌, ◌≤◌, Bool, true, false, ◌==◌, ◌||◌, List, [], ◌∷◌, map, filter, if◌then◌else◌}
use Rattle.std.specs.List.{AllByRecursion, cons_option, filter_map, list_any}
use Rattle.std.proofs.Common.{ap, arith, refl, sym, ◌∙◌}
use Rattle.std.proofs.lemmas.Bool.Decides.{nat_tests}
use Rattle.jfr_base.proofs.OneAnswer.{reads_computed}
use Rattle.jfr_layout.specs.Classes.{Classes}
use Rattle.jfr_frame.specs.declared.framed.Framed.{Framed}
use Rattle.jfr_frame.specs.Records.{IsRecord, Rising, record_end}
use Rattle.jfr_value.specs.Reading.{value_format}
use Rattle.jfr_pool.specs.Entries.{inline}
use Rattle.jfr_chunk.specs.Parts.{EventAt, HasFields, event_by, event_of}
use Rattle.jfr_chunk.specs.Reach.{marked}
use Rattle.jfr_chunk.proofs.TestLaws.{is_eq}

-- The records of events.
abbrev pub records_of : List EventAt → List Framed
records_of es = map (λ e. e.record_of) es

-- Whether one of the events starts at the offset of a record.
abbrev pub is_kept : List EventAt → Framed → Bool
is_kept kept r = list_any (λ e. e.record_of.at == r.at) kept

-- No record starts before all.
none_before : (flags : List Bool) (rs : List Framed) (p at : ℕ) → Rising p rs → at < p → list_any (λ e. e.at == at) (marked flags rs) ≡ false
none_before [] rs p at r h = refl
none_before (f ∷ flags) [] p at r h = refl
none_before (true ∷ flags) (x ∷ rs) p at r h =
    let i : p ≤ x.at = r.0 in
    let e : (x.at == at) ≡ false = grind (arith, nat_tests) in
    rw e (none_before flags rs (x.at + 1) at r.1 (omega arith))
none_before (false ∷ flags) (x ∷ rs) p at r h = let i : p ≤ x.at = r.0 in none_before flags rs (x.at + 1) at r.1 (omega arith)

-- A place before all changes nothing.
skip_before : (at p : ℕ) (test : Framed → Bool) (rs : List Framed) → at < p → Rising p rs → filter (λ r. (at == r.at) || test r) rs ≡ filter test rs
skip_before at p test [] h r = refl
skip_before at p test (x ∷ rs) h r =
    let i : p ≤ x.at = r.0 in
    let e : (at == x.at) ≡ false = grind (arith, nat_tests) in
    rw e (by_test (test x) (skip_before at (x.at + 1) test rs (omega arith) r.1))
  where
    by_test : (t : Bool) → filter (λ r. (at == r.at) || test r) rs ≡ filter test rs
        → (if t then x ∷ filter (λ r. (at == r.at) || test r) rs else filter (λ r. (at == r.at) || test r) rs) ≡ (if t then x ∷ filter test rs else filter test rs)
    by_test true i = ap (λ z. x ∷ z) i
    by_test false i = i

-- None passes the test that none does.
none_pass : (rs : List Framed) → filter (λ (r : Framed). false) rs ≡ []
none_pass [] = refl
none_pass (r ∷ rs) = none_pass rs

-- Among rising records, those at the offset of a chosen one are the chosen ones.
chosen : (flags : List Bool) (p : ℕ) (rs : List Framed) → Rising p rs → filter (λ r. list_any (λ e. e.at == r.at) (marked flags rs)) rs ≡ marked flags rs
chosen [] p rs r = none_pass rs
chosen (f ∷ flags) p [] r = refl
chosen (true ∷ flags) p (x ∷ rs) r =
    let e : (x.at == x.at) ≡ true = is_eq x.at x.at refl in
    rw e (ap (λ z. x ∷ z) (skip_before x.at (x.at + 1) (λ r. list_any (λ e. e.at == r.at) (marked flags rs)) rs (omega arith) r.1 ∙ chosen flags (x.at + 1) rs r.1))
chosen (false ∷ flags) p (x ∷ rs) r = rw (none_before flags rs (x.at + 1) x.at r.1 (omega arith)) (chosen flags (x.at + 1) rs r.1)

-- Rising records still rise from an earlier offset on, and if some are left out.
pub rising_more : (p q : ℕ) (rs : List Framed) → p ≤ q → Rising q rs → Rising p rs
rising_more p q [] h r = tt
rising_more p q (x ∷ rs) h r = let i : q ≤ x.at = r.0 in (omega arith, r.1)

pub rising_filter : (test : Framed → Bool) (p : ℕ) (rs : List Framed) → Rising p rs → Rising p (filter test rs)
rising_filter test p [] r = tt
rising_filter test p (x ∷ rs) r = by_test (test x) (rising_filter test (x.at + 1) rs r.1)
  where
    by_test : (t : Bool) → Rising (x.at + 1) (filter test rs) → Rising p (if t then x ∷ filter test rs else filter test rs)
    by_test true i = (r.0, i)
    by_test false i = let j : p ≤ x.at = r.0 in rising_more p (x.at + 1) (filter test rs) (omega arith) i

-- What a function makes of those chosen, and a test of what it makes.
marked_map : {X Y : Type 0} (f : X → Y) (flags : List Bool) (xs : List X) → map f (marked flags xs) ≡ marked flags (map f xs)
marked_map f [] xs = refl
marked_map f (m ∷ flags) [] = refl
marked_map f (true ∷ flags) (x ∷ xs) = ap (λ z. f x ∷ z) (marked_map f flags xs)
marked_map f (false ∷ flags) (x ∷ xs) = marked_map f flags xs

any_map : {X Y : Type 0} (f : X → Y) (test : Y → Bool) (xs : List X) → list_any (λ x. test (f x)) xs ≡ list_any test (map f xs)
any_map f test [] = refl
any_map f test (x ∷ xs) = ap (λ t. test (f x) || t) (any_map f test xs)

-- The events of records that have all their fields have these records.
pub records_of_events : (c : List ℕ) (k : Classes) (rs : List Framed) → AllByRecursion (IsRecord c) rs → AllByRecursion (HasFields c k) rs → records_of (filter_map (event_of c k) rs) ≡ rs
records_of_events c k [] a h = refl
records_of_events c k (r ∷ rs) a h =
    ap (λ o. records_of (cons_option (event_by r o) (filter_map (event_of c k) rs)))
    (reads_computed c (record_end r) a.0.within (value_format k (inline r.type_id)) r.body h.0.0 h.0.1 a.0.covers h.0.2)
    ∙ ap (λ z. r ∷ z) (records_of_events c k rs a.1 h.1)

-- Among the records of events, those at the offset of a chosen event are the records of the chosen events.
pub chosen_records : (flags : List Bool) (es : List EventAt) (rs : List Framed) (p : ℕ) → records_of es ≡ rs → Rising p rs → filter (is_kept (marked flags es)) rs ≡ records_of (marked flags es)
chosen_records flags es rs p e r =
    let m : records_of (marked flags es) ≡ marked flags rs = marked_map (λ (e : EventAt). e.record_of) flags es ∙ ap (marked flags) e in
    (λ i. filter (λ x. (any_map (λ (e : EventAt). e.record_of) (λ (y : Framed). y.at == x.at) (marked flags es) ∙ ap (list_any (λ (y : Framed). y.at == x.at)) m) i) rs)
    ∙ (chosen flags p rs r ∙ sym m)
