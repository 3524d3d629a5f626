-- Classes and keys without an entry, noted one after another.
use Rattle.std.specs.Prelude.{◌≡◌, ◌⊎◌, ◌<◌, ℕ, zero, suc, false, List, [], ◌∷◌, ◌++◌, length, map, filter, slice_get, Some, None, Option, Contains, Result, Ok, Err, IfOk, IfSome}
use Rattle.std.specs.List.{AllByRecursion}
use Rattle.std.specs.Option.{option_map_or}
use Rattle.std.specs.BTreeMap.{BTreeMap}
use Rattle.std.proofs.Common.{ap, refl, sym, ◌∙◌, subst, inl, inr, Bor}
use Rattle.std.proofs.lemmas.List.{map-append}
use Rattle.std.proofs.lemmas.List.Elements.{filter-append}
use Rattle.jfr_base.specs.declared.flaw.Flaw.{Flaw}
use Rattle.jfr_frame.specs.declared.framed.Framed.{Framed}
use Rattle.jfr_layout.specs.Classes.{Classes}
use Rattle.jfr_value.specs.Nodes.{node_at}
use Rattle.jfr_value.specs.Visits.{TakesAll}
use Rattle.jfr_pool.specs.declared.entry.EntryAt.{EntryAt}
use Rattle.jfr_pool.specs.Entries.{inline}
use Rattle.jfr_worklist.specs.Members.{In}
use Rattle.jfr_worklist.proofs.Members.{contains_in, in_contains, in_left, in_right, in_cases}
use Rattle.jfr_chunk.specs.declared.event_index.EventIndexEntry.{EventIndexEntry}
use Rattle.jfr_chunk.specs.declared.missing.MissingRef.{MissingRef}
use Rattle.jfr_chunk.specs.declared.missing.MissingRefs.{MissingRefs}
use Rattle.jfr_chunk.specs.declared.refs.ConstantRefs.{ConstantRefs}
use Rattle.jfr_chunk.specs.Refs.{TakesRefs}
use Rattle.jfr_chunk.specs.Missing.{AreMissing, AreNotedIn, IsNoted, Notes, is_missing, missing_by_event, node_missing, pair_of}
use Rattle.jfr_chunk.specs.Parts.{EventAt, Parts, events_of}
use Rattle.jfr_chunk.specs.Indexed.{indexed_event, indexed_missing}
use Rattle.jfr_chunk.proofs.EndLaws.{EndIs, same_event, this_event}

left_contains : {X : Type 0} (xs ys : List X) (x : X) → Contains xs x → Contains (xs ++ ys) x
left_contains xs ys x c = in_contains (xs ++ ys) x (in_left xs ys x (contains_in xs x c))

right_contains : {X : Type 0} (xs ys : List X) (x : X) → Contains ys x → Contains (xs ++ ys) x
right_contains xs ys x c = in_contains (xs ++ ys) x (in_right xs ys x (contains_in ys x c))

contains_cases : {X : Type 0} (xs ys : List X) (x : X) → Contains (xs ++ ys) x → Contains xs x ⊎ Contains ys x
contains_cases {X = X} xs ys x c = by_case (in_cases xs ys x (contains_in (xs ++ ys) x c))
  where
    by_case : In xs x ⊎ In ys x → Contains xs x ⊎ Contains ys x
    by_case (inl i) = inl (in_contains xs x i)
    by_case (inr i) = inr (in_contains ys x i)

contains_one : {X : Type 0} (x y : X) → Contains (x ∷ []) y → x ≡ y
contains_one {X = X} x y c = by_case (contains_in (x ∷ []) y c)
  where
    by_case : In (x ∷ []) y → x ≡ y
    by_case (inl e) = e
    by_case (inr i) = absurd i

-- No targets add nothing.
notes_none : (event : ℕ) (list : MissingRefs) → Notes [] event list list
notes_none event list = record { lacked_none = λ h. h; grows = λ h m c. c; added = λ h t c. absurd (contains_in [] t c); only = λ h m c. inl c }

notes_then : (ts us : List (ℕ × ℕ)) (event : ℕ) (a b c : MissingRefs) → Notes ts event a b → Notes us event b c → Notes (ts ++ us) event a c
notes_then ts us event a b c x y = record {
  lacked_none = λ h. x.lacked_none (y.lacked_none h);
  grows = λ h m i. y.grows h m (x.grows (y.lacked_none h) m i);
  added = λ h t i. added_by h t (contains_cases ts us t i);
  only = λ h m i. only_by h m (y.only h m i);
}
  where
    added_by : c.lacks ≡ false → (t : ℕ × ℕ) → Contains ts t ⊎ Contains us t → IsNoted c.refs.items t
    added_by h t (inl i) = let n = x.added (y.lacked_none h) t i in (n.0, y.grows h n.0 n.1, n.2)
    added_by h t (inr i) = y.added h t i

    first_by : (m : MissingRef) → Contains a.refs.items m ⊎ ((m.event ≡ event) × Contains ts (pair_of m)) → Contains a.refs.items m ⊎ ((m.event ≡ event) × Contains (ts ++ us) (pair_of m))
    first_by m (inl i) = inl i
    first_by m (inr i) = inr (i.0, left_contains ts us (pair_of m) i.1)

    only_by : c.lacks ≡ false → (m : MissingRef) → Contains b.refs.items m ⊎ ((m.event ≡ event) × Contains us (pair_of m))
        → Contains a.refs.items m ⊎ ((m.event ≡ event) × Contains (ts ++ us) (pair_of m))
    only_by h m (inl i) = first_by m (x.only (y.lacked_none h) m i)
    only_by h m (inr i) = inr (i.0, right_contains ts us (pair_of m) i.1)

-- Targets that are taken note those that have no entry.
takes_missing : (es : List EntryAt) (ts : List (ℕ × ℕ)) (old new : ConstantRefs) → TakesAll (λ t a b. TakesRefs es (t ∷ []) a b) ts old new
    → Notes (filter (is_missing es) ts) old.event old.missing new.missing
takes_missing es [] old new h = subst (λ (z : ConstantRefs). Notes [] old.event old.missing z.missing) h (notes_none old.event old.missing)
takes_missing es (t ∷ ts) old new h =
    let x = h.1 in
    let y : Notes (filter (is_missing es) ts) old.event h.0.missing new.missing =
    subst (λ z. Notes (filter (is_missing es) ts) z h.0.missing new.missing) x.same_event (takes_missing es ts h.0 new h.2) in
    subst (λ z. Notes z old.event old.missing new.missing) (sym (filter-append (is_missing es) (t ∷ []) ts))
    (notes_then (filter (is_missing es) (t ∷ [])) (filter (is_missing es) ts) old.event old.missing h.0.missing new.missing x.missing y)

-- What is noted of a value.
pub all_missing : (es : List EntryAt) (ts : ℕ → List (ℕ × ℕ)) (old new : ConstantRefs) (r : Result ℕ Flaw) → IfOk r (λ to. TakesAll (λ t a b. TakesRefs es (t ∷ []) a b) (ts to) old new)
    → IfOk r (λ to. Notes (filter (is_missing es) (ts to)) old.event old.missing new.missing)
all_missing es ts old new (Ok to) h = takes_missing es (ts to) old new h
all_missing es ts old new (Err flaw) h = h

-- One event more.
slice_get_left : {X : Type 0} (xs ys : List X) (n : ℕ) (x : X) → slice_get xs n ≡ Some x → slice_get (xs ++ ys) n ≡ Some x
slice_get_left [] ys n x e = cc
slice_get_left (z ∷ xs) ys zero x e = e
slice_get_left (z ∷ xs) ys (suc n) x e = slice_get_left xs ys n x e

slice_get_last : {X : Type 0} (xs : List X) (x : X) → slice_get (xs ++ x ∷ []) (length xs) ≡ Some x
slice_get_last [] x = refl
slice_get_last (z ∷ xs) x = slice_get_last xs x

noted_more : (events : List (List (ℕ × ℕ))) (ts : List (ℕ × ℕ)) (event : ℕ) (old new : MissingRefs) → event ≡ length events → AreNotedIn events old → Notes ts event old new
    → AreNotedIn (events ++ ts ∷ []) new
noted_more events ts event old new e a n = λ h. record {
  all = λ us c t d. all_by h t us d (contains_cases events (ts ∷ []) us c);
  only = λ m c. only_by h m (n.only h m c);
}
  where
    all_by : new.lacks ≡ false → (t : ℕ × ℕ) (us : List (ℕ × ℕ)) → Contains us t → Contains events us ⊎ Contains (ts ∷ []) us → IsNoted new.refs.items t
    all_by h t us d (inl c) = let i = (a (n.lacked_none h)).all us c t d in (i.0, n.grows h i.0 i.1, i.2)
    all_by h t us d (inr c) = n.added h t (subst (λ z. Contains z t) (sym (contains_one ts us c)) d)

    only_by : new.lacks ≡ false → (m : MissingRef) → Contains old.refs.items m ⊎ ((m.event ≡ event) × Contains ts (pair_of m))
        → (us : List (ℕ × ℕ)) × (slice_get (events ++ ts ∷ []) m.event ≡ Some us) × Contains us (pair_of m)
    only_by h m (inl c) = let i = (a (n.lacked_none h)).only m c in (i.0, slice_get_left events (ts ∷ []) m.event i.0 i.1, i.2)
    only_by h m (inr c) = (ts, ap (slice_get (events ++ ts ∷ [])) (c.0 ∙ e) ∙ slice_get_last events ts, c.1)

-- Nothing is noted of no events.
pub noted_none : (events : List (List (ℕ × ℕ))) (list : MissingRefs) → events ≡ [] → list.refs.items ≡ [] → AreNotedIn events list
noted_none events list e r = λ h. record {
  all = λ ts c t d. absurd (contains_in [] ts (subst (λ z. Contains z ts) e c));
  only = λ m c. absurd (contains_in [] m (subst (λ z. Contains z m) r c));
}

-- The fields of an event are read, and what they refer to without an entry is noted.
pub event_noted : (es : List EntryAt) (k : Classes) (c : List ℕ) (rs : List Framed) (early later : BTreeMap ℕ ℕ) (n end refs_end event : ℕ) (r : Framed) (fields : List EventIndexEntry) (old new : MissingRefs) → slice_get rs n ≡ Some r → EndIs early later n r end → AllByRecursion (λ (f : EventIndexEntry). f.record < n) fields
    → event ≡ length fields → Notes (node_missing es k c (node_at (inline r.type_id) r.body end)) event old new → AreNotedIn (map (indexed_missing es k c rs early) fields) old
    → AreNotedIn (map (indexed_missing es k c rs later) (fields ++ record { «record» = n; refs_end = refs_end } ∷ [])) new
event_noted es k c rs early later n end refs_end event r fields old new e i before x y a =
    subst (λ z. AreNotedIn z new) (sym lists) (noted_more (map (indexed_missing es k c rs early) fields) here event old new (x ∙ sym (lengths fields)) a y)
  where
    f : EventIndexEntry
    f = record { «record» = n; refs_end = refs_end }

    here : List (ℕ × ℕ)
    here = node_missing es k c (node_at (inline r.type_id) r.body end)

    lengths : (fs : List EventIndexEntry) → length (map (indexed_missing es k c rs early) fs) ≡ length fs
    lengths [] = refl
    lengths (g ∷ fs) = ap suc (lengths fs)

    refers : Option EventAt → List (ℕ × ℕ)
    refers o = option_map_or (λ (e : EventAt). node_missing es k c e.node) o []

    same : (fs : List EventIndexEntry) → AllByRecursion (λ (f : EventIndexEntry). f.record < n) fs → map (indexed_missing es k c rs later) fs ≡ map (indexed_missing es k c rs early) fs
    same [] b = refl
    same (g ∷ fs) b = λ j. ap refers (same_event rs early later n end r i g b.0) j ∷ same fs b.1 j

    lists : map (indexed_missing es k c rs later) (fields ++ f ∷ []) ≡ map (indexed_missing es k c rs early) fields ++ here ∷ []
    lists = map-append (indexed_missing es k c rs later) fields (f ∷ []) ∙ (λ j. same fields before j ++ ap refers (this_event rs early later n end r i f refl e) j ∷ [])

-- The lists of the entries of the index are those of the events.
pub missing_events : (p : Parts) (early : BTreeMap ℕ ℕ) (fs : List EventIndexEntry) → map (indexed_event p.records early) fs ≡ map Some (events_of p)
    → map (indexed_missing p.entries p.classes p.bytes p.records early) fs ≡ missing_by_event p
missing_events p early fs e = each fs (events_of p) e
  where
    refers : Option EventAt → List (ℕ × ℕ)
    refers o = option_map_or (λ (e : EventAt). node_missing p.entries p.classes p.bytes e.node) o []

    each : (fs : List EventIndexEntry) (xs : List EventAt) → map (indexed_event p.records early) fs ≡ map Some xs
        → map (indexed_missing p.entries p.classes p.bytes p.records early) fs ≡ map (λ (e : EventAt). node_missing p.entries p.classes p.bytes e.node) xs
    each [] [] e = refl
    each [] (x ∷ xs) e = cc
    each (f ∷ fs) [] e = cc
    each (f ∷ fs) (x ∷ xs) e =
        let h : indexed_event p.records early f ≡ Some x = cc in
        let t : map (indexed_event p.records early) fs ≡ map Some xs = cc in
        λ j. ap refers h j ∷ each fs xs t j

-- If all are noted, the list is that of the events.
pub all_noted : (p q : Parts) (early : BTreeMap ℕ ℕ) (fs : List EventIndexEntry) (list : MissingRefs) (o : Option (Bor (List MissingRef))) → p ≡ q
    → map (indexed_event p.records early) fs ≡ map Some (events_of p) → AreNotedIn (map (indexed_missing p.entries p.classes p.bytes p.records early) fs) list
    → IfSome o (λ refs. (refs.now ≡ list.refs.items) × (list.lacks ≡ false)) → IfSome o (λ refs. AreMissing (missing_by_event q) refs.now)
all_noted p q early fs list None e m a h = tt
all_noted p q early fs list (Some refs) e m a h =
    let n : AreMissing (missing_by_event p) list.refs.items = subst (λ z. AreMissing z list.refs.items) (missing_events p early fs m) (a h.1) in
    subst (λ z. AreMissing (missing_by_event q) z) (sym h.0) (subst (λ z. AreMissing (missing_by_event z) list.refs.items) e n)
