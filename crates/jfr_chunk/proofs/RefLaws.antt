-- Numbers that are collected one after another, and those of one event among them.
use Rattle.std.specs.Prelude.{◌≡◌, ℕ, zero, suc, ◌+◌, ◌-◌, ◌<◌, ◌≤◌, ◌⊎◌, List, [], ◌∷◌, ◌++◌, length, take, drop, slice_get, slice_range, Option, Some, None, option_map, Result, Ok, Err, IfOk, MatchOption}
use Rattle.std.specs.Option.{option_map_or}
use Rattle.std.specs.List.{AllByRecursion}
use Rattle.std.specs.BTreeMap.{BTreeMap}
use Rattle.std.proofs.Common.{ap, arith, refl, sym, ◌∙◌, subst, append_assoc, inl, inr, Bor}
use Rattle.std.proofs.Math.Seq.{drop-append_seam, take-append_seam}
use Rattle.std.proofs.lemmas.List.{append-nil, length-append}
use Rattle.jfr_base.specs.declared.flaw.Flaw.{Flaw}
use Rattle.jfr_frame.specs.declared.framed.Framed.{Framed}
use Rattle.jfr_value.specs.Nodes.{NodeAt, node_at}
use Rattle.jfr_value.specs.Visits.{TakesAll}
use Rattle.jfr_pool.specs.declared.entry.EntryAt.{EntryAt}
use Rattle.jfr_pool.specs.Entries.{inline, number_in_force}
use Rattle.jfr_chunk.specs.declared.event_index.EventIndexEntry.{EventIndexEntry}
use Rattle.jfr_chunk.specs.declared.refs.ConstantRefs.{ConstantRefs}
use Rattle.jfr_chunk.specs.Refs.{AddsRefs, TakesRefs}
use Rattle.jfr_chunk.specs.Parts.{EventAt}
use Rattle.jfr_worklist.specs.Marks.{those}
use Rattle.jfr_chunk.specs.Indexed.{AreRefs, indexed_event}
use Rattle.jfr_chunk.proofs.EndLaws.{EndIs, same_event, this_event}
use Rattle.jfr_chunk.proofs.RootLaws.{takes_those}

refs_none : (a : ConstantRefs) → AddsRefs [] a a
refs_none a = record { lacked_none = λ h. h; appended = λ h. sym (append-nil a.numbers.items); few = omega arith }

refs_then : (xs ys : List ℕ) (a b c : ConstantRefs) → AddsRefs xs a b → AddsRefs ys b c → AddsRefs (xs ++ ys) a c
refs_then xs ys a b c p q = record {
  lacked_none = λ h. p.lacked_none (q.lacked_none h);
  appended = λ h. q.appended h ∙ (ap (λ z. z ++ ys) (p.appended (q.lacked_none h)) ∙ append_assoc a.numbers.items xs ys);
  few = let l = length-append xs ys in let m = p.few in let n = q.few in omega arith;
}

-- Targets that are taken note the numbers of their entries.
takes_refs : (es : List EntryAt) (ts : List (ℕ × ℕ)) (old new : ConstantRefs) → TakesAll (λ t a b. TakesRefs es (t ∷ []) a b) ts old new → AddsRefs (those (number_in_force es) ts) old new
takes_refs es ts old new h = takes_those AddsRefs refs_none refs_then (number_in_force es) ts old new (numbers ts old new h)
  where
    numbers : (ts : List (ℕ × ℕ)) (a b : ConstantRefs) → TakesAll (λ t a b. TakesRefs es (t ∷ []) a b) ts a b → TakesAll (λ t a b. AddsRefs (those (number_in_force es) (t ∷ [])) a b) ts a b
    numbers [] a b h = h
    numbers (t ∷ ts) a b h = let x = h.1 in (h.0, x.numbers, numbers ts h.0 b h.2)

module _ {X : Type 0} (listed : EventIndexEntry → List X) where
  -- One event more.
  pub refs_more : (from : ℕ) (fs : List EventIndexEntry) (all : List X) (f : EventIndexEntry) → AreRefs listed from fs all → f.refs_end ≡ from + length (all ++ listed f)
      → AreRefs listed from (fs ++ f ∷ []) (all ++ listed f)
  refs_more from [] all f a e = ([], ap (λ z. z ++ listed f) a ∙ sym (append-nil (listed f)), e ∙ ap (λ z. from + length (z ++ listed f)) a, refl)
  refs_more from (g ∷ fs) all f a e =
      let rest : List X = a.0 in
      let p : all ++ listed f ≡ listed g ++ (rest ++ listed f) = ap (λ z. z ++ listed f) a.1 ∙ append_assoc (listed g) rest (listed f) in
      let l : length (all ++ listed f) ≡ length (listed g) + length (rest ++ listed f) = ap length p ∙ length-append (listed g) (rest ++ listed f) in
      let h : g.refs_end ≡ from + length (listed g) = a.2 in
      (rest ++ listed f, p, a.2, refs_more g.refs_end fs rest f a.3 (omega arith))

  -- What is listed for one event, after what is listed for the events before.
  record RefsAt (from : ℕ) (all : List X) (f : EventIndexEntry) (start : ℕ) : Type 0 where
    before : List X
    after : List X
    parts : all ≡ before ++ (listed f ++ after)
    starts : start ≡ from + length before
    ends : f.refs_end ≡ from + length before + length (listed f)

  refs_at : (from : ℕ) (fs : List EventIndexEntry) (all : List X) (n : ℕ) (f : EventIndexEntry) (start : ℕ) → AreRefs listed from fs all → slice_get fs n ≡ Some f
      → (n ≡ 0 → start ≡ from) → ((before : ℕ) → n ≡ before + 1 → Some start ≡ option_map (λ (f : EventIndexEntry). f.refs_end) (slice_get fs before)) → RefsAt from all f start
  refs_at from [] all n f start a e first later = cc
  refs_at from (g ∷ fs) all zero f start a e first later =
      let h : g ≡ f = cc in
      let s : start ≡ from = first refl in
      let l : g.refs_end ≡ from + length (listed g) = a.2 in
      let x : RefsAt from all g start = record { before = []; after = a.0; parts = a.1; starts = omega arith; ends = omega arith } in
      subst (λ (z : EventIndexEntry). RefsAt from all z start) h x
  refs_at from (g ∷ fs) all (suc n) f start a e first later =
      let i = refs_at g.refs_end fs a.0 n f start a.3 e (λ z. (let q : Some start ≡ Some g.refs_end = later 0 (omega arith) in cc)) (λ before z. later (suc before) (omega arith)) in
      let l : g.refs_end ≡ from + length (listed g) = a.2 in
      let k = length-append (listed g) i.before in
      let s = i.starts in
      let t = i.ends in
      record {
        before = listed g ++ i.before;
        after = i.after;
        parts = a.1 ∙ (ap (λ z. listed g ++ z) i.parts ∙ sym (append_assoc (listed g) i.before (listed f ++ i.after)));
        starts = omega arith;
        ends = omega arith;
      }

  -- It is between the end of the range before and the end of the event's own.
  pub record RefsRange (all : List X) (f : EventIndexEntry) (start : ℕ) : Type 0 where
    pub order : start ≤ f.refs_end
    pub within : f.refs_end ≤ length all
    pub range : slice_range all start f.refs_end ≡ listed f

  pub refs_range : (fs : List EventIndexEntry) (all : List X) (n : ℕ) (f : EventIndexEntry) (start : ℕ) → AreRefs listed 0 fs all → slice_get fs n ≡ Some f
      → (n ≡ 0 → start ≡ 0) → ((before : ℕ) → n ≡ before + 1 → Some start ≡ option_map (λ (f : EventIndexEntry). f.refs_end) (slice_get fs before)) → RefsRange all f start
  refs_range fs all n f start a e first later =
      let i = refs_at 0 fs all n f start a e first later in
      let k = length-append i.before (listed f ++ i.after) in
      let l = length-append (listed f) i.after in
      let m = ap length i.parts in
      let s = i.starts in
      let t = i.ends in
      let p : start ≡ length i.before = omega arith in
      let q : f.refs_end ≡ length i.before + length (listed f) = omega arith in
      record {
        order = omega arith;
        within = omega arith;
        range = ap (λ z. slice_range z start f.refs_end) i.parts
            ∙ (ap (λ z. slice_range (i.before ++ (listed f ++ i.after)) z f.refs_end) p
            ∙ (ap (λ z. slice_range (i.before ++ (listed f ++ i.after)) (length i.before) z) q ∙ range_within i.before (listed f) i.after));
      }
    where
      range_within : (xs ys zs : List X) → slice_range (xs ++ (ys ++ zs)) (length xs) (length xs + length ys) ≡ ys
      range_within xs ys zs =
          let n : length xs + length ys - length xs ≡ length ys = omega arith in
          ap (λ m. take m (drop (length xs) (xs ++ (ys ++ zs)))) n ∙ (ap (take (length ys)) (drop-append_seam xs (ys ++ zs)) ∙ take-append_seam ys zs)

-- A range that is within a slice is got.
pub range_got : {X : Type 0} (o : Option (Bor (List X))) (xs : List X) (a b : ℕ) → MatchOption o ((b < a) ⊎ (length xs < b)) (λ x. (a ≤ b) × (b ≤ length xs) × (x.now ≡ slice_range xs a b) × (length x.now + a ≡ b))
    → a ≤ b → b ≤ length xs → option_map (λ s. s.now) o ≡ Some (slice_range xs a b)
range_got None xs a b (inl h) order within = absurd (omega arith)
range_got None xs a b (inr h) order within = absurd (omega arith)
range_got (Some x) xs a b h order within = ap (λ z. Some z) h.2

-- The numbers that are noted of a value.
pub all_refs : (es : List EntryAt) (ts : ℕ → List (ℕ × ℕ)) (old new : ConstantRefs) (r : Result ℕ Flaw) → IfOk r (λ to. TakesAll (λ t a b. TakesRefs es (t ∷ []) a b) (ts to) old new)
    → IfOk r (λ to. AddsRefs (those (number_in_force es) (ts to)) old new)
all_refs es ts old new (Ok to) h = takes_refs es (ts to) old new h
all_refs es ts old new (Err flaw) h = h

-- What is listed in the same way by another count is the same.
listed_same : {X : Type 0} (listed other : EventIndexEntry → List X) (P : EventIndexEntry → Type 0) → ((f : EventIndexEntry) → P f → other f ≡ listed f)
    → (from : ℕ) (fs : List EventIndexEntry) (all : List X) → AllByRecursion P fs → AreRefs listed from fs all → AreRefs other from fs all
listed_same listed other P same from [] all p a = a
listed_same listed other P same from (f ∷ fs) all p a =
    let e = sym (same f p.0) in
    (a.0, a.1 ∙ ap (λ z. z ++ a.0) e, a.2 ∙ ap (λ z. from + length z) e, listed_same listed other P same f.refs_end fs a.0 p.1 a.3)

-- The fields of an event are read, and what is listed for its node is added.
pub event_refs : {X : Type 0} (of : NodeAt → List X) (rs : List Framed) (early later : BTreeMap ℕ ℕ) (n end refs_end : ℕ) (r : Framed)
    (fields : List EventIndexEntry) (all more : List X) → slice_get rs n ≡ Some r → EndIs early later n r end → AllByRecursion (λ (f : EventIndexEntry). f.record < n) fields
    → more ≡ all ++ of (node_at (inline r.type_id) r.body end) → refs_end ≡ length more
    → AreRefs (λ f. option_map_or (λ (e : EventAt). of e.node) (indexed_event rs early f) []) 0 fields all
    → AreRefs (λ f. option_map_or (λ (e : EventAt). of e.node) (indexed_event rs later f) []) 0 (fields ++ record { «record» = n; refs_end = refs_end } ∷ []) more
event_refs {X = X} of rs early later n end refs_end r fields all more e i before x y a =
    subst (AreRefs (listed later) 0 (fields ++ f ∷ [])) (sym m) (refs_more (listed later) 0 fields all f b l)
  where
    f : EventIndexEntry
    f = record { «record» = n; refs_end = refs_end }

    refers : Option EventAt → List X
    refers o = option_map_or (λ (e : EventAt). of e.node) o []

    listed : BTreeMap ℕ ℕ → EventIndexEntry → List X
    listed ends f = refers (indexed_event rs ends f)

    b : AreRefs (listed later) 0 fields all
    b = listed_same (listed early) (listed later) (λ (f : EventIndexEntry). f.record < n) (λ f h. ap refers (same_event rs early later n end r i f h)) 0 fields all before a

    m : more ≡ all ++ listed later f
    m = x ∙ ap (λ z. all ++ z) (sym (ap refers (this_event rs early later n end r i f refl e)))

    l : refs_end ≡ 0 + length (all ++ listed later f)
    l = let l = ap length m in omega arith
