-- The events of a chunk are no more than its bytes, and their records have no more bytes.
use Rattle.std.specs.Prelude.{◌≡◌, ℕ, ◌+◌, ◌^◌, ◌<◌, ◌≤◌, ◌==◌, Bool, true, false, cond, List, [], ◌∷◌, filter, length, map, take, Option, None, Some, slice_get, sum_by, unwrap_or}
use Rattle.std.specs.List.{AllByRecursion, cons_option, filter_map}
use Rattle.std.specs.Str.{bytes_eq}
use Rattle.std.specs.FinMap as fin
use Rattle.std.proofs.Common.{ap, arith, refl, sym, subst, ◌∙◌}
use Rattle.std.proofs.lemmas.List.{length-take}
use Rattle.std.proofs.lemmas.List.Elements.{recursion_from_All}
use Rattle.std.proofs.lemmas.List.Sums.{get_or-le-sum_by, sum_by-cons, sum_by-take-le}
use Rattle.std.proofs.lemmas.Option.{get_or_from_slice_get, slice_get_within}
use Rattle.jfr_base.proofs.OneAnswer.{reads_computed}
use Rattle.jfr_layout.specs.Classes.{Classes, is_event_class}
use Rattle.jfr_frame.specs.declared.framed.Framed.{Framed}
use Rattle.jfr_frame.specs.Records.{AreRecords, IsRecord, Tiles, record_end}
use Rattle.jfr_frame.proofs.RecordLaws.{some_bytes}
use Rattle.jfr_value.specs.Reading.{value_format}
use Rattle.jfr_pool.specs.Entries.{inline}
use Rattle.jfr_chunk.specs.Parts.{AreParts, HasFields, Parts, event_by, event_of, event_records, events_of}
use Rattle.jfr_chunk.proofs.AllLaws.{filter_all}
use Rattle.jfr_chunk.proofs.HasNodesLaws.{tiles_each}
use Rattle.jfr_show.specs.declared.tally.Tally.{Tally}
use Rattle.jfr_show.specs.Counting.{AddsEvents, AreBelow, FitsUnder, added, both, no_tally}
use Rattle.jfr_show.specs.Totals.{Occurrence, Tallies, occurrence, occurrences, of_name, tally_of}

-- At most n records, of at most n bytes together.
pub record AreWithin (rs : List Framed) (n : ℕ) : Type 0 where
  pub count : length rs ≤ n
  pub bytes : sum_by (λ r. r.size) rs ≤ n

-- At most n events, of at most n bytes together.
pub record IsWithin (t : Tally) (n : ℕ) : Type 0 where
  pub events : t.events ≤ n
  pub bytes : t.bytes ≤ n

tiles_within : (c : List ℕ) (p q : ℕ) (rs : List Framed) → Tiles c p rs q → (p + length rs ≤ q) × (p + sum_by (λ r. r.size) rs ≤ q)
tiles_within c p q [] t = let e : p ≡ q = t in (omega arith, omega arith)
tiles_within c p q (r ∷ rs) t =
    let e : r.at ≡ p = t.0 in
    let b : r.at < r.at + r.size = some_bytes c r t.1 in
    let i = tiles_within c (record_end r) q rs t.2 in
    let n : r.at + r.size + length rs ≤ q = i.0 in
    let m : r.at + r.size + sum_by (λ (r : Framed). r.size) rs ≤ q = i.1 in
    let s : sum_by (λ (r : Framed). r.size) (r ∷ rs) ≡ r.size + sum_by (λ (r : Framed). r.size) rs = sum_by-cons (λ (r : Framed). r.size) r rs in
    (omega arith, omega arith)

pub records_within : (c : List ℕ) (rs : List Framed) → AreRecords c rs → AreWithin rs (length c)
records_within c rs t = let i = tiles_within c 68 (length c) rs t in record { count = omega (arith, i.0); bytes = omega (arith, i.1) }

-- Each of the records is as small.
pub record_within : (rs : List Framed) (n i : ℕ) (r : Framed) → AreWithin rs n → slice_get rs i ≡ Some r → r.size ≤ n
record_within rs n i r w g =
    let a : r.size ≤ sum_by (λ (r : Framed). r.size) rs =
    subst (λ (x : Framed). x.size ≤ sum_by (λ (r : Framed). r.size) rs) (get_or_from_slice_get rs i r r g) (get_or-le-sum_by (λ (r : Framed). r.size) rs i r (slice_get_within rs i r g)) in
    let b = w.bytes in
    omega arith

-- The first records.
pub front_within : (rs : List Framed) (n i : ℕ) → AreWithin rs n → AreWithin (take i rs) n
front_within rs n i w = let a = w.count in let b = w.bytes in let c = sum_by-take-le (λ (r : Framed). r.size) rs i in let d = length-take i rs in record { count = omega arith; bytes = omega arith }

-- Those records that pass a test, as events.
chosen_most : (k : Classes) (test : Framed → Bool) (rs : List Framed)
    → (length (map (occurrence k) (filter test rs)) ≤ length rs) × (sum_by (λ e. e.size) (map (occurrence k) (filter test rs)) ≤ sum_by (λ r. r.size) rs)
chosen_most k test [] = (omega arith, omega arith)
chosen_most k test (r ∷ rs) = by_test (test r) (chosen_most k test rs)
  where
    by_test : (b : Bool) → (length (map (occurrence k) (filter test rs)) ≤ length rs) × (sum_by (λ e. e.size) (map (occurrence k) (filter test rs)) ≤ sum_by (λ r. r.size) rs)
        → (length (map (occurrence k) (cond b (r ∷ filter test rs) (filter test rs))) ≤ length (r ∷ rs)) × (sum_by (λ e. e.size) (map (occurrence k) (cond b (r ∷ filter test rs) (filter test rs))) ≤ sum_by (λ r. r.size) (r ∷ rs))
    by_test true i =
        let n = i.0 in
        let m = i.1 in
        let s = sum_by-cons (λ (r : Framed). r.size) r rs in
        let t = sum_by-cons (λ (e : Occurrence). e.size) (occurrence k r) (map (occurrence k) (filter test rs)) in
        (omega arith, omega arith)
    by_test false i =
        let n = i.0 in
        let m = i.1 in
        let s = sum_by-cons (λ (r : Framed). r.size) r rs in
        (omega arith, omega arith)

pub chosen_within : (k : Classes) (test : Framed → Bool) (rs : List Framed) (n : ℕ) → AreWithin rs n → IsWithin (tally_of (map (occurrence k) (filter test rs))) n
chosen_within k test rs n w = let i = chosen_most k test rs in let a = i.0 in let b = i.1 in let c = w.count in let d = w.bytes in record { events = omega arith; bytes = omega arith }

-- Those of a name.
named_most : (q : List ℕ) (es : List Occurrence) → (length (of_name q es) ≤ length es) × (sum_by (λ e. e.size) (of_name q es) ≤ sum_by (λ e. e.size) es)
named_most q [] = (omega arith, omega arith)
named_most q (e ∷ es) = by_test (bytes_eq e.name q) (named_most q es)
  where
    by_test : (b : Bool) → (length (of_name q es) ≤ length es) × (sum_by (λ e. e.size) (of_name q es) ≤ sum_by (λ e. e.size) es)
        → (length (cond b (e ∷ of_name q es) (of_name q es)) ≤ length (e ∷ es)) × (sum_by (λ e. e.size) (cond b (e ∷ of_name q es) (of_name q es)) ≤ sum_by (λ e. e.size) (e ∷ es))
    by_test true i =
        let n = i.0 in
        let m = i.1 in
        let s = sum_by-cons (λ (e : Occurrence). e.size) e es in
        let t = sum_by-cons (λ (e : Occurrence). e.size) e (of_name q es) in
        (omega arith, omega arith)
    by_test false i =
        let n = i.0 in
        let m = i.1 in
        let s = sum_by-cons (λ (e : Occurrence). e.size) e es in
        (omega arith, omega arith)

named_within : (q : List ℕ) (es : List Occurrence) (n : ℕ) → IsWithin (tally_of es) n → IsWithin (tally_of (of_name q es)) n
named_within q es n w = let i = named_most q es in let a = i.0 in let b = i.1 in let c = w.events in let d = w.bytes in record { events = omega arith; bytes = omega arith }

-- What is added stays as far below as it adds.
added_within : (o : Option Tally) (s t : Tally) (most n : ℕ) → ((kept : Tally) → o ≡ Some kept → (kept.events ≤ most) × (kept.bytes ≤ most)) → IsWithin s n → added o s ≡ Some t
    → (t.events ≤ most + n) × (t.bytes ≤ most + n)
added_within o s t most n h w e = by_events (s.events == 0) o h e
  where
    by_kept : (o : Option Tally) → ((kept : Tally) → o ≡ Some kept → (kept.events ≤ most) × (kept.bytes ≤ most)) → both (unwrap_or o no_tally) s ≡ t → (t.events ≤ most + n) × (t.bytes ≤ most + n)
    by_kept None h e =
        let a : s.events ≡ t.events = ap (λ (z : Tally). z.events) (sym (none_less s) ∙ e) in
        let b : s.bytes ≡ t.bytes = ap (λ (z : Tally). z.bytes) (sym (none_less s) ∙ e) in
        let c = w.events in
        let d = w.bytes in
        (omega arith, omega arith)
      where
        none_less : (s : Tally) → both no_tally s ≡ s
        none_less s = λ i. record { events = (let p : 0 + s.events ≡ s.events = omega arith in p i); bytes = (let p : 0 + s.bytes ≡ s.bytes = omega arith in p i) }
    by_kept (Some kept) h e =
        let a : kept.events + s.events ≡ t.events = ap (λ (z : Tally). z.events) e in
        let b : kept.bytes + s.bytes ≡ t.bytes = ap (λ (z : Tally). z.bytes) e in
        let k = h kept refl in
        let f = k.0 in
        let g = k.1 in
        let c = w.events in
        let d = w.bytes in
        (omega arith, omega arith)

    by_events : (b : Bool) (o : Option Tally) → ((kept : Tally) → o ≡ Some kept → (kept.events ≤ most) × (kept.bytes ≤ most)) → cond b o (Some (both (unwrap_or o no_tally) s)) ≡ Some t
        → (t.events ≤ most + n) × (t.bytes ≤ most + n)
    by_events true o h e = let k = h t e in let f = k.0 in let g = k.1 in (omega arith, omega arith)
    by_events false o h e = by_kept o h (ap (λ z. unwrap_or z t) e)

pub events_below : (old now : Tallies) (es : List Occurrence) (most n : ℕ) → AddsEvents old es now → IsWithin (tally_of es) n → AreBelow most old → AreBelow (most + n) now
events_below old now es most n a w b = record { each = λ q t e. added_within (fin.get old q) (tally_of (of_name q es)) t most n (b.each q) (named_within q es n w) (sym (a.each q) ∙ e) }

-- A tally that is small fits under each name.
pub below_fits : (m : Tallies) (q : List ℕ) (t : Tally) (most n : ℕ) → AreBelow most m → IsWithin t n → most + n < 2 ^ 64 → FitsUnder m q t
below_fits m q t most n b w h = record { each = λ kept e. (let k = b.each q kept e in let f = k.0 in let g = k.1 in let c = w.events in let d = w.bytes in (omega arith, omega arith)) }

-- The events of a chunk are its records of event classes.
named_events : (c : List ℕ) (k : Classes) (rs : List Framed) → AllByRecursion (IsRecord c) rs → AllByRecursion (HasFields c k) rs
    → map (λ e. occurrence k e.record_of) (filter_map (event_of c k) rs) ≡ map (occurrence k) rs
named_events c k [] a h = refl
named_events c k (r ∷ rs) a h =
    ap (λ z. map (λ e. occurrence k e.record_of) (cons_option (event_by r z) (filter_map (event_of c k) rs)))
    (reads_computed c (record_end r) a.0.within (value_format k (inline r.type_id)) r.body h.0.0 h.0.1 a.0.covers h.0.2)
    ∙ ap (λ es. occurrence k r ∷ es) (named_events c k rs a.1 h.1)

pub occurrences_are : (p : Parts) → AreParts p → occurrences p ≡ map (occurrence p.classes) (event_records p.classes p.records)
unfolding events_of
occurrences_are p a =
    let rs = event_records p.classes p.records in
    named_events p.bytes p.classes rs (filter_all (IsRecord p.bytes) (λ r. is_event_class p.classes r.type_id) p.records (tiles_each p.bytes 68 (length p.bytes) p.records a.records))
    (recursion_from_All (HasFields p.bytes p.classes) rs a.events)
