-- Runs of events.
use Rattle.std.specs.Prelude.{◌≡◌, ◌↔◌, ℕ, zero, suc, ◌+◌, ◌*◌, ◌^◌, ◌<◌, ◌≤◌, Bool, true, false, ◌==◌, ◌&&◌, List, [], ◌∷◌, length, drop, slice_get, Option, Some, None, Ok, Err, option_map, unwrap_or, cond, if◌then◌else◌, IsTrue}
use Rattle.std.specs.List.{cons_option, filter_map}
use Rattle.std.specs.Option.{option_map_or}
use Rattle.std.proofs.Common.{ap, arith, refl, sym, ◌∙◌, subst}
use Rattle.std.proofs.lemmas.Bool.Decides.{nat_tests}
use Rattle.std.proofs.lemmas.Option.{slice_get_within}
use Rattle.jfr_base.specs.Formats.{Answer, run}
use Rattle.jfr_layout.specs.Classes.{is_event_class}
use Rattle.jfr_frame.specs.declared.framed.Framed.{Framed}
use Rattle.jfr_frame.specs.Records.{Rising, Tiles, record_end}
use Rattle.jfr_frame.proofs.RecordLaws.{rising_of, some_bytes}
use Rattle.jfr_value.specs.Values.{Value}
use Rattle.jfr_value.specs.Reading.{value_format}
use Rattle.jfr_pool.specs.Entries.{inline}
use Rattle.jfr_chunk.specs.Parts.{Parts, EventAt, AreParts, event_by, event_of, events_of}
use Rattle.jfr_chunk.proofs.CountLaws.{whole_small}
use Rattle.jfr_output.specs.declared.remaining_records.RecordCursor.{RecordCursor}
use Rattle.jfr_output.specs.RemainingRecords.{IsCursor, event_after, is_kept_at}
use Rattle.jfr_output.proofs.CursorLaws.{drop_at, event_in, event_place, event_stands, events_given, rising_at}
use Rattle.jfr_output.proofs.OutputRecordLaws.{Rises, Stands, at_head, rises_given}
use Rattle.jfr_scrub.specs.Runs.{HasEventAt, HasRoom, IsAtEvents, is_in_run}
use Rattle.jfr_scrub.specs.Scrubbing.{IsAccepted}

rises_get : {X : Type 0} (place : X → ℕ) (p : ℕ) (xs : List X) (k : ℕ) (x : X) → Rises place p xs → slice_get xs k ≡ Some x → p ≤ place x
rises_get place p [] k x a g = cc
rises_get place p (y ∷ xs) zero x a g = let h : y ≡ x = cc in subst (λ z. p ≤ place z) h a.0
rises_get place p (y ∷ xs) (suc k) x a g = let i : place y + 1 ≤ place x = rises_get place (place y + 1) xs k x a.1 g in let j : p ≤ place y = a.0 in omega arith

-- What a function gives comes after the records with lower numbers.
given_later : {X : Type 0} (place : X → ℕ) (f : Framed → Option X) → Stands place f → (p : ℕ) (rs : List Framed) (i k : ℕ) (r : Framed) (x : X) → Rising p rs → i < k
    → slice_get (filter_map f rs) k ≡ Some x → slice_get rs i ≡ Some r → r.at < place x
given_later place f s p [] i k r x a l g h = cc
given_later place f s p (q ∷ rs) i zero r x a l g h = absurd (omega (arith, l))
given_later {X = X} place f s p (q ∷ rs) zero (suc k) r x a l g h = by_value (f q) g
  where
    past : (n : ℕ) → slice_get (filter_map f rs) n ≡ Some x → r.at < place x
    past n g =
        let i : q.at + 1 ≤ place x = rises_get place (q.at + 1) (filter_map f rs) n x (rises_given place f s (q.at + 1) rs a.1) g in
        let j : q ≡ r = cc in
        subst (λ (z : Framed). z.at < place x) j (omega arith)

    by_value : (o : Option X) → slice_get (cons_option o (filter_map f rs)) (suc k) ≡ Some x → r.at < place x
    by_value None g = past (suc k) g
    by_value (Some y) g = past k g
given_later {X = X} place f s p (q ∷ rs) (suc i) (suc k) r x a l g h =
    by_value (f q) g (λ g. given_later place f s (q.at + 1) rs i (suc k) r x a.1 (omega (arith, l)) g h) (λ g. given_later place f s (q.at + 1) rs i k r x a.1 (omega (arith, l)) g h)
  where
    by_value : (o : Option X) → slice_get (cons_option o (filter_map f rs)) (suc k) ≡ Some x → (slice_get (filter_map f rs) (suc k) ≡ Some x → r.at < place x)
        → (slice_get (filter_map f rs) k ≡ Some x → r.at < place x) → r.at < place x
    by_value None g u v = u g
    by_value (Some y) g u v = v g

-- If one of them is at the record with its own number, the first record has one.
given_first : {X : Type 0} (place : X → ℕ) (f : Framed → Option X) → Stands place f → (p : ℕ) (q : Framed) (rs : List Framed) (k : ℕ) (r : Framed) (x : X) → Rising p (q ∷ rs)
    → slice_get (filter_map f (q ∷ rs)) k ≡ Some x → slice_get (q ∷ rs) k ≡ Some r → place x ≡ r.at → (y : X) × (f q ≡ Some y)
given_first {X = X} place f s p q rs k r x a g h e = by_value (f q) refl g
  where
    none_first : (k : ℕ) → slice_get (filter_map f rs) k ≡ Some x → slice_get (q ∷ rs) k ≡ Some r → ⊥
    none_first zero g h =
        let i : q.at + 1 ≤ place x = rises_get place (q.at + 1) (filter_map f rs) 0 x (rises_given place f s (q.at + 1) rs a.1) g in
        let j : q ≡ r = cc in
        omega (arith, ap (λ (z : Framed). z.at) j, e)
    none_first (suc k) g h = let i : r.at < place x = given_later place f s (q.at + 1) rs k (suc k) r x a.1 (omega arith) g h in omega (arith, e)

    by_value : (o : Option X) → f q ≡ o → slice_get (cons_option o (filter_map f rs)) k ≡ Some x → (y : X) × (f q ≡ Some y)
    by_value None t g = absurd (none_first k g h)
    by_value (Some y) t g = (y, t)

-- The record with a number has the value of the function with this number.
record Given {X : Type 0} (f : Framed → Option X) (rs : List Framed) (i : ℕ) : Type 0 where
  framed : Framed
  value : X
  record_there : slice_get rs i ≡ Some framed
  value_there : slice_get (filter_map f rs) i ≡ Some value
  given : f framed ≡ Some value

-- And all records up to that one have theirs.
given_each : {X : Type 0} (place : X → ℕ) (f : Framed → Option X) → Stands place f → (p : ℕ) (rs : List Framed) (k : ℕ) (r : Framed) (x : X) → Rising p rs → slice_get (filter_map f rs) k ≡ Some x
    → slice_get rs k ≡ Some r → place x ≡ r.at → (i : ℕ) → i ≤ k → Given f rs i
given_each place f s p [] k r x a g h e i l = cc
given_each place f s p (q ∷ rs) k r x a g h e zero l =
    let y = given_first place f s p q rs k r x a g h e in
    record { framed = q; value = y.0; record_there = refl; value_there = ap (λ o. slice_get (cons_option o (filter_map f rs)) 0) y.1; given = y.1 }
given_each place f s p (q ∷ rs) zero r x a g h e (suc i) l = absurd (omega (arith, l))
given_each place f s p (q ∷ rs) (suc k) r x a g h e (suc i) l =
    let y = given_first place f s p q rs (suc k) r x a g h e in
    let t : slice_get (filter_map f rs) k ≡ Some x = sym (ap (λ o. slice_get (cons_option o (filter_map f rs)) (suc k)) y.1) ∙ g in
    let n = given_each place f s (q.at + 1) rs k r x a.1 t h e i (omega (arith, l)) in
    record { framed = n.framed; value = n.value; record_there = n.record_there; value_there = ap (λ o. slice_get (cons_option o (filter_map f rs)) (suc i)) y.1 ∙ n.value_there; given = n.given }

get_after : {X : Type 0} (xs : List X) (n k : ℕ) → slice_get (drop n xs) k ≡ slice_get xs (n + k)
get_after xs zero k = let e : k ≡ 0 + k = omega arith in ap (slice_get xs) e
get_after [] (suc n) k = refl
get_after (x ∷ xs) (suc n) k = let e : suc (n + k) ≡ suc n + k = omega arith in get_after xs n k ∙ ap (slice_get (x ∷ xs)) e

rising_behind : (p : ℕ) (rs : List Framed) (n : ℕ) → Rising p rs → Rising p (drop n rs)
rising_behind p rs zero a = a
rising_behind p [] (suc n) a = tt
rising_behind p (r ∷ rs) (suc n) a = less p (r.at + 1) (drop n rs) (omega (arith, a.0)) (rising_behind (r.at + 1) rs n a.1)
  where
    less : (p q : ℕ) (ss : List Framed) → p ≤ q → Rising q ss → Rising p ss
    less p q [] h a = tt
    less p q (s ∷ ss) h a = (let i : q ≤ s.at = a.0 in omega arith, a.1)

-- The event of a record has that record.
pub event_recorded : (p : Parts) (r : Framed) (e : EventAt) → event_in p r ≡ Some e → (e.record_of ≡ r) × (is_event_class p.classes r.type_id ≡ true)
event_recorded p r e h = by_test (is_event_class p.classes r.type_id) h
  where
    by_answer : (a : Answer Value) → event_by r a ≡ Some e → e.record_of ≡ r
    by_answer (Ok g) q = sym (ap (λ o. cond_record o) q)
      where
        cond_record : Option EventAt → Framed
        cond_record None = r
        cond_record (Some x) = x.record_of
    by_answer (Err f) q = cc

    by_test : (b : Bool) → cond b (event_of p.bytes p.classes r) None ≡ Some e → (e.record_of ≡ r) × (b ≡ true)
    by_test true q = (by_answer (run (value_format p.classes (inline r.type_id)) p.bytes (record_end r) r.body) q, refl)
    by_test false q = cc

-- Where a record is the event of the same number from the cursor on, so are those before it.
pub events_before : (p : Parts) (c : RecordCursor) → IsAtEvents p c → (k : ℕ) → HasEventAt p c k → (i : ℕ) → i ≤ k → HasEventAt p c i
events_before p c a k h i l =
    let e : drop c.event (events_of p) ≡ filter_map (event_in p) (drop c.frame p.records) = a.events ∙ events_given p (drop c.frame p.records) in
    let rs = drop c.frame p.records in
    let up : Rising 0 rs = rising_behind 0 p.records c.frame (rising_of p.bytes 0 68 (length p.bytes) p.records (omega arith) a.accepted.parts.records) in
    let g : slice_get (filter_map (event_in p) rs) k ≡ Some h.event = sym (ap (λ z. slice_get z k) e) ∙ (get_after (events_of p) c.event k ∙ h.there) in
    let n = given_each event_place (event_in p) (event_stands p) 0 rs k h.event.record_of h.event up g (get_after p.records c.frame k ∙ h.framed) refl i l in
    record {
      event = n.value;
      there = sym (get_after (events_of p) c.event i) ∙ (ap (λ z. slice_get z i) e ∙ n.value_there);
      framed = sym (get_after p.records c.frame i) ∙ (n.record_there ∙ ap (λ z. Some z) (sym ((event_recorded p n.framed n.value n.given).0)));
    }

behind_first : (p : ℕ) (s : Framed) (rs : List Framed) (j : ℕ) (r : Framed) → Rising p (s ∷ rs) → s ≡ r → slice_get rs j ≡ Some r → ⊥
behind_first p s rs j r a e f = let i : s.at + 1 ≤ r.at = rises_get (λ (z : Framed). z.at) (s.at + 1) rs j r (each (s.at + 1) rs a.1) f in omega (arith, ap (λ (z : Framed). z.at) e)
  where
    each : (n : ℕ) (ss : List Framed) → Rising n ss → Rises (λ (z : Framed). z.at) n ss
    each n [] b = tt
    each n (t ∷ ss) b = (b.0, each (t.at + 1) ss b.1)

-- One number leads to a record.
rising_one : (p : ℕ) (rs : List Framed) (i j : ℕ) (r : Framed) → Rising p rs → slice_get rs i ≡ Some r → slice_get rs j ≡ Some r → i ≡ j
rising_one p [] i j r a e f = cc
rising_one p (s ∷ rs) zero zero r a e f = refl
rising_one p (s ∷ rs) zero (suc j) r a e f = let h : s ≡ r = cc in absurd (behind_first p s rs j r a h f)
rising_one p (s ∷ rs) (suc i) zero r a e f = let h : s ≡ r = cc in absurd (behind_first p s rs i r a h e)
rising_one p (s ∷ rs) (suc i) (suc j) r a e f = ap suc (rising_one (s.at + 1) rs i j r a.1 e f)

-- What is computed at an offset.
pub tells_event : (p : Parts) (c : RecordCursor) (offset number : ℕ) → AreParts p
    → option_map (slice_get p.records) (Some number) ≡ option_map (λ (e : EventAt). Some e.record_of) (slice_get (events_of p) (c.event + offset))
    → IsTrue (number == c.frame + offset) ↔ HasEventAt p c offset
tells_event p c offset number a e = (by_true, by_event)
  where
    at_number : (x : EventAt) → slice_get (events_of p) (c.event + offset) ≡ Some x → slice_get p.records number ≡ Some x.record_of
    at_number x t = let g : Some (slice_get p.records number) ≡ Some (Some x.record_of) = e ∙ ap (option_map (λ (e : EventAt). Some e.record_of)) t in cc

    by_true : IsTrue (number == c.frame + offset) → HasEventAt p c offset
    by_true t = by_value (slice_get (events_of p) (c.event + offset)) refl e
      where
        n : number ≡ c.frame + offset
        n = grind (arith, nat_tests, t)

        by_value : (o : Option EventAt) → slice_get (events_of p) (c.event + offset) ≡ o → Some (slice_get p.records number) ≡ option_map (λ (e : EventAt). Some e.record_of) o → HasEventAt p c offset
        by_value None q g = cc
        by_value (Some x) q g = record { event = x; there = q; framed = ap (slice_get p.records) (sym n) ∙ at_number x q }

    by_event : HasEventAt p c offset → IsTrue (number == c.frame + offset)
    by_event h =
        let n : number ≡ c.frame + offset = rising_one 0 p.records number (c.frame + offset) h.event.record_of (rising_of p.bytes 0 68 (length p.bytes) p.records (omega arith) a.records)
        (at_number h.event h.there) h.framed in
        grind (arith, nat_tests)

pub tells_none : (p : Parts) (c : RecordCursor) (offset : ℕ) → None ≡ option_map (λ (e : EventAt). Some e.record_of) (slice_get (events_of p) (c.event + offset)) → IsTrue false ↔ HasEventAt p c offset
tells_none p c offset e = ((λ t. cc), (λ h. (let g : None ≡ Some (Some h.event.record_of) = e ∙ ap (option_map (λ (e : EventAt). Some e.record_of)) h.there in cc)))

-- There are no more records than bytes, and no more events than records.
few_records : (c : List ℕ) (p q : ℕ) (rs : List Framed) → Tiles c p rs q → p + length rs ≤ q
few_records c p q [] t = let e : p ≡ q = t in omega arith
few_records c p q (r ∷ rs) t = let e : r.at ≡ p = t.0 in let b = some_bytes c r t.1 in let i = few_records c (record_end r) q rs t.2 in omega arith

few_given : (f : Framed → Option EventAt) (rs : List Framed) → length (filter_map f rs) ≤ length rs
few_given f [] = omega arith
few_given f (r ∷ rs) = by_value (f r) (few_given f rs)
  where
    by_value : (o : Option EventAt) → length (filter_map f rs) ≤ length rs → length (cons_option o (filter_map f rs)) ≤ suc (length rs)
    by_value None h = omega arith
    by_value (Some e) h = omega arith

few_events : (p : Parts) → length (events_of p) ≤ length p.records
unfolding events_of
few_events p = subst (λ es. length es ≤ length p.records) (sym (events_given p p.records)) (few_given (event_in p) p.records)

pub counts_small : (p : Parts) → IsAccepted p → (length p.records < 2 ^ 30) × (length (events_of p) < 2 ^ 30)
counts_small p a =
    let i = few_records p.bytes 68 (length p.bytes) p.records a.parts.records in
    let j = few_events p in
    let s = whole_small p.bytes a.whole in
    (omega arith, omega arith)

pub ahead_within : (p : Parts) (c : RecordCursor) (k : ℕ) → HasEventAt p c k → (c.frame + k < length p.records) × (c.event + k < length (events_of p))
ahead_within p c k h = (slice_get_within p.records (c.frame + k) h.event.record_of h.framed, slice_get_within (events_of p) (c.event + k) h.event h.there)

-- So the numbers up to twice as far have room.
pub room_doubled : (p : Parts) (c : RecordCursor) → IsAccepted p → (k : ℕ) → HasEventAt p c k → HasRoom c (2 * k + 1)
room_doubled p c a k h =
    let s = counts_small p a in
    let w = ahead_within p c k h in
    record { event = omega (arith, s.1, w.1); frame = omega (arith, s.0, w.0) }

pub room_behind : (p : Parts) (c : RecordCursor) → IsAccepted p → HasRoom c 0 → (n : ℕ) → ((offset : ℕ) → offset < n → HasEventAt p c offset) → HasRoom c n
room_behind p c a r zero h = r
room_behind p c a r (suc n) h =
    let s = counts_small p a in
    let w = ahead_within p c n (h n (omega arith)) in
    record { event = omega (arith, s.1, w.1); frame = omega (arith, s.0, w.0) }

-- The cursor's record is its event and is kept.
pub record InRun (p : Parts) (flags : List Bool) (c : RecordCursor) : Type 0 where
  pub frame : Framed
  pub event : EventAt
  pub framed : slice_get p.records c.frame ≡ Some frame
  pub there : slice_get (events_of p) c.event ≡ Some event
  pub given : event_in p frame ≡ Some event
  pub keep : is_kept_at (events_of p) flags c.event frame.at ≡ true
  pub behind : event_after (events_of p) c.event frame.at ≡ c.event + 1

pub in_run : (p : Parts) (flags : List Bool) (c : RecordCursor) → IsCursor p flags c → is_in_run p flags c ≡ true → InRun p flags c
in_run p flags c i h = by_record (slice_get p.records c.frame) refl h
  where
    by_place : (r : Framed) → slice_get p.records c.frame ≡ Some r → (x : EventAt) → slice_get (events_of p) c.event ≡ Some x → (x.record_of.at == r.at) ≡ true
        → is_kept_at (events_of p) flags c.event r.at ≡ true → InRun p flags c
    by_place r e x t q k =
        let d : drop c.frame p.records ≡ r ∷ drop (c.frame + 1) p.records = drop_at p.records c.frame r e in
        let up = rising_at 0 p.records c.frame r (rising_of p.bytes 0 68 (length p.bytes) p.records (omega arith) i.parts.records) e in
        let l : x ∷ drop (c.event + 1) (events_of p) ≡ filter_map (event_in p) (r ∷ drop (c.frame + 1) p.records) =
        sym (drop_at (events_of p) c.event x t) ∙ (i.events ∙ (events_given p (drop c.frame p.records) ∙ ap (filter_map (event_in p)) d)) in
        let g = at_head event_place (event_in p) (event_stands p) r (drop (c.frame + 1) p.records) x (drop (c.event + 1) (events_of p)) up.1 l (grind (arith, nat_tests, q)) in
        record {
          frame = r;
          event = x;
          framed = e;
          there = t;
          given = g.0;
          keep = k;
          behind = ap (λ o. option_map_or (λ e. if e.record_of.at == r.at then c.event + 1 else c.event) o c.event) t ∙ ap (λ b. if b then c.event + 1 else c.event) q;
        }

    by_test : (r : Framed) → slice_get p.records c.frame ≡ Some r → (x : EventAt) → slice_get (events_of p) c.event ≡ Some x → (b : Bool) → (x.record_of.at == r.at) ≡ b
        → is_kept_at (events_of p) flags c.event r.at ≡ true → b && unwrap_or (slice_get flags c.event) false ≡ true → InRun p flags c
    by_test r e x t true q k h = by_place r e x t q k
    by_test r e x t false q k h = cc

    by_event : (r : Framed) → slice_get p.records c.frame ≡ Some r → is_kept_at (events_of p) flags c.event r.at ≡ true → (o : Option EventAt) → slice_get (events_of p) c.event ≡ o
        → option_map_or (λ e. (e.record_of.at == r.at) && unwrap_or (slice_get flags c.event) false) o false ≡ true → InRun p flags c
    by_event r e k None t h = cc
    by_event r e k (Some x) t h = by_test r e x t (x.record_of.at == r.at) refl k h

    by_record : (o : Option Framed) → slice_get p.records c.frame ≡ o → option_map_or (λ r. is_kept_at (events_of p) flags c.event r.at) o false ≡ true → InRun p flags c
    by_record None e h = cc
    by_record (Some r) e h = by_event r e h (slice_get (events_of p) c.event) refl h
