-- A cursor over the records, the events and the chained checkpoints of a chunk.
use Rattle.std.specs.Prelude.{◌≡◌, ℕ, zero, suc, ◌+◌, ◌<◌, ◌≤◌, Bool, true, false, ◌&&◌, ◌==◌, List, [], ◌∷◌, length, drop, slice_get, reverse, Option, Some, None, Ok, Err, is_some, IfSome, MatchOption, option_map, option_and_then, unwrap_or, cond, if◌then◌else◌}
use Rattle.std.specs.List.{filter_map, cons_option, list_any, enumerate_from}
use Rattle.std.specs.Option.{option_map_or}
use Rattle.std.proofs.Common.{ap, arith, refl, sym, ◌∙◌, subst, inl, inr, add-one}
use Rattle.std.proofs.lemmas.Bool.{eqb-true}
use Rattle.std.proofs.lemmas.List.{drop_all}
use Rattle.jfr_base.specs.Formats.{Answer, run}
use Rattle.jfr_layout.specs.Classes.{is_event_class}
use Rattle.jfr_frame.specs.declared.framed.Framed.{Framed}
use Rattle.jfr_frame.specs.Records.{Rising, record_end}
use Rattle.jfr_frame.proofs.RecordLaws.{record_one, rising_of}
use Rattle.jfr_value.specs.Values.{Value}
use Rattle.jfr_value.specs.Reading.{value_format}
use Rattle.jfr_pool.specs.declared.link.Link.{Link}
use Rattle.jfr_pool.specs.Entries.{inline}
use Rattle.jfr_chunk.specs.Parts.{Parts, EventAt, AreParts, event_by, event_of, event_records, events_of, metadata_at}
use Rattle.jfr_chunk.specs.Reach.{marked, kept_by}
use Rattle.jfr_chunk.specs.Scrub.{OutputRecord, output_record_by, output_record_of}
use Rattle.jfr_laws.proofs.Marks.{all_marked}
use Rattle.jfr_laws.proofs.Order.{Numbered, numbered_at, found_numbered, output_records_in, chained_of}
use Rattle.jfr_laws.proofs.Premises.{all_links, IsCheckpoint, chained_checkpoints, metadata_stands, ready}
use Rattle.jfr_output.specs.declared.remaining_records.RecordCursor.{RecordCursor}
use Rattle.jfr_output.specs.declared.remaining_records.RemainingRecord.{RemainingRecord}
use Rattle.jfr_output.specs.declared.remaining_records.RemainingRecord.TheVariants as remaining_records
use Rattle.jfr_output.specs.RemainingRecords.{IsRemaining, IsCursor, IsKeptEvent, ShowsEvent, ShowsMetadata, output_record_for, events_from, event_there, link_there, output_records_from, is_kept_at, event_after, linked_at, link_after}
use Rattle.jfr_output.proofs.OutputRecordLaws.{Rises, rises_given, rises_marked, Stands, at_head, past_head, elsewhere, found_place, any_found, Occurs, AllOccur, in_order}

-- Where an event, or a numbered checkpoint, starts.
abbrev pub event_place : EventAt → ℕ
event_place e = e.record_of.at

abbrev pub link_place : ℕ × Link → ℕ
link_place l = l.1.frame.at

drop_next : {X : Type 0} (xs : List X) (n : ℕ) (x : X) → slice_get xs n ≡ Some x → drop n xs ≡ x ∷ drop (suc n) xs
drop_next [] n x e = cc
drop_next (y ∷ xs) zero x e = let h : y ≡ x = cc in ap (λ z. z ∷ xs) h
drop_next (y ∷ xs) (suc n) x e = drop_next xs n x e

pub drop_at : {X : Type 0} (xs : List X) (n : ℕ) (x : X) → slice_get xs n ≡ Some x → drop n xs ≡ x ∷ drop (n + 1) xs
drop_at xs n x e = drop_next xs n x e ∙ ap (λ m. x ∷ drop m xs) (sym (add-one n))

drop_none : {X : Type 0} (xs : List X) (n : ℕ) → slice_get xs n ≡ None → drop n xs ≡ []
drop_none [] zero e = refl
drop_none [] (suc n) e = refl
drop_none (y ∷ xs) zero e = cc
drop_none (y ∷ xs) (suc n) e = drop_none xs n e

none_after : {X : Type 0} (xs : List X) (n : ℕ) → slice_get xs n ≡ None → drop (n + 1) xs ≡ []
none_after xs n e = ap (λ m. drop m xs) (add-one n) ∙ behind xs n e
  where
    behind : {X : Type 0} (xs : List X) (n : ℕ) → slice_get xs n ≡ None → drop (suc n) xs ≡ []
    behind [] n e = refl
    behind (y ∷ xs) zero e = cc
    behind (y ∷ xs) (suc n) e = behind xs n e

marked_none : {X : Type 0} (fs : List Bool) → marked {X = X} fs [] ≡ []
marked_none [] = refl
marked_none (f ∷ fs) = refl

pub rising_at : (p : ℕ) (rs : List Framed) (n : ℕ) (r : Framed) → Rising p rs → slice_get rs n ≡ Some r → Rising r.at (r ∷ drop (n + 1) rs)
rising_at p rs n r a e = (omega arith, subst (λ m. Rising (r.at + 1) (drop m rs)) (sym (add-one n)) (behind p rs n a e))
  where
    behind : (p : ℕ) (rs : List Framed) (n : ℕ) → Rising p rs → slice_get rs n ≡ Some r → Rising (r.at + 1) (drop (suc n) rs)
    behind p [] n a e = cc
    behind p (x ∷ rs) zero a e = let h : x ≡ r = cc in subst (λ z. Rising (z.at + 1) rs) h a.1
    behind p (x ∷ rs) (suc n) a e = behind (x.at + 1) rs n a.1 e

-- The event of a record, if it is one.
abbrev pub event_in : Parts → Framed → Option EventAt
event_in p r = cond (is_event_class p.classes r.type_id) (event_of p.bytes p.classes r) None

pub events_given : (p : Parts) (rs : List Framed) → events_from p rs ≡ filter_map (event_in p) rs
events_given p [] = refl
events_given p (r ∷ rs) = by_test (is_event_class p.classes r.type_id) (events_given p rs)
  where
    by_test : (b : Bool) → events_from p rs ≡ filter_map (event_in p) rs
        → filter_map (event_of p.bytes p.classes) (cond b (r ∷ event_records p.classes rs) (event_records p.classes rs)) ≡ cons_option (cond b (event_of p.bytes p.classes r) None) (filter_map (event_in p) rs)
    by_test true e = ap (cons_option (event_of p.bytes p.classes r)) e
    by_test false e = e

pub event_stands : (p : Parts) → Stands event_place (event_in p)
event_stands p r e h = by_test (is_event_class p.classes r.type_id) h
  where
    by_answer : (a : Answer Value) → event_by r a ≡ Some e → event_place e ≡ r.at
    by_answer (Ok g) q = sym (ap (λ o. option_map_or event_place o r.at) q)
    by_answer (Err f) q = cc

    by_test : (b : Bool) → cond b (event_of p.bytes p.classes r) None ≡ Some e → event_place e ≡ r.at
    by_test true q = by_answer (run (value_format p.classes (inline r.type_id)) p.bytes (record_end r) r.body) q
    by_test false q = cc

pub kept_stands : (es : List EventAt) → Stands event_place (event_there es)
kept_stands es r e h = found_place event_place es r.at e h

pub link_stands : (p : Parts) → Stands link_place (link_there p)
link_stands p r l h = found_place link_place (enumerate_from 0 (reverse p.chain)) r.at l h

-- The events after a record.
pub record Passed (f g : Framed → Option EventAt) (es : List EventAt) (fs : List Bool) (r : Framed) (rs : List Framed) (n m : ℕ) (keep : Bool) : Type 0 where
  pub events : drop m es ≡ filter_map f rs
  pub kept : marked (drop m fs) (drop m es) ≡ filter_map g rs
  pub here : keep ≡ is_some (g r)
  pub found : g r ≡ (if keep then slice_get es n else None)

pub event_passed : (f g : Framed → Option EventAt) → Stands event_place f → Stands event_place g → (es : List EventAt) (fs : List Bool) (n : ℕ) (r : Framed) (rs : List Framed) → Rising r.at (r ∷ rs) →
    drop n es ≡ filter_map f (r ∷ rs) → marked (drop n fs) (drop n es) ≡ filter_map g (r ∷ rs) → Passed f g es fs r rs n (event_after es n r.at) (is_kept_at es fs n r.at)
event_passed f g s t es fs n r rs a e k = by_head (slice_get es n) refl
  where
    none_here : Rises event_place (r.at + 1) (drop n es) → Passed f g es fs r rs n n false
    none_here b =
        let u = past_head event_place f s r rs (drop n es) e b in
        let v = past_head event_place g t r rs (marked (drop n fs) (drop n es)) k (rises_marked event_place (r.at + 1) (drop n fs) (drop n es) b) in
        record { events = u.1; kept = v.1; here = sym (ap is_some v.0); found = v.0 }

    by_flag : (x : EventAt) → slice_get es n ≡ Some x → drop n es ≡ x ∷ drop (n + 1) es → event_place x ≡ r.at → (o : Option Bool) → slice_get fs n ≡ o
        → Passed f g es fs r rs n (n + 1) (unwrap_or o false)
    by_flag x there d w o q =
        let u = at_head event_place f s r rs x (drop (n + 1) es) a.1 (sym d ∙ e) w in
        let b : Rises event_place (r.at + 1) (drop (n + 1) es) = subst (Rises event_place (r.at + 1)) (sym u.1) (rises_given event_place f s (r.at + 1) rs a.1) in
        by_value u.1 b o q
      where
        by_value : drop (n + 1) es ≡ filter_map f rs → Rises event_place (r.at + 1) (drop (n + 1) es) → (o : Option Bool) → slice_get fs n ≡ o → Passed f g es fs r rs n (n + 1) (unwrap_or o false)
        by_value u b None q =
            let z : marked (drop n fs) (drop n es) ≡ [] = ap (λ y. marked y (drop n es)) (drop_none fs n q) in
            let v = past_head event_place g t r rs [] (sym z ∙ k) tt in
            record { events = u; kept = ap (λ y. marked y (drop (n + 1) es)) (none_after fs n q) ∙ v.1; here = sym (ap is_some v.0); found = v.0 }
        by_value u b (Some true) q =
            let z : marked (drop n fs) (drop n es) ≡ x ∷ marked (drop (n + 1) fs) (drop (n + 1) es) = ap (λ y. marked y (drop n es)) (drop_at fs n true q) ∙ ap (marked (true ∷ drop (n + 1) fs)) d in
            let v = at_head event_place g t r rs x (marked (drop (n + 1) fs) (drop (n + 1) es)) a.1 (sym z ∙ k) w in
            record { events = u; kept = v.1; here = sym (ap is_some v.0); found = v.0 ∙ sym there }
        by_value u b (Some false) q =
            let z : marked (drop n fs) (drop n es) ≡ marked (drop (n + 1) fs) (drop (n + 1) es) = ap (λ y. marked y (drop n es)) (drop_at fs n false q) ∙ ap (marked (false ∷ drop (n + 1) fs)) d in
            let v = past_head event_place g t r rs (marked (drop (n + 1) fs) (drop (n + 1) es)) (sym z ∙ k) (rises_marked event_place (r.at + 1) (drop (n + 1) fs) (drop (n + 1) es) b) in
            record { events = u; kept = v.1; here = sym (ap is_some v.0); found = v.0 }

    by_test : (x : EventAt) → slice_get es n ≡ Some x → drop n es ≡ x ∷ drop (n + 1) es → (b : Bool) → (event_place x == r.at) ≡ b
        → Passed f g es fs r rs n (if b then n + 1 else n) (b && unwrap_or (slice_get fs n) false)
    by_test x there d true q = by_flag x there d (grind (arith, q)) (slice_get fs n) refl
    by_test x there d false q = none_here (subst (Rises event_place (r.at + 1)) (sym d) (elsewhere event_place f s r rs x (drop (n + 1) es) a (sym d ∙ e) q))

    by_head : (o : Option EventAt) → slice_get es n ≡ o
        → Passed f g es fs r rs n (option_map_or (λ x. if event_place x == r.at then n + 1 else n) o n) (option_map_or (λ x. (event_place x == r.at) && unwrap_or (slice_get fs n) false) o false)
    by_head None q = none_here (subst (Rises event_place (r.at + 1)) (sym (drop_none es n q)) tt)
    by_head (Some x) q = by_test x q (drop_at es n x q) (event_place x == r.at) refl

-- The checkpoints after a record.
pub record LinkPassed (f : Framed → Option (ℕ × Link)) (ls : List Link) (r : Framed) (rs : List Framed) (m : ℕ) (there : Option (ℕ × Link)) : Type 0 where
  pub links : enumerate_from m (drop m ls) ≡ filter_map f rs
  pub here : there ≡ f r

pub link_passed : (f : Framed → Option (ℕ × Link)) → Stands link_place f → (ls : List Link) (n : ℕ) (r : Framed) (rs : List Framed) → Rising r.at (r ∷ rs)
    → enumerate_from n (drop n ls) ≡ filter_map f (r ∷ rs) →
    LinkPassed f ls r rs (link_after ls n r.at) (linked_at ls n r.at)
link_passed f s ls n r rs a e = by_head (slice_get ls n) refl
  where
    none_here : Rises link_place (r.at + 1) (enumerate_from n (drop n ls)) → LinkPassed f ls r rs n None
    none_here b = let u = past_head link_place f s r rs (enumerate_from n (drop n ls)) e b in record { links = u.1; here = sym u.0 }

    by_test : (l : Link) → drop n ls ≡ l ∷ drop (n + 1) ls → (b : Bool) → (l.frame.at == r.at) ≡ b → LinkPassed f ls r rs (if b then n + 1 else n) (if b then Some (n, l) else None)
    by_test l d true q =
        let u = at_head link_place f s r rs (n, l) (enumerate_from (n + 1) (drop (n + 1) ls)) a.1 (sym (ap (enumerate_from n) d) ∙ e) (grind (arith, q)) in
        record { links = u.1; here = sym u.0 }
    by_test l d false q =
        none_here (subst (λ z. Rises link_place (r.at + 1) (enumerate_from n z)) (sym d)
        (elsewhere link_place f s r rs (n, l) (enumerate_from (n + 1) (drop (n + 1) ls)) a (sym (ap (enumerate_from n) d) ∙ e) q))

    by_head : (o : Option Link) → slice_get ls n ≡ o
        → LinkPassed f ls r rs (option_map_or (λ l. if l.frame.at == r.at then n + 1 else n) o n) (option_and_then (λ l. if l.frame.at == r.at then Some (n, l) else None) o)
    by_head None q = none_here (subst (λ z. Rises link_place (r.at + 1) (enumerate_from n z)) (sym (drop_none ls n q)) tt)
    by_head (Some l) q = by_test l (drop_at ls n l q) (l.frame.at == r.at) refl

-- A cursor after a record.
pub cursor_passed : (p : Parts) (flags : List Bool) (c : RecordCursor) (r : Framed) → IsCursor p flags c → slice_get p.records c.frame ≡ Some r →
    IsCursor p flags (record { frame = c.frame + 1; event = event_after (events_of p) c.event r.at; link = link_after (reverse p.chain) c.link r.at })
    × (is_kept_at (events_of p) flags c.event r.at ≡ list_any (λ e. e.record_of.at == r.at) (kept_by p flags))
    × (linked_at (reverse p.chain) c.link r.at ≡ link_there p r)
    × (event_there (kept_by p flags) r ≡ (if is_kept_at (events_of p) flags c.event r.at then slice_get (events_of p) c.event else None))
cursor_passed p flags c r i e =
    let d : drop c.frame p.records ≡ r ∷ drop (c.frame + 1) p.records = drop_at p.records c.frame r e in
    let a = rising_at 0 p.records c.frame r (rising_of p.bytes 0 68 (length p.bytes) p.records (omega arith) i.parts.records) e in
    let u = event_passed (event_in p) (event_there (kept_by p flags)) (event_stands p) (kept_stands (kept_by p flags)) (events_of p) flags c.event r (drop (c.frame + 1) p.records) a
    (i.events ∙ (events_given p (drop c.frame p.records) ∙ ap (filter_map (event_in p)) d)) (i.kept ∙ ap (filter_map (event_there (kept_by p flags))) d) in
    let v = link_passed (link_there p) (link_stands p) (reverse p.chain) c.link r (drop (c.frame + 1) p.records) a (i.links ∙ ap (filter_map (link_there p)) d) in (
      record { parts = i.parts; events = u.events ∙ sym (events_given p (drop (c.frame + 1) p.records)); kept = u.kept; links = v.links },
      u.here ∙ sym (any_found (λ e. e.record_of.at == r.at) (kept_by p flags)),
      v.here,
      u.found,
    )

-- A cursor after the record at an offset.
abbrev pub IsAfter : Parts → List Bool → RecordCursor → Framed → ℕ → Type 0
IsAfter p flags c r at =
    IsCursor p flags (record { frame = c.frame + 1; event = event_after (events_of p) c.event at; link = link_after (reverse p.chain) c.link at })
    × (is_kept_at (events_of p) flags c.event at ≡ list_any (λ e. e.record_of.at == r.at) (kept_by p flags))
    × (linked_at (reverse p.chain) c.link at ≡ link_there p r)
    × (event_there (kept_by p flags) r ≡ (if is_kept_at (events_of p) flags c.event at then slice_get (events_of p) c.event else None))

pub record PlacePassed (p : Parts) (flags : List Bool) (c : RecordCursor) (at : ℕ) : Type 0 where
  pub frame : Framed
  pub there : slice_get p.records c.frame ≡ Some frame
  pub place : frame.at ≡ at
  pub behind : IsAfter p flags c frame at

pub place_passed : (p : Parts) (flags : List Bool) (c : RecordCursor) (at : ℕ) → IsCursor p flags c → option_map (λ r. r.at) (slice_get p.records c.frame) ≡ Some at → PlacePassed p flags c at
place_passed p flags c at i h = by_record (slice_get p.records c.frame) refl h
  where
    by_record : (o : Option Framed) → slice_get p.records c.frame ≡ o → option_map (λ r. r.at) o ≡ Some at → PlacePassed p flags c at
    by_record None e h = cc
    by_record (Some r) e h = let q : r.at ≡ at = cc in record { frame = r; there = e; place = q; behind = subst (IsAfter p flags c r) q (cursor_passed p flags c r i e) }

pub some_if : (b : Bool) (n : ℕ) → is_some (if b then Some n else None) ≡ b
some_if true n = refl
some_if false n = refl

-- The event that a cursor passes, if it is kept.
pub passed_event : (p : Parts) (flags : List Bool) (c : RecordCursor) (r s : Framed) (at number : ℕ) (event : Option ℕ) → IsAfter p flags c r at
    → event ≡ (if is_kept_at (events_of p) flags c.event at then Some c.event else None) → event ≡ Some number → s ≡ r
    → IsKeptEvent p flags number s
passed_event p flags c r s at number event b e n same = subst (IsKeptEvent p flags number) (sym same) (by_test (is_kept_at (events_of p) flags c.event at) refl (sym e ∙ n) b.3)
  where
    by_event : (o : Option EventAt) → slice_get (events_of p) c.event ≡ o → option_map_or (λ e. (e.record_of.at == at) && unwrap_or (slice_get flags c.event) false) o false ≡ true → c.event ≡ number
        → event_there (kept_by p flags) r ≡ slice_get (events_of p) c.event → IsKeptEvent p flags number r
    by_event None q t n f = cc
    by_event (Some x) q t n f = record { event = x; numbered = ap (slice_get (events_of p)) (sym n) ∙ q; there = f ∙ q }

    by_test : (t : Bool) → is_kept_at (events_of p) flags c.event at ≡ t → (if t then Some c.event else None) ≡ Some number
        → event_there (kept_by p flags) r ≡ (if t then slice_get (events_of p) c.event else None) → IsKeptEvent p flags number r
    by_test true t n f = by_event (slice_get (events_of p) c.event) refl t (let i : c.event ≡ number = cc in i) f
    by_test false t n f = cc

-- No chained checkpoint is the metadata record.
pub link_other : (p : Parts) → AreParts p → (r : Framed) (l : ℕ × Link) → link_there p r ≡ Some l → (l.1.frame.at == metadata_at p.bytes) ≡ false
link_other p a r l e = by_test (l.1.frame.at == metadata_at p.bytes) refl
  where
    by_test : (t : Bool) → (l.1.frame.at == metadata_at p.bytes) ≡ t → t ≡ false
    by_test false t = refl
    by_test true t =
        let h = found_numbered (IsCheckpoint p.bytes) (all_links p) r.at l (chained_checkpoints p a) e in
        let same : l.1.frame ≡ a.metadata_record =
        record_one p.bytes l.1.frame a.metadata_record h.0.0 (metadata_stands p a) (eqb-true l.1.frame.at (metadata_at p.bytes) t ∙ sym a.metadata_there.place) in
        let one : l.1.frame.type_id ≡ 1 = h.0.1 in
        let none : a.metadata_record.type_id ≡ 0 = a.metadata_there.type_is in
        let z : l.1.frame.type_id ≡ a.metadata_record.type_id = ap (λ (x : Framed). x.type_id) same in
        absurd (omega arith)

-- How a record remains shows whether it is the metadata record, and which event it is.
pub remaining_metadata : (p : Parts) → AreParts p → (r : Framed) (link : Option (ℕ × Link)) (event : Option ℕ) (metadata : Bool) (o : Option RemainingRecord) → link ≡ link_there p r
    → metadata ≡ (r.at == metadata_at p.bytes) → IfSome o (IsRemaining link event metadata r)
    → IfSome o (ShowsMetadata (metadata_at p.bytes))
remaining_metadata p a r link event metadata None l m h = tt
remaining_metadata p a r link event metadata (Some (remaining_records.Event number s)) l m h = ap (λ (z : Framed). z.at == metadata_at p.bytes) h.2 ∙ (sym m ∙ h.1)
remaining_metadata p a r link event metadata (Some (remaining_records.Metadata s)) l m h = ap (λ (z : Framed). z.at == metadata_at p.bytes) h.1 ∙ (sym m ∙ h.0)
remaining_metadata p a r link event metadata (Some (remaining_records.Chained number x)) l m h = link_other p a r (number, x) (sym l ∙ h)

pub remaining_event : (p : Parts) (flags : List Bool) (c : RecordCursor) (r : Framed) (at : ℕ) (link : Option (ℕ × Link)) (event : Option ℕ) (metadata : Bool) (o : Option RemainingRecord)
    → IsAfter p flags c r at
    → event ≡ (if is_kept_at (events_of p) flags c.event at then Some c.event else None) → IfSome o (IsRemaining link event metadata r) → IfSome o (ShowsEvent p flags)
remaining_event p flags c r at link event metadata None b e h = tt
remaining_event p flags c r at link event metadata (Some (remaining_records.Event number s)) b e h = passed_event p flags c r s at number event b e h.0 h.2
remaining_event p flags c r at link event metadata (Some (remaining_records.Metadata s)) b e h = tt
remaining_event p flags c r at link event metadata (Some (remaining_records.Chained number x)) b e h = tt

-- What stays from a record on.
pub output_records_at : (new : Option (List ℕ)) (p : Parts) (flags : List Bool) (c : RecordCursor) (r : Framed) → slice_get p.records c.frame ≡ Some r →
    output_records_from new p flags c ≡ cons_option (output_record_of new p (kept_by p flags) r) (filter_map (output_record_of new p (kept_by p flags)) (drop (c.frame + 1) p.records))
output_records_at new p flags c r e = ap (filter_map (output_record_of new p (kept_by p flags))) (drop_at p.records c.frame r e)

pub output_records_none : (new : Option (List ℕ)) (p : Parts) (flags : List Bool) (c : RecordCursor) → length p.records ≤ c.frame → output_records_from new p flags c ≡ []
output_records_none new p flags c h = ap (filter_map (output_record_of new p (kept_by p flags))) (drop_all c.frame p.records h)

pub remaining_record_next : (new : Option (List ℕ)) (p : Parts) (flags : List Bool) (c d : RecordCursor) (frames : List Framed) (at : ℕ) (o : Option RemainingRecord) → frames ≡ p.records
    → option_map (λ r. r.at) (slice_get frames c.frame) ≡ Some at → d.frame ≡ c.frame + 1 →
    IfSome (slice_get p.records c.frame) (λ r. option_map (output_record_for new) o ≡ output_record_of new p (kept_by p flags) r) → output_records_from new p flags c ≡ cons_option
    (option_map (output_record_for new) o) (output_records_from new p flags d)
remaining_record_next new p flags c d frames at o e h f g = by_record (slice_get p.records c.frame) refl (ap (λ rs. option_map (λ r. r.at) (slice_get rs c.frame)) (sym e) ∙ h) g
  where
    by_record : (x : Option Framed) → slice_get p.records c.frame ≡ x → option_map (λ r. r.at) x ≡ Some at
        → IfSome x (λ r. option_map (output_record_for new) o ≡ output_record_of new p (kept_by p flags) r)
        → output_records_from new p flags c ≡ cons_option (option_map (output_record_for new) o) (output_records_from new p flags d)
    by_record None e h g = cc
    by_record (Some r) e h g = output_records_at new p flags c r e ∙ (λ i. cons_option (sym g i) (filter_map (output_record_of new p (kept_by p flags)) (drop (sym f i) p.records)))

-- A record's number, which is less than that of the records, and than its offset.
pub number_within : (rs : List Framed) (n at : ℕ) → option_map (λ (r : Framed). r.at) (slice_get rs n) ≡ Some at → n < length rs
number_within [] n at e = cc
number_within (r ∷ rs) zero at e = omega arith
number_within (r ∷ rs) (suc n) at e = let l = number_within rs n at e in omega arith

pub number_below : (p : ℕ) (rs : List Framed) (n at : ℕ) → Rising p rs → option_map (λ (r : Framed). r.at) (slice_get rs n) ≡ Some at → p + n ≤ at
number_below p [] n at a e = cc
number_below p (r ∷ rs) zero at a e = let h : r.at ≡ at = cc in let l = a.0 in omega (arith, h, l)
number_below p (r ∷ rs) (suc n) at a e = let l = a.0 in let m = number_below (r.at + 1) rs n at a.1 e in omega (arith, l, m)

-- Behind the last record nothing remains.
pub none_remain : (new : Option (List ℕ)) (p : Parts) (flags : List Bool) (c : RecordCursor) (frames : List Framed) → frames ≡ p.records
    → None ≡ option_map (λ (r : Framed). r.at) (slice_get frames c.frame) → output_records_from new p flags c ≡ []
none_remain new p flags c frames e h = by_record (slice_get p.records c.frame) refl (h ∙ ap (λ rs. option_map (λ (r : Framed). r.at) (slice_get rs c.frame)) e)
  where
    by_record : (o : Option Framed) → slice_get p.records c.frame ≡ o → None ≡ option_map (λ (r : Framed). r.at) o → output_records_from new p flags c ≡ []
    by_record None q h = ap (filter_map (output_record_of new p (kept_by p flags))) (drop_none p.records c.frame q)
    by_record (Some r) q h = cc

pub told_some : (new : Option (List ℕ)) (before rest : List OutputRecord) (o : Option RemainingRecord) → before ≡ cons_option (option_map (output_record_for new) o) rest → is_some o ≡ true
    → MatchOption o (before ≡ []) (λ s. before ≡ output_record_for new s ∷ rest)
told_some new before rest None e h = cc
told_some new before rest (Some s) e h = e

pub told_none : (new : Option (List ℕ)) (before rest : List OutputRecord) (o : Option RemainingRecord) → before ≡ cons_option (option_map (output_record_for new) o) rest → is_some o ≡ false
    → before ≡ rest
told_none new before rest None e h = e
told_none new before rest (Some s) e h = cc

rises_first : (p : ℕ) (rs : List Framed) (f : Framed → Option EventAt) → Stands event_place f → AllOccur event_place rs (filter_map f rs)
rises_first p [] f s = tt
rises_first p (r ∷ rs) f s = by_value (f r) refl (occur_more r (filter_map f rs) (rises_first p rs f s))
  where
    occur_more : (r : Framed) (xs : List EventAt) → AllOccur event_place rs xs → AllOccur event_place (r ∷ rs) xs
    occur_more r [] a = tt
    occur_more r (x ∷ xs) a = (inr a.0, occur_more r xs a.1)

    by_value : (o : Option EventAt) → f r ≡ o → AllOccur event_place (r ∷ rs) (filter_map f rs) → AllOccur event_place (r ∷ rs) (cons_option o (filter_map f rs))
    by_value None e h = h
    by_value (Some x) e h = (inl (sym (s r x e)), h)

-- The remaining checkpoints are those that begin at one of the records.
chained_given : (all : List Numbered) (whole : Framed → Bool) (new : Framed → Option (List ℕ)) (rs : List Framed)
    → chained_of (output_records_in all whole new rs) ≡ filter_map (λ r. numbered_at all r.at) rs
chained_given all whole new [] = refl
chained_given all whole new (r ∷ rs) = by_value (numbered_at all r.at) (whole r) (new r) (chained_given all whole new rs)
  where
    by_value : (o : Option Numbered) (b : Bool) (w : Option (List ℕ)) → chained_of (output_records_in all whole new rs) ≡ filter_map (λ r. numbered_at all r.at) rs
        → chained_of (cons_option (output_record_by o b w r) (output_records_in all whole new rs)) ≡ cons_option o (filter_map (λ r. numbered_at all r.at) rs)
    by_value (Some l) b w e = ap (λ z. l ∷ z) e
    by_value None true None e = e
    by_value None true (Some x) e = e
    by_value None false w e = e

-- A cursor before the first record.
pub cursor_first : (p : Parts) (flags : List Bool) → AreParts p → IsCursor p flags (record { frame = 0; event = 0; link = 0 })
unfolding events_of
cursor_first p flags a =
    let rises = rising_of p.bytes 0 68 (length p.bytes) p.records (omega arith) a.records in
    let e = events_given p p.records in
    let up : Rises event_place 0 (events_of p) = subst (Rises event_place 0) (sym e) (rises_given event_place (event_in p) (event_stands p) 0 p.records rises) in
    let there : AllOccur event_place p.records (events_of p) = subst (AllOccur event_place p.records) (sym e) (rises_first 0 p.records (event_in p) (event_stands p)) in
    record {
      parts = a;
      events = refl;
      kept = sym (in_order event_place (kept_by p flags) p.records 0 [] (kept_by p flags) rises refl tt (rises_marked event_place 0 flags (events_of p) up)
          (all_marked (λ x. Occurs (event_place x) p.records) flags (events_of p) there));
      links = sym ((ready p a (λ r. false) (λ r. None) (λ r x i e. cc) []).order) ∙ chained_given (all_links p) (λ r. false) (λ r. None) p.records;
    }
