-- Everything in the output stays at its own offset: each event, the metadata record and each checkpoint.
use Rattle.std.specs.Prelude.{◌≡◌, ℕ, ◌+◌, ◌^◌, ◌<◌, ◌≤◌, Bool, true, false, ◌==◌, ◌||◌, List, [], ◌∷◌, ◌++◌, length, map, Option, Some, None, if◌then◌else◌}
use Rattle.std.specs.List.{AllByRecursion, cons_option, enumerate_from}
use Rattle.std.proofs.Common.{ap, arith, refl, sym, ◌∙◌, subst, inl, inr, append_assoc}
use Rattle.std.proofs.lemmas.Bool.Decides.{nat_tests}
use Rattle.std.proofs.lemmas.List.{reverse-reverse}
use Rattle.jfr_layout.specs.Classes.{Classes, is_event_class}
use Rattle.jfr_frame.specs.declared.framed.Framed.{Framed}
use Rattle.jfr_frame.specs.Records.{IsRecord, Tiles, Rising, record_bytes}
use Rattle.jfr_frame.proofs.RecordLaws.{record_one, some_bytes, rising_of}
use Rattle.jfr_pool.specs.declared.link.Link.{Link}
use Rattle.jfr_pool.specs.declared.entry.EntryAt.{EntryAt}
use Rattle.jfr_meta.specs.Body.{Body}
use Rattle.jfr_chunk.specs.Parts.{Parts, EventAt, events_of, event_records, AreParts, metadata_at}
use Rattle.jfr_chunk.specs.Scrub.{OutputRecord, Whole, Chained, Rebuilt, Written, output_record_by, is_kept_or_metadata, output_records, written_anew, written_bytes, written, record_of, moved}
use Rattle.jfr_laws.proofs.ReadBack.{moved_frame}
use Rattle.jfr_laws.proofs.Suits.{Suits}
use Rattle.jfr_laws.proofs.Quiet.{no_metadata_event}
use Rattle.jfr_chunk.specs.Laws.{AreEvents}
use Rattle.jfr_worklist.specs.Members.{In}
use Rattle.jfr_worklist.proofs.Members.{contains_in}
use Rattle.jfr_chunk.proofs.TestLaws.{is_eq}
use Rattle.jfr_chunk.proofs.AllLaws.{all_in, in_filter_map}
use Rattle.jfr_laws.proofs.Order as order
use Rattle.jfr_laws.proofs.Order.{Numbered, numbered_at, output_record_in, output_records_in, Low, low_more, low_append, none_rising, after_low}
use Rattle.jfr_laws.proofs.Copied.{copied_to}
use Rattle.jfr_laws.proofs.OutputRecords.{chained_bytes, own_frame, frame_by, new_frame, new_link, new_links, IsOutputRecordIn}
use Rattle.jfr_laws.proofs.Found.{output_record_place}
use Rattle.jfr_laws.proofs.Chosen.{is_kept, rising_more}
use Rattle.jfr_laws.proofs.Premises.{GoodAnew, all_links, recorded, metadata_stands}
use Rattle.jfr_laws.proofs.Same.{event_records_of}
use Rattle.jfr_laws.proofs.Whole.{remaining_of, written_of, or_right, metadata_new, MetadataReads, Leading}
use Rattle.jfr_laws.proofs.Rebuilt.{links, anew_only, kept_is_event, new_parts, parts_are_valid}
use Rattle.jfr_laws.proofs.Listed.{all_each, in_any, in_map, map_in, passes_in}
use Rattle.jfr_laws.proofs.Rewritten.{new_output_records}

-- Numbered checkpoints that rise from a place do so from an earlier one.
rising_earlier : (p q : ℕ) (ts : List Numbered) → p ≤ q → order.Rising q ts → order.Rising p ts
rising_earlier p q [] h r = tt
rising_earlier p q (t ∷ ts) h r = let i : q ≤ t.1.frame.at = r.0 in (omega arith, r.1)

module _ (c : List ℕ) (remaining : List EntryAt) (b : List ℕ) where
  abbrev frames : ℕ → Option ℕ → List OutputRecord → List Framed
  frames at older ss = map (new_frame c remaining) (written c remaining at older ss)

  -- The checkpoints that are written from a place on rise from there.
  links_rise : (ss : List OutputRecord) (j at : ℕ) (older : Option ℕ) (to : ℕ) → Tiles b at (frames at older ss) to → order.Rising at (enumerate_from j (new_links c remaining at older ss))
  links_rise [] j at older to t = tt
  links_rise (Whole r ∷ ss) j at older to t =
      let n : ℕ = length (record_bytes c r) in
      rising_earlier at (at + n) (enumerate_from j (new_links c remaining (at + n) older ss)) (omega arith) (links_rise ss j (at + n) older to t.2)
  links_rise (Rebuilt r x ∷ ss) j at older to t =
      let n : ℕ = length x in
      rising_earlier at (at + n) (enumerate_from j (new_links c remaining (at + n) older ss)) (omega arith) (links_rise ss j (at + n) older to t.2)
  links_rise (Chained i l ∷ ss) j at older to t =
      let n : ℕ = length (chained_bytes c remaining at older i l) in
      let some : at < at + n = some_bytes b (new_link c remaining at older i l).frame t.1 in
      (omega arith, rising_earlier (at + 1) (at + n) (enumerate_from (j + 1) (new_links c remaining (at + n) (Some at) ss)) (omega arith) (links_rise ss (j + 1) (at + n) (Some at) to t.2))

  module _ (all : List Numbered) (whole : Framed → Bool) (slim : Framed → Option (List ℕ)) where
    -- What was written of a record that stayed whole, or was built anew, stays so.
    abbrev pub Stays : OutputRecord → Framed → Type 0
    Stays (Whole r) f = (whole f ≡ true) × (slim f ≡ None)
    Stays (Rebuilt r x) f = (whole f ≡ true) × (slim f ≡ Some x)
    Stays (Chained j l) f = Unit {0}

    abbrev pub OutputRecordsWhole : Written → Type 0
    OutputRecordsWhole w = Stays w.output_record (new_frame c remaining w)

    -- What stays of the records that were written.
    output_records_again : (ss : List OutputRecord) (j at : ℕ) (older : Option ℕ) (done : List Numbered) (to : ℕ) → Tiles b at (frames at older ss) to
        → all ≡ done ++ enumerate_from j (new_links c remaining at older ss) → Low at done
        → AllByRecursion OutputRecordsWhole (written c remaining at older ss) → output_records_in all whole slim (frames at older ss) ≡ new_output_records c remaining j at older ss
    output_records_again [] j at older done to t e a w = refl
    output_records_again (Whole r ∷ ss) j at older done to t e a w =
        let n : ℕ = length (record_bytes c r) in
        let f : Framed = copied_to c at r in
        let todo : List Numbered = enumerate_from j (new_links c remaining (at + n) older ss) in
        let some : at < at + n = some_bytes b f t.1 in
        let none : numbered_at all at ≡ None = ap (λ z. numbered_at z at) e ∙ (after_low at at done todo (omega arith) a ∙ none_rising at (at + n) todo some (links_rise ss j (at + n) older to t.2)) in
        ap (λ o. cons_option (output_record_by o (whole f) (slim f) f) (output_records_in all whole slim (frames (at + n) older ss))) none
        ∙ ((λ i. cons_option (output_record_by None (w.0.0 i) (w.0.1 i) f) (output_records_in all whole slim (frames (at + n) older ss)))
        ∙ ap (λ z. Whole f ∷ z) (output_records_again ss j (at + n) older done to t.2 e (low_more at (at + n) done (omega arith) a) w.1))
    output_records_again (Rebuilt r x ∷ ss) j at older done to t e a w =
        let n : ℕ = length x in
        let f : Framed = moved_frame at (own_frame x) n in
        let todo : List Numbered = enumerate_from j (new_links c remaining (at + n) older ss) in
        let some : at < at + n = some_bytes b f t.1 in
        let none : numbered_at all at ≡ None = ap (λ z. numbered_at z at) e ∙ (after_low at at done todo (omega arith) a ∙ none_rising at (at + n) todo some (links_rise ss j (at + n) older to t.2)) in
        ap (λ o. cons_option (output_record_by o (whole f) (slim f) f) (output_records_in all whole slim (frames (at + n) older ss))) none
        ∙ ((λ i. cons_option (output_record_by None (w.0.0 i) (w.0.1 i) f) (output_records_in all whole slim (frames (at + n) older ss)))
        ∙ ap (λ z. Rebuilt f x ∷ z) (output_records_again ss j (at + n) older done to t.2 e (low_more at (at + n) done (omega arith) a) w.1))
    output_records_again (Chained i l ∷ ss) j at older done to t e a w =
        let n : ℕ = length (chained_bytes c remaining at older i l) in
        let m : Link = new_link c remaining at older i l in
        let todo : List Numbered = enumerate_from (j + 1) (new_links c remaining (at + n) (Some at) ss) in
        let some : at < at + n = some_bytes b m.frame t.1 in
        let found : numbered_at all at ≡ Some (j, m) = ap (λ z. numbered_at z at) e ∙ (after_low at at done ((j, m) ∷ todo) (omega arith) a ∙ rw (is_eq at at refl) refl) in
        let low = low_append (at + n) done (j, m) (low_more at (at + n) done (omega arith) a) some in
        ap (λ o. cons_option (output_record_by o (whole m.frame) (slim m.frame) m.frame) (output_records_in all whole slim (frames (at + n) (Some at) ss))) found
        ∙ ap (λ z. Chained j m ∷ z) (output_records_again ss (j + 1) (at + n) (Some at) (done ++ ((j, m) ∷ [])) to t.2 (e ∙ sym (append_assoc done ((j, m) ∷ []) todo)) low w.1)

  -- What is written stays.
  in_written : (ss : List OutputRecord) (at : ℕ) (older : Option ℕ) (w : Written) → In (written c remaining at older ss) w → In ss w.output_record
  in_written [] at older w i = absurd i
  in_written (Whole r ∷ ss) at older w (inl e) = inl (ap (λ z. z.output_record) e)
  in_written (Whole r ∷ ss) at older w (inr i) = inr (in_written ss (at + length (record_bytes c r)) older w i)
  in_written (Rebuilt r x ∷ ss) at older w (inl e) = inl (ap (λ z. z.output_record) e)
  in_written (Rebuilt r x ∷ ss) at older w (inr i) = inr (in_written ss (at + length x) older w i)
  in_written (Chained j l ∷ ss) at older w (inl e) = inl (ap (λ z. z.output_record) e)
  in_written (Chained j l ∷ ss) at older w (inr i) = inr (in_written ss (at + length (chained_bytes c remaining at older j l)) (Some at) w i)

  -- The records of what is written are those of what stays.
  written_records : (ss : List OutputRecord) (at : ℕ) (older : Option ℕ) → map (λ w. record_of w.output_record) (written c remaining at older ss) ≡ map record_of ss
  written_records [] at older = refl
  written_records (Whole r ∷ ss) at older = ap (λ z. r ∷ z) (written_records ss (at + length (record_bytes c r)) older)
  written_records (Rebuilt r x ∷ ss) at older = ap (λ z. r ∷ z) (written_records ss (at + length x) older)
  written_records (Chained j l ∷ ss) at older = ap (λ z. l.frame ∷ z) (written_records ss (at + length (chained_bytes c remaining at older j l)) (Some at))

-- A record stays whole by the test, or is built anew.
whole_output_records : (all : List Numbered) (whole : Framed → Bool) (slim : Framed → Option (List ℕ)) (rs : List Framed) (r : Framed) → In (output_records_in all whole slim rs) (Whole r)
    → In rs r × (whole r ≡ true) × (slim r ≡ None)
whole_output_records all whole slim rs r i =
    let x = in_filter_map (output_record_in all whole slim) rs (Whole r) i in
    by_case x.0 (numbered_at all x.0.at) (whole x.0) refl (slim x.0) refl x.1 x.2
  where
    by_case : (x : Framed) (o : Option Numbered) (t : Bool) → whole x ≡ t → (w : Option (List ℕ)) → slim x ≡ w → In rs x → output_record_by o t w x ≡ Some (Whole r)
        → In rs r × (whole r ≡ true) × (slim r ≡ None)
    by_case x (Some l) t q w z i e = cc
    by_case x None true q None z i e = let h : x ≡ r = cc in (subst (In rs) h i, subst (λ z. whole z ≡ true) h q, subst (λ y. slim y ≡ None) h z)
    by_case x None true q (Some y) z i e = cc
    by_case x None false q w z i e = cc

abbrev bytes_anew : OutputRecord → List ℕ
bytes_anew (Whole f) = []
bytes_anew (Rebuilt f z) = z
bytes_anew (Chained j l) = []

anew_output_records : (all : List Numbered) (whole : Framed → Bool) (slim : Framed → Option (List ℕ)) (rs : List Framed) (r : Framed) (y : List ℕ)
    → In (output_records_in all whole slim rs) (Rebuilt r y) → In rs r × (slim r ≡ Some y)
anew_output_records all whole slim rs r y i =
    let x = in_filter_map (output_record_in all whole slim) rs (Rebuilt r y) i in
    by_case x.0 (numbered_at all x.0.at) (whole x.0) (slim x.0) refl x.1 x.2
  where
    by_case : (x : Framed) (o : Option Numbered) (t : Bool) (w : Option (List ℕ)) → slim x ≡ w → In rs x → output_record_by o t w x ≡ Some (Rebuilt r y) → In rs r × (slim r ≡ Some y)
    by_case x (Some l) t w z i e = cc
    by_case x None true None z i e = cc
    by_case x None true (Some v) z i e =
        let g : Rebuilt x v ≡ Rebuilt r y = cc in
        let h : x ≡ r = ap (λ s. record_of s) g in
        let u : v ≡ y = ap bytes_anew g in
        (subst (In rs) h i, subst (λ f. slim f ≡ Some y) h (z ∙ ap (λ z. Some z) u))
    by_case x None false w z i e = cc

-- What stays of records that rise does.
output_records_rise : (all : List Numbered) (whole : Framed → Bool) (slim : Framed → Option (List ℕ)) (p : ℕ) (rs : List Framed) → Rising p rs
    → Rising p (map record_of (output_records_in all whole slim rs))
output_records_rise all whole slim p [] a = tt
output_records_rise all whole slim p (r ∷ rs) a = by_output_record (output_record_in all whole slim r) refl (output_records_rise all whole slim (r.at + 1) rs a.1)
  where
    by_output_record : (o : Option OutputRecord) → output_record_in all whole slim r ≡ o → Rising (r.at + 1) (map record_of (output_records_in all whole slim rs))
        → Rising p (map record_of (cons_option o (output_records_in all whole slim rs)))
    by_output_record None q i = let j : p ≤ r.at = a.0 in rising_more p (r.at + 1) (map record_of (output_records_in all whole slim rs)) (omega arith) i
    by_output_record (Some s) q i =
        let e : (record_of s).at ≡ r.at = output_record_place all whole slim r s q in
        let j : p ≤ r.at = a.0 in
        (omega arith, subst (λ z. Rising (z + 1) (map record_of (output_records_in all whole slim rs))) (sym e) i)

-- Rising records from an offset on start at this offset or after it.
rising_in : (p : ℕ) (rs : List Framed) (r : Framed) → Rising p rs → In rs r → p ≤ r.at
rising_in p [] r a i = absurd i
rising_in p (x ∷ rs) r a (inl e) = subst (λ (z : Framed). p ≤ z.at) e a.0
rising_in p (x ∷ rs) r a (inr i) = let j : x.at + 1 ≤ r.at = rising_in (x.at + 1) rs r a.1 i in let k : p ≤ x.at = a.0 in omega arith

-- The offset of a record that stays leads to the one where it is written.
moved_there : (ws : List Written) (p : ℕ) (w : Written) → Rising p (map (λ w. record_of w.output_record) ws) → In ws w → moved ws (record_of w.output_record).at ≡ w.at
moved_there [] p w a i = absurd i
moved_there (x ∷ ws) p w a (inl e) = let t : ((record_of x.output_record).at == (record_of w.output_record).at) ≡ true =
    is_eq (record_of x.output_record).at (record_of w.output_record).at (ap (λ z. (record_of z.output_record).at) e) in rw t (ap (λ z. z.at) e)
moved_there (x ∷ ws) p w a (inr i) =
    let j : (record_of x.output_record).at + 1 ≤ (record_of w.output_record).at =
    rising_in ((record_of x.output_record).at + 1) (map (λ w. record_of w.output_record) ws) (record_of w.output_record) a.1 (in_map (λ w. record_of w.output_record) ws w i) in
    let t : ((record_of x.output_record).at == (record_of w.output_record).at) ≡ false = grind (arith, nat_tests) in
    rw t (moved_there ws ((record_of x.output_record).at + 1) w a.1 i)

-- A record of an event class is that of an event.
event_kept : (p : Parts) (a : AreParts p) (f : Framed) → In p.records f → is_event_class p.classes f.type_id ≡ true → is_kept (events_of p) f ≡ true
event_kept p a f i t =
    let j : In (event_records p.classes p.records) f = passes_in (λ r. is_event_class p.classes r.type_id) p.records f i t in
    let e = map_in (λ (e : EventAt). e.record_of) (events_of p) f (subst (λ z. In z f) (sym (event_records_of p a)) j) in
    in_any (λ (e : EventAt). e.record_of.at == f.at) (events_of p) e.0 e.1 (is_eq e.0.record_of.at f.at (ap (λ (z : Framed). z.at) e.2))

module _ (slim : Option (List ℕ)) (p : Parts) (a : AreParts p) (kept : List EventAt) (are : AreEvents p kept) (good : GoodAnew p.bytes (written_anew slim p)) (marks : List Bool) (b : List ℕ) (s : Leading slim p kept marks b)
    (m : Classes) (suits : Suits p kept m) (holds : AllByRecursion (IsOutputRecordIn p.bytes (remaining_of p marks) m) (output_records slim p kept)) (held : Body)
    (reads : MetadataReads slim p a held m) (small : length b < 2 ^ 63) where
  abbrev q : Parts
  q = new_parts slim p a kept are good marks b s m suits holds held reads

  abbrev valid : AreParts q
  valid = parts_are_valid slim p a kept are good marks b s m suits holds held reads small

  abbrev remaining : List EntryAt
  remaining = remaining_of p marks

  abbrev ws : List Written
  ws = written_of slim p kept marks

  abbrev output_records_there : Framed → Bool
  output_records_there f = is_kept_or_metadata q (events_of q) f

  abbrev new_there : Framed → Option (List ℕ)
  new_there f = written_anew slim q f

  rising : Rising 68 (map (λ w. record_of w.output_record) ws)
  rising =
      subst (Rising 68) (sym (written_records p.bytes remaining b (output_records slim p kept) 68 None))
      (output_records_rise (all_links p) (is_kept_or_metadata p kept) (written_anew slim p) 68 p.records (rising_of p.bytes 68 68 (length p.bytes) p.records (omega arith) a.records))

  -- Where the metadata record becomes in what is written what it became in it.
  module _ (settles : new_there valid.metadata_record ≡ metadata_new slim p a) where
    -- A record of the output at the offset of its metadata record is the metadata record.
    pub is_metadata : (f : Framed) → IsRecord b f → f.at ≡ metadata_at b → f ≡ valid.metadata_record
    is_metadata f i e = record_one b f valid.metadata_record i
        (all_in (IsRecord b) q.records valid.metadata_record (recorded q valid) (contains_in q.records valid.metadata_record valid.metadata_there.listed)) (e ∙ sym valid.metadata_there.place)

    abbrev of_metadata : (r : Framed) → IsRecord p.bytes r → r.at ≡ metadata_at p.bytes → r ≡ a.metadata_record
    of_metadata r i e = record_one p.bytes r a.metadata_record i (metadata_stands p a) (e ∙ sym a.metadata_there.place)

    -- What was written of a record that stayed whole is an event, or the metadata record.
    whole_again : (w : Written) → In ws w → OutputRecordsWhole p.bytes remaining b (all_links q) output_records_there new_there w
    whole_again w i = by_output_record w.output_record refl
      where
        f : Framed
        f = new_frame p.bytes remaining w

        listed : In q.records f
        listed = in_map (new_frame p.bytes remaining) ws w i

        stands_there : IsRecord b f
        stands_there = all_in (IsRecord b) q.records f (recorded q valid) listed

        written_at : (s : OutputRecord) → (frame_by s w.at (length (written_bytes p.bytes remaining w))).at ≡ w.at
        written_at (Whole r) = refl
        written_at (Rebuilt r x) = refl
        written_at (Chained j l) = refl

        metadata_place : (r : Framed) → (record_of w.output_record).at ≡ r.at → r.at ≡ metadata_at p.bytes → f.at ≡ metadata_at b
        metadata_place r g h = written_at w.output_record ∙ (sym (moved_there ws 68 w rising i) ∙ (ap (moved ws) (g ∙ h) ∙ sym s.metadata))

        at_metadata : (r : Framed) → IsRecord p.bytes r → (record_of w.output_record).at ≡ r.at → r.at ≡ metadata_at p.bytes → (o : Option (List ℕ)) → written_anew slim p r ≡ o
            → (output_records_there f ≡ true) × (new_there f ≡ o)
        at_metadata r i g h o z =
            let k = metadata_place r g h in
            let n : new_there f ≡ o = ap new_there (is_metadata f stands_there k) ∙ (settles ∙ (ap (written_anew slim p) (sym (of_metadata r i h)) ∙ z)) in
            (or_right (is_kept (events_of q) f) (f.at == metadata_at b) (is_eq f.at (metadata_at b) k), n)

        not_metadata : is_event_class m f.type_id ≡ true → (t : Bool) → (f.at == metadata_at b) ≡ t → new_there f ≡ None
        not_metadata e true y =
            let k : f.at ≡ metadata_at b = grind (arith, nat_tests) in
            let z : f.type_id ≡ 0 = ap (λ (x : Framed). x.type_id) (is_metadata f stands_there k) ∙ valid.metadata_there.type_is in
            let u : is_event_class m f.type_id ≡ false = ap (is_event_class m) z ∙ no_metadata_event m in
            let x : true ≡ false = sym e ∙ u in
            cc
        not_metadata e false y = ap (λ t. if t then slim else None) y

        by_cause : (r : Framed) → w.output_record ≡ Whole r → In p.records r → (u v : Bool) → is_kept kept r ≡ u → (r.at == metadata_at p.bytes) ≡ v → (u || v) ≡ true → written_anew slim p r ≡ None
            → (output_records_there f ≡ true) × (new_there f ≡ None)
        by_cause r e o true v x y z n =
            let t : is_event_class m f.type_id ≡ true =
            ap (λ z. is_event_class m (frame_by z w.at (length (written_bytes p.bytes remaining w))).type_id) e ∙ (kept_is_event p a kept are m suits r o x).0 in
            let u : is_kept (events_of q) f ≡ true = event_kept q valid f listed t in
            (ap (λ z. z || (f.at == metadata_at b)) u, not_metadata t (f.at == metadata_at b) refl)
        by_cause r e o false true x y z n =
            let h : r.at ≡ metadata_at p.bytes = grind (arith, nat_tests) in
            at_metadata r (all_in (IsRecord p.bytes) p.records r (recorded p a) o) (ap (λ z. (record_of z).at) e) h None n
        by_cause r e o false false x y z n = cc

        by_output_record : (t : OutputRecord) → w.output_record ≡ t → Stays p.bytes remaining b (all_links q) output_records_there new_there t f
        by_output_record (Chained j l) e = tt
        by_output_record (Whole r) e =
            let x = whole_output_records (all_links p) (is_kept_or_metadata p kept) (written_anew slim p) p.records r
            (subst (In (output_records slim p kept)) e (in_written p.bytes remaining b (output_records slim p kept) 68 None w i)) in
            by_cause r e x.0 (is_kept kept r) (r.at == metadata_at p.bytes) refl refl x.1 x.2
        by_output_record (Rebuilt r y) e =
            let x = anew_output_records (all_links p) (is_kept_or_metadata p kept) (written_anew slim p) p.records r y
            (subst (In (output_records slim p kept)) e (in_written p.bytes remaining b (output_records slim p kept) 68 None w i)) in
            let t = anew_only slim p r y x.1 in
            let h : r.at ≡ metadata_at p.bytes = grind (arith, nat_tests) in
            at_metadata r (all_in (IsRecord p.bytes) p.records r (recorded p a) x.0) (ap (λ z. (record_of z).at) e) h (Some y) x.1

    -- So all of it stays.
    pub output_records_settled : output_records slim q (events_of q) ≡ new_output_records p.bytes remaining 0 68 None (output_records slim p kept)
    output_records_settled =
        output_records_again p.bytes remaining b (all_links q) output_records_there new_there (output_records slim p kept) 0 68 None [] (length b) valid.records
        (ap (enumerate_from 0) (reverse-reverse (links slim p kept marks))) tt
        (all_each (OutputRecordsWhole p.bytes remaining b (all_links q) output_records_there new_there) ws whole_again)
