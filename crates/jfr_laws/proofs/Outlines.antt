-- What an output tells, from the outlines of its records, the bytes of its events, and its pools.
use Rattle.std.specs.Prelude.{◌≡◌, ◌⊎◌, ℕ, suc, ◌+◌, ◌==◌, ◌||◌, Bool, true, false, List, [], ◌∷◌, map, find, reverse, slice_get, Option, Some, None, option_and_then, ⊤}
use Rattle.std.specs.List.{AllByRecursion, cons_option, enumerate_from, filter_map, list_any}
use Rattle.std.specs.Option.{option_map_or}
use Rattle.std.proofs.Common.{ap, arith, refl, sym, ◌∙◌, inl, inr}
use Rattle.std.proofs.lemmas.Bool.Decides.{nat_tests}
use Rattle.jfr_layout.specs.Classes.{is_event_class}
use Rattle.jfr_frame.specs.declared.framed.Framed.{Framed}
use Rattle.jfr_frame.specs.Records.{IsRecord, record_bytes}
use Rattle.jfr_frame.proofs.RecordLaws.{record_one}
use Rattle.jfr_pool.specs.declared.link.Link.{Link}
use Rattle.jfr_pool.specs.declared.entry.EntryAt.{EntryAt}
use Rattle.jfr_worklist.specs.Members.{In}
use Rattle.jfr_worklist.proofs.Members.{get_in}
use Rattle.jfr_chunk.specs.Parts.{Parts, EventAt, AreParts, metadata_at}
use Rattle.jfr_chunk.specs.Laws.{AreEvents}
use Rattle.jfr_chunk.specs.Scrub.{OutputRecord, Whole, Chained, Rebuilt, output_record_by, output_record_of, output_records, is_kept_or_metadata, written_anew}
use Rattle.jfr_chunk.specs.Written.{entry_bytes}
use Rattle.jfr_chunk.proofs.AllLaws.{all_in}
use Rattle.jfr_chunk.proofs.StageLaws.{found_in}
use Rattle.jfr_laws.specs.Told.{ToldPool, ToldRecord, Event, Metadata, Checkpoint, told_pools, told_record}
use Rattle.jfr_laws.specs.SameKept.{Outline, OfEvent, OfMetadata, OfCheckpoint, number_from, outline_of, outlines}
use Rattle.jfr_laws.proofs.Anews.{is_event}
use Rattle.jfr_laws.proofs.Premises.{metadata_stands, recorded}
use Rattle.jfr_laws.proofs.Same.{event_of_chunk}

-- What is written for records that aren't checkpoints, for kept events, and for entries: the first is the second
-- for the record of a kept event, and the record's bytes for any other.
pub record Spelled (p : Parts) (kept : List EventAt) : Type 0 where
  pub whole : Framed → List ℕ
  pub event : EventAt → List ℕ
  pub entry : EntryAt → List ℕ
  pub other : (r : Framed) → find (λ e. e.record_of.at == r.at) kept ≡ None → whole r ≡ record_bytes p.bytes r
  pub of_event : (r : Framed) (e : EventAt) → find (λ e. e.record_of.at == r.at) kept ≡ Some e → r ≡ e.record_of → whole r ≡ event e

-- All is written unchanged.
abbrev pub unchanged : (p : Parts) (kept : List EventAt) → Spelled p kept
unchanged p kept = record {
  whole = record_bytes p.bytes;
  event = λ e. record_bytes p.bytes e.record_of;
  entry = entry_bytes p.bytes;
  other = λ r h. refl;
  of_event = λ r e h i. ap (record_bytes p.bytes) i;
}

-- An outline with the bytes of its event, or with its pools.
abbrev pub filled : (Option ℕ → List ℕ) → (ℕ → List ToldPool) → Outline → ToldRecord
filled event pools (OfEvent number) = Event (event number)
filled event pools (OfMetadata x) = Metadata x
filled event pools (OfCheckpoint number k) = Checkpoint (record k { pools = pools number })

-- The bytes of the kept event with this number.
abbrev pub event_in : (EventAt → List ℕ) → List EventAt → Option ℕ → List ℕ
event_in bytes kept number = option_map_or bytes (option_and_then (λ n. slice_get kept n) number) []

pub filled_same : (g h : Option ℕ → List ℕ) (u v : ℕ → List ToldPool) → ((i : Option ℕ) → g i ≡ h i) → ((n : ℕ) → u n ≡ v n) → (bs : List Outline) → map (filled g u) bs ≡ map (filled h v) bs
filled_same g h u v e f [] = refl
filled_same g h u v e f (OfEvent i ∷ bs) = ap (λ z. Event z ∷ map (filled g u) bs) (e i) ∙ ap (λ z. Event (h i) ∷ z) (filled_same g h u v e f bs)
filled_same g h u v e f (OfMetadata x ∷ bs) = ap (λ z. Metadata x ∷ z) (filled_same g h u v e f bs)
filled_same g h u v e f (OfCheckpoint n k ∷ bs) =
    ap (λ z. Checkpoint (record k { pools = z }) ∷ map (filled g u) bs) (f n) ∙ ap (λ z. Checkpoint (record k { pools = v n }) ∷ z) (filled_same g h u v e f bs)

-- The first event whose record starts at an offset, and its number.
record First (at n : ℕ) (es : List EventAt) : Type 0 where
  number : ℕ
  event : EventAt
  there : slice_get es number ≡ Some event
  counted : number_from at n es ≡ Some (n + number)
  found : find (λ e. e.record_of.at == at) es ≡ Some event
  test : (event.record_of.at == at) ≡ true

first_at : (at n : ℕ) (es : List EventAt) → list_any (λ e. e.record_of.at == at) es ≡ true → First at n es
first_at at n [] h = cc
first_at at n (e ∷ es) h = by_test (e.record_of.at == at) refl h (first_at at (n + 1) es)
  where
    some_same : (i j : ℕ) → i ≡ j → Some i ≡ Some j
    some_same i j e = ap (λ z. Some z) e

    by_test : (t : Bool) → (e.record_of.at == at) ≡ t → (t || list_any (λ e. e.record_of.at == at) es) ≡ true → (list_any (λ e. e.record_of.at == at) es ≡ true → First at (n + 1) es)
        → First at n (e ∷ es)
    by_test true q h f = record { number = 0; event = e; there = refl; counted = rw q (some_same n (n + 0) (omega arith)); found = rw q refl; test = q }
    by_test false q h f =
        let s = f h in
        record {
          number = suc s.number;
          event = s.event;
          there = s.there;
          counted = rw q (s.counted ∙ some_same (n + 1 + s.number) (n + suc s.number) (omega arith));
          found = rw q s.found;
          test =
              s.test;
        }

no_metadata_event : (p : Parts) → is_event_class p.classes 0 ≡ false
unfolding is_event_class
no_metadata_event p = refl

not_both : (t : Bool) → t ≡ true → t ≡ false → ⊥
not_both t e f = cc

zero_plus : (n : ℕ) → 0 + n ≡ n
zero_plus n = omega arith

module _ (slim : Option (List ℕ)) (p : Parts) (a : AreParts p) (kept : List EventAt) (are : AreEvents p kept) where
  stands : (r : Framed) → In p.records r → IsRecord p.bytes r
  stands r i = all_in (IsRecord p.bytes) p.records r (recorded p a) i

  -- A record that is written whole is that of a kept event, or the metadata record and no event's.
  record IsKept (r : Framed) : Type 0 where
    number : ℕ
    event : EventAt
    there : slice_get kept number ≡ Some event
    counted : number_from r.at 0 kept ≡ Some number
    found : find (λ e. e.record_of.at == r.at) kept ≡ Some event
    is : r ≡ event.record_of

  abbrev IsEither : OutputRecord → Type 0
  IsEither (Whole r) = (((r.at == metadata_at p.bytes) ≡ true) × (find (λ e. e.record_of.at == r.at) kept ≡ None)) ⊎ (((r.at == metadata_at p.bytes) ≡ false) × IsKept r)
  IsEither (Rebuilt r x) = ⊤
  IsEither (Chained n l) = ⊤

  is_kept : (r : Framed) → IsRecord p.bytes r → list_any (λ e. e.record_of.at == r.at) kept ≡ true → IsKept r
  is_kept r i h =
      let s = first_at r.at 0 kept h in
      let j : In kept s.event = get_in kept s.number s.event s.there in
      let q : s.event.record_of.at ≡ r.at = (let t : (s.event.record_of.at == r.at) ≡ true = s.test in grind (arith, nat_tests)) in
      let k : r ≡ s.event.record_of = record_one p.bytes r s.event.record_of i (stands s.event.record_of (event_of_chunk p a kept are s.event j).listed) (sym q) in
      record { number = s.number; event = s.event; there = s.there; counted = s.counted ∙ ap (λ z. Some z) (zero_plus s.number); found = s.found; is = k }

  no_event : (r : Framed) → (r.at == metadata_at p.bytes) ≡ true → find (λ e. e.record_of.at == r.at) kept ≡ None
  no_event r h = by_found (find (λ e. e.record_of.at == r.at) kept) refl
    where
      by_found : (o : Option EventAt) → find (λ e. e.record_of.at == r.at) kept ≡ o → o ≡ None
      by_found None e = refl
      by_found (Some x) e =
          let f = found_in (λ e. e.record_of.at == r.at) kept x e in
          let q : x.record_of.at ≡ r.at = (let t : (x.record_of.at == r.at) ≡ true = f.1 in grind (arith, nat_tests)) in
          let y : r.at ≡ metadata_at p.bytes = grind (arith, nat_tests) in
          let k : x.record_of ≡ a.metadata_record =
          record_one p.bytes x.record_of a.metadata_record (stands x.record_of (event_of_chunk p a kept are x f.0).listed) (metadata_stands p a) (q ∙ (y ∙ sym a.metadata_there.place)) in
          let u : is_event_class p.classes x.record_of.type_id ≡ false =
          ap (λ (z : Framed). is_event_class p.classes z.type_id) k ∙ (ap (is_event_class p.classes) a.metadata_there.type_is ∙ no_metadata_event p) in
          absurd (not_both (is_event_class p.classes x.record_of.type_id) (is_event p a kept are x f.0) u)

  either_from : (rs : List Framed) → AllByRecursion (IsRecord p.bytes) rs → AllByRecursion IsEither (filter_map (output_record_of slim p kept) rs)
  either_from [] i = tt
  either_from (r ∷ rs) i = one (find (λ l. l.1.frame.at == r.at) (enumerate_from 0 (reverse p.chain))) (is_kept_or_metadata p kept r) refl (written_anew slim p r) (either_from rs i.1)
    where
      whole : (t u : Bool) → list_any (λ e. e.record_of.at == r.at) kept ≡ t → (r.at == metadata_at p.bytes) ≡ u → (t || u) ≡ true → IsEither (Whole r)
      whole t true e f h = inl (f, no_event r f)
      whole true false e f h = inr (f, is_kept r i.0 e)
      whole false false e f h = cc

      one : (o : Option (ℕ × Link)) (t : Bool) → is_kept_or_metadata p kept r ≡ t → (w : Option (List ℕ)) → AllByRecursion IsEither (filter_map (output_record_of slim p kept) rs)
          → AllByRecursion IsEither (cons_option (output_record_by o t w r) (filter_map (output_record_of slim p kept) rs))
      one (Some l) t e w k = (tt, k)
      one None true e None k = (whole (list_any (λ e. e.record_of.at == r.at) kept) (r.at == metadata_at p.bytes) refl refl e, k)
      one None true e (Some x) k = (tt, k)
      one None false e w k = k

  module _ (x : Spelled p kept) (entries : List EntryAt) where
    abbrev shown : OutputRecord → ToldRecord
    shown s = told_record x.whole x.entry p entries s

    abbrev fill : Outline → ToldRecord
    fill b = filled (event_in x.event kept) (told_pools x.entry entries) b

    filled_from : (ss : List OutputRecord) → AllByRecursion IsEither ss → map shown ss ≡ map fill (map (outline_of p kept) ss)
    filled_from [] g = refl
    filled_from (Whole r ∷ ss) g = one g.0 (filled_from ss g.1)
      where
        one : IsEither (Whole r) → map shown ss ≡ map fill (map (outline_of p kept) ss) → map shown (Whole r ∷ ss) ≡ map fill (map (outline_of p kept) (Whole r ∷ ss))
        one (inl h) k = rw h.0 (λ i. Metadata (x.other r h.1 i) ∷ k i)
        one (inr h) k = rw (h.0, h.1.counted, h.1.there) (λ i. Event (x.of_event r h.1.event h.1.found h.1.is i) ∷ k i)
    filled_from (Rebuilt r y ∷ ss) g = ap (λ z. Metadata y ∷ z) (filled_from ss g.1)
    filled_from (Chained n l ∷ ss) g = ap (λ z. shown (Chained n l) ∷ z) (filled_from ss g.1)

    pub told_filled : map shown (output_records slim p kept) ≡ map fill (outlines slim p kept)
    told_filled = filled_from (output_records slim p kept) (either_from p.records (recorded p a))
