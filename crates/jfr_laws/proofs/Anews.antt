-- The classes of what is written suit what is kept, and its metadata record describes them.
use Rattle.std.specs.Prelude.{◌≡◌, ℕ, ◌+◌, ◌≤◌, Bool, true, false, ◌&&◌, ◌||◌, ◌==◌, List, [], ◌∷◌, length, find, Option, Some, None, Ok, Contains, if◌then◌else◌, ◌⊎◌}
use Rattle.std.specs.List.{AllByRecursion}
use Rattle.std.specs.Option.{option_map_or}
use Rattle.std.proofs.Common.{ap, arith, refl, sym, ◌∙◌, subst, inl, inr}
use Rattle.std.proofs.lemmas.Bool.{eq-eqb}
use Rattle.std.proofs.lemmas.Bool.Decides.{nat_tests}
use Rattle.std.proofs.lemmas.List.Elements.{All-contains}
use Rattle.jfr_base.specs.Formats.{Reads}
use Rattle.jfr_base.proofs.HoldLaws.{Holds}
use Rattle.jfr_layout.specs.Classes.{Classes, find_class, is_event_class}
use Rattle.jfr_frame.specs.declared.framed.Framed.{Framed}
use Rattle.jfr_frame.specs.Records.{IsRecord}
use Rattle.jfr_frame.proofs.RecordLaws.{record_one}
use Rattle.jfr_meta.specs.Body.{Body, meta_format}
use Rattle.jfr_meta.specs.Described.{described, IsMetadata}
use Rattle.jfr_meta.proofs.Bare.{described_bare}
use Rattle.jfr_chunk.specs.Parts.{Parts, EventAt, AreParts, events_of, metadata_at}
use Rattle.jfr_chunk.specs.Laws.{AreEvents}
use Rattle.jfr_worklist.specs.Members.{In}
use Rattle.jfr_worklist.proofs.Members.{contains_in, in_contains}
use Rattle.jfr_chunk.proofs.HasNodesLaws.{has_nodes}
use Rattle.jfr_chunk.proofs.TestLaws.{is_eq}
use Rattle.jfr_layout.specs.Staying.{staying}
use Rattle.jfr_meta.specs.Slimmed.{slim_body}
use Rattle.jfr_chunk.specs.Metas.{Names, is_described, stays_in, slim_of, metadata_size, new_metadata, remaining_classes}
use Rattle.jfr_chunk.specs.Scrub.{written_anew}
use Rattle.jfr_laws.proofs.Agrees.{agree_on_event}
use Rattle.jfr_laws.proofs.Anew.{own_bytes}
use Rattle.jfr_laws.proofs.AnewLaws as laws
use Rattle.jfr_laws.proofs.AnewLaws.{IsAnew, is_anew, and_parts, some_class, any_of, left_sound, slim, stay, stands_anew}
use Rattle.jfr_laws.proofs.Found.{shown_bytes, shown_frame}
use Rattle.jfr_laws.proofs.Five.{StandsAnew}
use Rattle.jfr_laws.proofs.Listed.{in_any, in_map, in_passes}
use Rattle.jfr_laws.proofs.Metadata.{SameBody, metadata_copied}
use Rattle.jfr_laws.proofs.OutputRecords.{own_frame}
use Rattle.jfr_laws.proofs.Premises.{GoodAnew, metadata_stands, recorded}
use Rattle.jfr_laws.proofs.ReadBack.{moved_frame}
use Rattle.jfr_laws.proofs.Same.{event_records_of}
use Rattle.jfr_layout.proofs.StayingLaws.{found_as_before, events_staying}
use Rattle.jfr_laws.proofs.Suits.{Suits}
use Rattle.jfr_laws.proofs.Whole.{metadata_new, new_is, MetadataReads}

-- What the metadata record that is written holds, but for the places in its tree.
abbrev pub shown_body : (names : Names) (p : Parts) → List EventAt → Option (List ℕ) → Body
shown_body names p kept None = p.body
shown_body names p kept (Some x) = slim_of names p kept

pub record Anew (names : Names) (p : Parts) (a : AreParts p) (kept : List EventAt) : Type 0 where
  pub classes : Classes
  pub remaining : classes ≡ remaining_classes names p kept
  pub suits : Suits p kept classes
  pub reads : MetadataReads (new_metadata names p kept) p a (shown_body names p kept (new_metadata names p kept)) classes

module _ (p : Parts) (a : AreParts p) where
  -- The metadata record is found among the records.
  found_first : (rs : List Framed) → AllByRecursion (IsRecord p.bytes) rs → In rs a.metadata_record → find (λ r. r.at == metadata_at p.bytes) rs ≡ Some a.metadata_record
  found_first [] s i = absurd i
  found_first (r ∷ rs) s i = by_test (r.at == metadata_at p.bytes) refl i (found_first rs s.1)
    where
      by_test : (t : Bool) → (r.at == metadata_at p.bytes) ≡ t → (r ≡ a.metadata_record) ⊎ In rs a.metadata_record
          → (In rs a.metadata_record → find (λ r. r.at == metadata_at p.bytes) rs ≡ Some a.metadata_record)
          → (if t then Some r else find (λ r. r.at == metadata_at p.bytes) rs) ≡ Some a.metadata_record
      by_test true e i f =
          let h : r.at ≡ metadata_at p.bytes = grind (arith, nat_tests) in
          ap (λ z. Some z) (record_one p.bytes r a.metadata_record s.0 (metadata_stands p a) (h ∙ sym a.metadata_there.place))
      by_test false e (inl g) f = let h : true ≡ false = sym (is_eq r.at (metadata_at p.bytes) (ap (λ (z : Framed). z.at) g ∙ a.metadata_there.place)) ∙ e in cc
      by_test false e (inr j) f = f j

  pub size_is : metadata_size p ≡ a.metadata_record.size
  size_is = ap (λ o. option_map_or (λ (r : Framed). r.size) o 0) (found_first p.records (recorded p a) (contains_in p.records a.metadata_record a.metadata_there.listed))

-- What is built anew is a record, and no longer than the metadata record.
pub good_anew : (names : Names) (p : Parts) (a : AreParts p) (kept : List EventAt) → GoodAnew p.bytes (written_anew (new_metadata names p kept) p)
good_anew names p a kept r x i e = by_test (r.at == metadata_at p.bytes) refl e
  where
    by_test : (t : Bool) → (r.at == metadata_at p.bytes) ≡ t → (if t then new_metadata names p kept else None) ≡ Some x → IsRecord x (own_frame x) × (length x ≤ r.size)
    by_test true q e =
        let n = is_anew names p kept (metadata_size p) x e in
        let h : r.at ≡ metadata_at p.bytes = grind (arith, nat_tests) in
        let g : r ≡ a.metadata_record = record_one p.bytes r a.metadata_record i (metadata_stands p a) (h ∙ sym a.metadata_there.place) in
        ((stands_anew names p a kept (metadata_size p) x n).is_record, omega (arith, n.fits, size_is p a, ap (λ (z : Framed). z.size) g))
    by_test false q e = cc

-- A kept event is of an event class.
pub is_event : (p : Parts) (a : AreParts p) (kept : List EventAt) → AreEvents p kept → (e : EventAt) → In kept e → is_event_class p.classes e.record_of.type_id ≡ true
is_event p a kept are e i =
    let j : In (events_of p) e = contains_in (events_of p) e (All-contains (Contains (events_of p)) kept e are (in_contains kept e i)) in
    in_passes (λ (r : Framed). is_event_class p.classes r.type_id) p.records e.record_of
    (subst (λ z. In z e.record_of) (event_records_of p a) (in_map (λ (e : EventAt). e.record_of) (events_of p) e j))

module _ (names : Names) (p : Parts) (a : AreParts p) (kept : List EventAt) (are : AreEvents p kept) where
  suits_all : Suits p kept p.classes
  suits_all = record { sound = (has_nodes p a).sound; agree = λ id e. agree_on_event p.classes id (has_nodes p a).sound e; before = λ id e. e; event = is_event p a kept are }

  abbrev stays : ℕ → Bool
  stays = stays_in names p kept

  used_stays : (e : EventAt) → In kept e → stays e.record_of.type_id ≡ true
  used_stays e i =
      let c = some_class p.classes e.record_of.type_id (is_event p a kept are e i) in
      (stay names p a kept).has.uses e.record_of.type_id (any_of p.classes e.record_of.type_id c.0 c.1)
      (ap (λ t. t || is_described names p.classes e.record_of.type_id)
      (in_any (λ (f : EventAt). f.record_of.type_id == e.record_of.type_id) kept e i (eq-eqb e.record_of.type_id e.record_of.type_id refl)))

  both : (t u : Bool) → t ≡ true → u ≡ true → (t && u) ≡ true
  both t u e f = ap (λ b. b && u) e ∙ f

  suits_left : Suits p kept (staying stays p.classes)
  suits_left = record {
    sound = left_sound names p a kept;
    agree = λ id e.
        (let h = and_parts (stays id) (is_event_class p.classes id) (sym (events_staying p.classes stays id) ∙ e) in
        let c = some_class p.classes id h.1 in
        laws.agree_left names p a kept id c.0 c.1 h.0);
    before = λ id e. (and_parts (stays id) (is_event_class p.classes id) (sym (events_staying p.classes stays id) ∙ e)).1;
    event = λ e i. events_staying p.classes stays e.record_of.type_id ∙ both (stays e.record_of.type_id) (is_event_class p.classes e.record_of.type_id) (used_stays e i) (is_event p a kept are e i);
  }

  -- The class of a kept event is as it was.
  pub left_found : (e : EventAt) → In kept e → find_class (remaining_classes names p kept) e.record_of.type_id ≡ find_class p.classes e.record_of.type_id
  left_found e i = by_new (new_metadata names p kept)
    where
      by_new : (w : Option (List ℕ)) → find_class (option_map_or (λ x. staying stays p.classes) w p.classes) e.record_of.type_id ≡ find_class p.classes e.record_of.type_id
      by_new None = refl
      by_new (Some x) = found_as_before p.classes stays e.record_of.type_id (used_stays e i)

  then_same : (y z : Body) → SameBody (slim_of names p kept) y → SameBody y z → SameBody (slim_of names p kept) z
  then_same y z e f = record { start = e.start ∙ f.start; duration = e.duration ∙ f.duration; id = e.id ∙ f.id; strings = e.strings ∙ f.strings; root = e.root ∙ f.root }

  -- It is read with the classes that stay.
  reads_anew : (x : List ℕ) → IsAnew names p kept (metadata_size p) x → (b : List ℕ) (place : ℕ) → Holds b (length b) place x
      → (body : Body) × IsMetadata b (moved_frame place (own_frame x) (length x)) body (staying stays p.classes) × SameBody (slim_of names p kept) body
  unfolding slim_body
  reads_anew x n b place h =
      let s : StandsAnew x (slim_of names p kept) = stands_anew names p a kept (metadata_size p) x n in
      let y : Body = record { start = p.body.start; duration = p.body.duration; id = p.body.id; strings = (slim_of names p kept).strings; root = s.tree } in
      let e : length x ≡ 0 + length x = omega arith in
      let r : Reads meta_format x (0 + length x) 6 y (0 + length x) = subst (λ z. Reads meta_format x z 6 y z) e s.body in
      let k : described y ≡ Ok (staying stays p.classes) = described_bare p.body.start p.body.duration p.body.id (slim_of names p kept).strings (slim_of names p kept).root s.tree
      (staying stays p.classes) (sym s.same) (slim names p a kept).classes in
      let m : IsMetadata x (own_frame x) y (staying stays p.classes) = record { body = r; classes = k } in
      let g = metadata_copied x b (own_frame x) place y (staying stays p.classes) s.is_record (subst (Holds b (length b) place) (sym (own_bytes x)) h) m in (
        g.0,
        subst (λ z. IsMetadata b (moved_frame place (own_frame x) (length z)) g.0 (staying stays p.classes)) (own_bytes x) g.1,
        then_same y g.0
            (record { start = refl; duration = refl; id = refl; strings = refl; root = sym s.same }) g.2,
      )

  abbrev Reading : Option (List ℕ) → Option (List ℕ) → Classes → Type 0
  Reading w v m = (b : List ℕ) (place : ℕ) → Holds b (length b) place (shown_bytes p.bytes w a.metadata_record) → (body : Body) × IsMetadata b
      (shown_frame p.bytes w a.metadata_record place) body m × SameBody (shown_body names p kept v) body

  reading : (m : Classes) → Reading (new_metadata names p kept) (new_metadata names p kept) m → Reading (metadata_new (new_metadata names p kept) p a) (new_metadata names p kept) m
  reading m = subst (λ w. Reading w (new_metadata names p kept) m) (sym (new_is (new_metadata names p kept) p a))

  pub anew : Anew names p a kept
  anew = by_new (new_metadata names p kept) refl
    where
      by_new : (w : Option (List ℕ)) → new_metadata names p kept ≡ w → Anew names p a kept
      by_new None e = record {
        classes = p.classes;
        remaining = sym (ap (λ o. option_map_or (λ x. staying stays p.classes) o p.classes) e);
        suits = suits_all;
        reads = reading p.classes (subst (λ w. Reading w w p.classes) (sym e) (λ b place h. metadata_copied p.bytes b a.metadata_record place p.body p.classes (metadata_stands p a) h a.metadata));
      }
      by_new (Some x) e = record {
        classes = staying stays p.classes;
        remaining = sym (ap (λ o. option_map_or (λ x. staying stays p.classes) o p.classes) e);
        suits = suits_left;
        reads = reading (staying stays p.classes) (subst (λ w. Reading w w (staying stays p.classes)) (sym e) (λ b place h. reads_anew x (is_anew names p kept (metadata_size p) x e) b place h));
      }
