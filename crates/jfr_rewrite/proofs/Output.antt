-- What is written is read back: each record, and so all of them.
use Rattle.std.specs.Prelude.{◌≡◌, ℕ, ◌+◌, ◌-◌, ◌==◌, ◌||◌, Bool, true, false, List, [], ◌∷◌, length, map, filter, find, Option, Some, None, cond, unwrap_or, ⊤}
use Rattle.std.specs.Int.{cast_signed, w64}
use Rattle.std.specs.List.{flat_map, AllByRecursion, cons_option, list_any, enumerate_from}
use Rattle.std.proofs.Common.{ap, refl, sym, ◌∙◌, subst, inl, inr}
use Rattle.std.proofs.lemmas.Map.Views.{exact_unsigned_eq}
use Rattle.jfr_base.specs.Integer.{spell}
use Rattle.jfr_base.specs.Formats.{Format, Reads}
use Rattle.jfr_base.proofs.AlikeLaws.{Each}
use Rattle.jfr_base.proofs.HoldLaws.{Holds, holds_parts, placed_each}
use Rattle.jfr_layout.specs.Classes.{Agree, Classes, Sound, is_event_class}
use Rattle.jfr_frame.specs.declared.framed.Framed.{Framed}
use Rattle.jfr_frame.specs.Records.{IsRecord, record_bytes}
use Rattle.jfr_frame.proofs.RecordLaws.{record_one}
use Rattle.jfr_meta.specs.Body.{Body}
use Rattle.jfr_meta.specs.Described.{IsMetadata}
use Rattle.jfr_value.specs.Values.{Value}
use Rattle.jfr_value.specs.Reading.{value_format}
use Rattle.jfr_value.proofs.AgreeLaws.{value_agree}
use Rattle.jfr_pool.specs.declared.link.Link.{Link}
use Rattle.jfr_pool.specs.declared.entry.EntryAt.{EntryAt}
use Rattle.jfr_pool.specs.Chains.{head_format}
use Rattle.jfr_pool.specs.Entries.{PoolAt, checkpoint_format, entries_from, inline}
use Rattle.jfr_worklist.specs.Members.{In}
use Rattle.jfr_worklist.proofs.Members.{in_contains}
use Rattle.jfr_chunk.specs.Parts.{Parts, EventAt, AreParts, HasFields, metadata_at}
use Rattle.jfr_chunk.specs.Reach.{marked, kept_by}
use Rattle.jfr_chunk.specs.Written.{Group, distance}
use Rattle.jfr_chunk.specs.Scrub.{OutputRecord, Whole, Chained, Rebuilt, Written, groups_of, is_kept_or_metadata, output_record_by, output_records, written_anew}
use Rattle.jfr_chunk.proofs.AllLaws.{all_in, filter_all}
use Rattle.jfr_chunk.proofs.HasNodesLaws.{IsEvent, has_nodes}
use Rattle.jfr_laws.proofs.Found.{shown}
use Rattle.jfr_laws.proofs.Rebuilt.{anew_only}
use Rattle.jfr_laws.proofs.Suits as laws
use Rattle.jfr_laws.proofs.Suits.{records_too}
use Rattle.jfr_laws.proofs.Whole.{new_is}
use Rattle.jfr_laws.proofs.Order.{Numbered, numbered_at, output_records_in, chained_of}
use Rattle.jfr_laws.proofs.OutputRecords.{IsOutputRecordIn}
use Rattle.jfr_laws.proofs.Premises.{all_links, Ready, recorded, metadata_stands, ready}
use Rattle.jfr_laws.proofs.Passing.{IfPasses, passes_all, clash}
use Rattle.jfr_laws.proofs.Quiet.{no_checkpoint_event, no_metadata_event}
use Rattle.jfr_laws.proofs.Groups.{groups_hold}
use Rattle.jfr_laws.proofs.Checkpoints.{have_number}
use Rattle.jfr_laws.proofs.Entries.{each_append}
use Rattle.jfr_laws.proofs.Output.{entries_by_number}
use Rattle.jfr_laws.proofs.Same.{chosen_events, event_of_chunk}
use Rattle.jfr_rewrite.specs.Rewrite.{Rewrite, resized, event_tail, event_bytes, event_there, chained_tail, whole_bytes, new_bytes, written_by}
use Rattle.jfr_rewrite.specs.Rewritten.{CarriesTail, CarriesRecord, CarriesAll, frame_from, metadata_bytes}
use Rattle.jfr_rewrite.proofs.Rewriting.{Rewriting}
use Rattle.jfr_rewrite.proofs.RecordBack.{new_frame, tail_of, EventRead, event_read}
use Rattle.jfr_rewrite.proofs.SpelledBack.{SpelledPool, bytes_of_pool, pool_at}
use Rattle.jfr_rewrite.proofs.CheckpointBack.{CheckpointRead, checkpoint_read, body_of, new_pools_at}
use Rattle.jfr_rewrite.proofs.Pools.{spelled_pool, pools_under, tail_spelled, Renewed, groups_renewed}
use Rattle.jfr_rewrite.proofs.Made.{AllRead, ChainedRead, bytes_from, frame_at, frame_of, entries_at}

pub find_in : {X : Type 0} (test : X → Bool) (xs : List X) (x : X) → find test xs ≡ Some x → In xs x × (test x ≡ true)
find_in test [] x e = cc
find_in {X = X} test (y ∷ xs) x e = by_test (test y) refl e (find_in test xs x)
  where
    by_test : (t : Bool) → test y ≡ t → cond t (Some y) (find test xs) ≡ Some x → (find test xs ≡ Some x → In xs x × (test x ≡ true)) → In (y ∷ xs) x × (test x ≡ true)
    by_test true q h f = let g : y ≡ x = (let z : Some y ≡ Some x = h in cc) in (inl g, ap test (sym g) ∙ q)
    by_test false q h f = let r = f h in (inr r.0, r.1)

find_none : {X : Type 0} (test : X → Bool) (xs : List X) → find test xs ≡ None → list_any test xs ≡ false
find_none test [] e = refl
find_none test (y ∷ xs) e = by_test (test y) e (find_none test xs)
  where
    by_test : (t : Bool) → cond t (Some y) (find test xs) ≡ None → (find test xs ≡ None → list_any test xs ≡ false) → (t || list_any test xs) ≡ false
    by_test true h f = cc
    by_test false h f = f h

-- What holds of records that are written whole, which are chosen, and of those that are built anew.
abbrev pub OnChosen : (Framed → Type 0) → (Framed → Bool) → (Framed → Option (List ℕ)) → OutputRecord → Type 0
OnChosen P whole new (Whole r) = P r × (whole r ≡ true) × (new r ≡ None)
OnChosen P whole new (Rebuilt r x) = P r × (new r ≡ Some x)
OnChosen P whole new (Chained i l) = ⊤

pub on_chosen : (P : Framed → Type 0) (all : List Numbered) (whole : Framed → Bool) (new : Framed → Option (List ℕ)) (rs : List Framed) → AllByRecursion P rs
    → AllByRecursion (OnChosen P whole new) (output_records_in all whole new rs)
on_chosen P all whole new [] a = tt
on_chosen P all whole new (r ∷ rs) a = one (numbered_at all r.at) (whole r) refl (new r) refl (on_chosen P all whole new rs a.1)
  where
    one : (o : Option Numbered) (t : Bool) → whole r ≡ t → (z : Option (List ℕ)) → new r ≡ z → AllByRecursion (OnChosen P whole new) (output_records_in all whole new rs)
        → AllByRecursion (OnChosen P whole new) (cons_option (output_record_by o t z r) (output_records_in all whole new rs))
    one (Some l) t q z v i = (tt, i)
    one None true q None v i = ((a.0, q, v), i)
    one None true q (Some x) v i = ((a.0, v), i)
    one None false q z v i = i

-- Nothing is built anew.
abbrev pub none_anew : Framed → Option (List ℕ)
none_anew r = None

-- What holds of chained checkpoints.
abbrev pub OnChained : (OutputRecord → Type 0) → OutputRecord → Type 0
OnChained P (Whole r) = ⊤
OnChained P (Rebuilt r x) = ⊤
OnChained P (Chained i l) = P (Chained i l)

-- The chained checkpoints are the same, whatever is built anew.
module _ (all : List Numbered) (whole : Framed → Bool) (new : Framed → Option (List ℕ)) where
  same_chain : (rs : List Framed) → chained_of (output_records_in all whole new rs) ≡ chained_of (output_records_in all whole none_anew rs)
  same_chain [] = refl
  same_chain (r ∷ rs) = one (numbered_at all r.at) (whole r) (new r) (same_chain rs)
    where
      one : (o : Option Numbered) (t : Bool) (z : Option (List ℕ)) → chained_of (output_records_in all whole new rs) ≡ chained_of (output_records_in all whole none_anew rs)
          → chained_of (cons_option (output_record_by o t z r) (output_records_in all whole new rs)) ≡ chained_of (cons_option (output_record_by o t None r) (output_records_in all whole none_anew rs))
      one (Some l) t z e = ap (λ xs. (l.0, l.1) ∷ xs) e
      one None true None e = e
      one None true (Some x) e = e
      one None false z e = e

  pub on_chained : (P : OutputRecord → Type 0) (rs : List Framed) → AllByRecursion P (output_records_in all whole none_anew rs) → AllByRecursion (OnChained P) (output_records_in all whole new rs)
  on_chained P [] a = tt
  on_chained P (r ∷ rs) a = one (numbered_at all r.at) (whole r) (new r) a (on_chained P rs)
    where
      one : (o : Option Numbered) (t : Bool) (z : Option (List ℕ)) → AllByRecursion P (cons_option (output_record_by o t None r) (output_records_in all whole none_anew rs))
          → (AllByRecursion P (output_records_in all whole none_anew rs) → AllByRecursion (OnChained P) (output_records_in all whole new rs))
          → AllByRecursion (OnChained P) (cons_option (output_record_by o t z r) (output_records_in all whole new rs))
      one (Some l) t z a f = (a.0, f a.1)
      one None true None a f = (tt, f a.1)
      one None true (Some x) a f = (tt, f a.1)
      one None false z a f = f a

module _ (given : Rewriting) where
  abbrev w : Rewrite
  w = given.rewrite

  abbrev p : Parts
  p = given.parts

  abbrev a : AreParts p
  a = given.accepted

  abbrev m : Classes
  m = given.classes

  abbrev pub kept : List EventAt
  kept = kept_by p given.flags

  abbrev pub remaining : List EntryAt
  remaining = marked given.marks p.entries

  abbrev pub sound : Sound p.classes
  sound = (has_nodes p a).sound

  pub suits_kept : laws.Suits p kept m
  suits_kept = record { sound = given.suits.sound; agree = given.suits.agree; before = given.suits.before; event = λ e i. given.suits.event e (in_contains kept e i) }

  abbrev pub bytes : OutputRecord → ℕ → Option ℕ → List ℕ
  bytes = new_bytes w p kept remaining

  -- Where the type and the body of a record are, after its start.
  abbrev pub whole_after : Framed → Option EventAt → ℕ × ℕ
  whole_after r (Some e) = (w.width e.record_of (length (event_tail w p e)), w.width e.record_of (length (event_tail w p e)) + (r.body - r.type_at))
  whole_after r None = (given.describes.type_after, given.describes.body_after)

  abbrev pub after : OutputRecord → ℕ × ℕ
  after (Whole r) = whole_after r (event_there kept r)
  after (Rebuilt r x) = (given.describes.type_after, given.describes.body_after)
  after (Chained i l) = (0, 0)

  abbrev pub width : ℕ → Link → ℕ → Option ℕ → ℕ
  width i l at older = w.width l.frame (length (chained_tail w p remaining i l at older))

  abbrev spelled_groups : ℕ → List SpelledPool
  spelled_groups i = map (spelled_pool w p sound given.keeps) (groups_of remaining i)

  abbrev pub pools_at : ℕ → Option ℕ → ℕ → Link → ℕ
  pools_at at older i l = new_pools_at at (width i l at older) l (distance at older) (length (spelled_groups i))

  abbrev pub pools : ℕ → Option ℕ → ℕ → Link → List PoolAt
  pools at older i l = placed_each bytes_of_pool pool_at (pools_at at older i l) (spelled_groups i)

  -- A size that is written is carried.
  abbrev Carried : OutputRecord → ℕ → Option ℕ → Type 0
  Carried o at older = CarriesRecord w p kept remaining o at older

  abbrev pub CarriedFrom : ℕ → Option ℕ → List OutputRecord → Type 0
  CarriedFrom at older xs = AllByRecursion (λ (o : Written). Carried o.output_record o.at o.newest) (written_by bytes at older xs)

  -- A checkpoint.
  chained_is : (i : ℕ) (l : Link) → IsOutputRecordIn p.bytes remaining p.classes (Chained i l) → (at : ℕ) (older : Option ℕ)
      → chained_tail w p remaining i l at older ≡ tail_of p.bytes l.frame (body_of p.bytes l (distance at older) (spelled_groups i))
  chained_is i l s at older = tail_spelled w p sound given.keeps l (distance at older) (groups_of remaining i) s.1

  -- The entries of its pools are of classes on which both lists agree.
  groups_agree : (i : ℕ) → AllByRecursion (λ e. Agree p.classes m e.class) (flat_map (λ g. g.entries) (groups_of remaining i))
  groups_agree i =
      let these : List EntryAt = filter (λ e. e.checkpoint == i) remaining in
      subst (AllByRecursion (λ e. Agree p.classes m e.class)) (sym (groups_hold these)) (filter_all (λ e. Agree p.classes m e.class) (λ e. e.checkpoint == i) remaining given.suits.entry)

  -- It can be written under either list.
  record Can (o : OutputRecord) : Type 0 where
    before : IsOutputRecordIn p.bytes remaining p.classes o
    later : IsOutputRecordIn p.bytes remaining m o

  -- The width of the checkpoint's size, if this is what follows the size.
  abbrev width_with : Link → List ℕ → ℕ
  width_with l z = w.width l.frame (length z)

  abbrev tail_spelled_of : ℕ → Link → ℕ → Option ℕ → List ℕ
  tail_spelled_of i l at older = tail_of p.bytes l.frame (body_of p.bytes l (distance at older) (spelled_groups i))

  chained_back : (b : List ℕ) (i : ℕ) (l : Link) → Can (Chained i l) → (at : ℕ) (older : Option ℕ) → Carried (Chained i l) at older → Holds b (length b) at (bytes (Chained i l) at older)
      → CheckpointRead p.bytes l (distance at older) (spelled_groups i) (width_with l (tail_spelled_of i l at older)) m b at
  chained_back b i l s at older c h =
      let e = chained_is i l s.before at older in
      checkpoint_read p.bytes l (distance at older) (spelled_groups i) (width_with l (tail_spelled_of i l at older)) m b at s.before.0
      (pools_under w p sound given.keeps m (groups_of remaining i) s.before.1 s.later.1 (groups_agree i)) (subst (CarriesTail w l.frame) e c)
      (subst (λ z. Holds b (length b) at (resized w l.frame z)) e h)

  chained_read : (b : List ℕ) (i : ℕ) (l : Link) → Can (Chained i l) → (at : ℕ) (older : Option ℕ) → Carried (Chained i l) at older → Holds b (length b) at (bytes (Chained i l) at older)
      → ChainedRead m bytes after width pools b i l at older
  chained_read b i l s at older c h =
      let e = chained_is i l s.before at older in
      let st = chained_back b i l s at older c h in
      let delta : ℕ = distance at older in
      let body : List ℕ → ℕ = λ z. at + (width_with l z + (l.frame.body - l.frame.type_at)) in
      let delta_at : List ℕ → ℕ = λ z. at + width_with l z + (l.delta_at - l.frame.type_at) in
      let last : List ℕ → ℕ = λ z. at + length (resized w l.frame z) in
      let count : ℕ = length (spelled_groups i) in
      record {
        is_record = subst (λ z. IsRecord b (new_frame at (width_with l z) (length (resized w l.frame z)) l.frame)) (sym e) st.is_record;
        head =
            subst (λ z. Reads head_format b (last z) (body z) (record { at = delta_at z; end = delta_at z + length (spell delta); value = cast_signed w64 delta }) (delta_at z + length (spell delta)))
            (sym e) st.head;
        are_pools =
            subst (λ z. Reads (checkpoint_format m) b (last z) (body z) (placed_each bytes_of_pool pool_at (new_pools_at at (width_with l z) l delta count) (spelled_groups i)) (last z))
            (sym e) st.are_pools;
      }

  pools_held : (b : List ℕ) (i : ℕ) (l : Link) → Can (Chained i l) → (at : ℕ) (older : Option ℕ) → Carried (Chained i l) at older → Holds b (length b) at (bytes (Chained i l) at older)
      → Holds b (at + length (bytes (Chained i l) at older)) (pools_at at older i l) (flat_map bytes_of_pool (spelled_groups i))
  pools_held b i l s at older c h =
      let e = chained_is i l s.before at older in
      let st = chained_back b i l s at older c h in
      subst (λ z. Holds b (at + length (resized w l.frame z)) (new_pools_at at (width_with l z) l (distance at older) (length (spelled_groups i))) (flat_map bytes_of_pool (spelled_groups i)))
      (sym e) st.pools_held

  -- An event, or the metadata record.
  pub event_here : (e : EventAt) → In kept e → IsEvent p e
  event_here e i = event_of_chunk p a kept (chosen_events p given.flags) e i

  pub event_record : (e : EventAt) → In kept e → IsRecord p.bytes e.record_of
  event_record e i = all_in (IsRecord p.bytes) p.records e.record_of (recorded p a) (event_here e i).listed

  pub event_back : (b : List ℕ) (e : EventAt) (i : In kept e) (at : ℕ) → CarriesTail w e.record_of (event_tail w p e) → Holds b (length b) at (event_bytes w p e)
      → EventRead w p sound given.keeps e (event_here e i) (event_record e i) b at
  event_back b e i at c h = event_read w p sound given.keeps e (event_here e i) (event_record e i) b at c h

  pub found_event : (r : Framed) (e : EventAt) → IsRecord p.bytes r → event_there kept r ≡ Some e → In kept e × (e.record_of ≡ r)
  found_event r e s q =
      let f = find_in (λ e. e.record_of.at == r.at) kept e q in
      (f.0, record_one p.bytes e.record_of r (event_record e f.0) s (exact_unsigned_eq e.record_of.at r.at f.1))

  found_metadata : (r : Framed) → IsRecord p.bytes r → is_kept_or_metadata p kept r ≡ true → event_there kept r ≡ None → r ≡ a.metadata_record
  found_metadata r s t q =
      record_one p.bytes r a.metadata_record s (metadata_stands p a)
      (exact_unsigned_eq r.at (metadata_at p.bytes) (by_any (list_any (λ e. e.record_of.at == r.at) kept) (find_none (λ e. e.record_of.at == r.at) kept q) t) ∙ sym a.metadata_there.place)
    where
      by_any : (t : Bool) → t ≡ false → (t || (r.at == metadata_at p.bytes)) ≡ true → (r.at == metadata_at p.bytes) ≡ true
      by_any true e h = cc
      by_any false e h = h

  -- The bytes that are given for the metadata record are read.
  record GivenRead (b : List ℕ) (at : ℕ) (x : List ℕ) : Type 0 where
    holds : IsRecord b (frame_from 0 given.describes.type_after given.describes.body_after at (length x))
    body : Body
    metadata : IsMetadata b (frame_from 0 given.describes.type_after given.describes.body_after at (length x)) body m

  given_read : (z : Option (List ℕ)) → w.metadata ≡ z → (b : List ℕ) (at : ℕ) → Holds b (length b) at (unwrap_or z (record_bytes p.bytes a.metadata_record))
      → GivenRead b at (unwrap_or z (record_bytes p.bytes a.metadata_record))
  given_read z e b at h =
      let x : List ℕ = metadata_bytes w.metadata p a.metadata_record in
      let g : Holds b (length b) at x = subst (λ y. Holds b (length b) at (unwrap_or y (record_bytes p.bytes a.metadata_record))) (sym e) h in
      let y = given.describes.is_metadata b at g.within g.bytes in
      subst (λ y. GivenRead b at (unwrap_or y (record_bytes p.bytes a.metadata_record))) e (record { holds = given.describes.is_record b at g.within g.bytes; body = y.0; metadata = y.1 })

  -- The metadata record is no event.
  no_event_there : event_there kept a.metadata_record ≡ None
  no_event_there = by_find (event_there kept a.metadata_record) refl
    where
      by_find : (o : Option EventAt) → event_there kept a.metadata_record ≡ o → o ≡ None
      by_find None q = refl
      by_find (Some e) q =
          let f = found_event a.metadata_record e (metadata_stands p a) q in
          let c : is_event_class m e.record_of.type_id ≡ true = suits_kept.event e f.0 in
          let d : is_event_class m e.record_of.type_id ≡ false = ap (λ (z : Framed). is_event_class m z.type_id) f.1 ∙ (ap (is_event_class m) a.metadata_there.type_is ∙ no_metadata_event m) in
          absurd (clash (is_event_class m e.record_of.type_id) c d)

  pub record MetadataRead (z : Option (List ℕ)) (b : List ℕ) (at : ℕ) (older : Option ℕ) : Type 0 where
    pub body : Body
    pub is_record : IsRecord b (frame_at m bytes after width pools (shown z a.metadata_record) at older)
    pub metadata : IsMetadata b (frame_at m bytes after width pools (shown z a.metadata_record) at older) body m

  pub metadata_read : (z : Option (List ℕ)) → w.metadata ≡ z → (b : List ℕ) (at : ℕ) (older : Option ℕ) → Holds b (length b) at (bytes (shown z a.metadata_record) at older) → MetadataRead z b at older
  metadata_read None e b at older h =
      let r : Framed = a.metadata_record in
      let x = given_read None e b at (subst (λ o. Holds b (length b) at (whole_bytes w p r o)) no_event_there h) in
      let q : ℕ → Option EventAt → Framed = λ id o. frame_from id (whole_after r o).0 (whole_after r o).1 at (length (whole_bytes w p r o)) in
      record {
        body = x.body;
        is_record = subst (λ o. IsRecord b (q r.type_id o)) (sym no_event_there) (subst (λ id. IsRecord b (q id None)) (sym a.metadata_there.type_is) x.holds);
        metadata = subst (λ o. IsMetadata b (q r.type_id o) x.body m) (sym no_event_there) (subst (λ id. IsMetadata b (q id None) x.body m) (sym a.metadata_there.type_is) x.metadata);
      }
  metadata_read (Some x) e b at older h = let y = given_read (Some x) e b at h in record { body = y.body; is_record = y.holds; metadata = y.metadata }

  -- It is a record, and has its fields if it is an event.
  record WholeRead (b : List ℕ) (r : Framed) (at : ℕ) (heads : ℕ × ℕ) (size : ℕ) : Type 0 where
    holds : IsRecord b (frame_from r.type_id heads.0 heads.1 at size)
    fields : is_event_class m r.type_id ≡ true → HasFields b m (frame_from r.type_id heads.0 heads.1 at size)

  -- What is read under the chunk's classes is read so under the output's.
  pub read_under : (id : ℕ) (b : List ℕ) (end at : ℕ) (v : Value) (to : ℕ) → is_event_class m id ≡ true → Reads (value_format p.classes (inline id)) b end at v to
      → Reads (value_format m (inline id)) b end at v to
  read_under id b end at v to t r = subst (λ (g : Format Value). Reads g b end at v to) (value_agree p.classes m (inline id) (given.suits.agree id t)) r

  -- If nothing is written in place of the metadata record, there is no new one.
  not_anew : (r : Framed) → r ≡ a.metadata_record → written_anew w.metadata p r ≡ None → w.metadata ≡ None
  not_anew r f e = sym (new_is w.metadata p a) ∙ (ap (written_anew w.metadata p) (sym f) ∙ e)

  whole_by : (b : List ℕ) (r : Framed) → IsRecord p.bytes r → is_kept_or_metadata p kept r ≡ true → written_anew w.metadata p r ≡ None → (at : ℕ) (o : Option EventAt) → event_there kept r ≡ o
      → ((e : EventAt) → event_there kept r ≡ Some e → CarriesTail w e.record_of (event_tail w p e)) → Holds b (length b) at (whole_bytes w p r o)
      → WholeRead b r at (whole_after r o) (length (whole_bytes w p r o))
  whole_by b r s t u at (Some e) q c h =
      let f = found_event r e s q in
      let st = event_back b e f.0 at (c e q) h in
      let width : ℕ = w.width e.record_of (length (event_tail w p e)) in
      subst (λ (z : Framed). WholeRead b z at (width, width + (z.body - z.type_at)) (length (event_bytes w p e))) f.1
      (record { holds = st.is_record; fields = λ t. (_, _, read_under e.record_of.type_id b _ _ _ _ t st.fields) })
  whole_by b r s t u at None q c h =
      let f : r ≡ a.metadata_record = found_metadata r s t q in
      let type : r.type_id ≡ 0 = ap (λ (z : Framed). z.type_id) f ∙ a.metadata_there.type_is in
      let no_event : is_event_class m r.type_id ≡ false = ap (is_event_class m) type ∙ no_metadata_event m in
      let x = given_read None (not_anew r f u) b at (subst (λ z. Holds b (length b) at (record_bytes p.bytes z)) f h) in
      let y : IsRecord b (frame_from 0 given.describes.type_after given.describes.body_after at (length (record_bytes p.bytes r))) =
      subst (λ z. IsRecord b (frame_from 0 given.describes.type_after given.describes.body_after at (length (record_bytes p.bytes z)))) (sym f) x.holds in
      record {
        holds = subst (λ id. IsRecord b (frame_from id given.describes.type_after given.describes.body_after at (length (record_bytes p.bytes r)))) (sym type) y;
        fields = λ t. absurd
            (clash (is_event_class m r.type_id) t no_event);
      }

  -- What is written in its place is the new one.
  anew_here : (r : Framed) (x : List ℕ) → IsRecord p.bytes r → written_anew w.metadata p r ≡ Some x → w.metadata ≡ Some x
  anew_here r x s e =
      let t : (r.at == metadata_at p.bytes) ≡ true = anew_only w.metadata p r x e in
      let f : r ≡ a.metadata_record = record_one p.bytes r a.metadata_record s (metadata_stands p a) (exact_unsigned_eq r.at (metadata_at p.bytes) t ∙ sym a.metadata_there.place) in
      sym (new_is w.metadata p a) ∙ (ap (written_anew w.metadata p) (sym f) ∙ e)

  -- All that is written is read back.
  abbrev pub ss : List OutputRecord
  ss = output_records w.metadata p kept

  is_ready : Ready p remaining (output_records_in (all_links p) (is_kept_or_metadata p kept) none_anew p.records)
  is_ready = ready p a (is_kept_or_metadata p kept) none_anew (λ r x i e. cc) given.marks

  pub order : chained_of ss ≡ all_links p
  order = same_chain (all_links p) (is_kept_or_metadata p kept) (written_anew w.metadata p) p.records ∙ is_ready.order

  abbrev OnEach : OutputRecord → Type 0
  OnEach = OnChosen (IsRecord p.bytes) (is_kept_or_metadata p kept) (written_anew w.metadata p)

  can_each : (xs : List OutputRecord) → AllByRecursion (IsOutputRecordIn p.bytes remaining p.classes) xs → AllByRecursion (IsOutputRecordIn p.bytes remaining m) xs → AllByRecursion Can xs
  can_each [] s t = tt
  can_each (x ∷ xs) s t = (record { before = s.0; later = t.0 }, can_each xs s.1 t.1)

  can_all : AllByRecursion (OnChained Can) ss
  can_all =
      let plain : List OutputRecord = output_records_in (all_links p) (is_kept_or_metadata p kept) none_anew p.records in
      on_chained (all_links p) (is_kept_or_metadata p kept) (written_anew w.metadata p) Can p.records
      (can_each plain is_ready.valid (records_too p.bytes p.classes m remaining given.suits.entry plain is_ready.valid))

  each_read : (b : List ℕ) (xs : List OutputRecord) (at : ℕ) (older : Option ℕ) → AllByRecursion (OnChained Can) xs → AllByRecursion OnEach xs → CarriedFrom at older xs
      → AllRead m bytes after width pools b at older xs
  each_read b [] at older s t c = tt
  each_read b (Whole r ∷ xs) at older s t c =
      ((λ h. (whole_by b r t.0.0 t.0.1 t.0.2 at (event_there kept r) refl c.0 h).holds), each_read b xs (at + length (bytes (Whole r) at older)) older s.1 t.1 c.1)
  each_read b (Rebuilt r x ∷ xs) at older s t c =
      ((λ h. (metadata_read (Some x) (anew_here r x t.0.0 t.0.1) b at older h).is_record), each_read b xs (at + length (bytes (Rebuilt r x) at older)) older s.1 t.1 c.1)
  each_read b (Chained i l ∷ xs) at older s t c =
      ((s.0.before.0.is_checkpoint, λ h. chained_read b i l s.0 at older c.0 h), each_read b xs (at + length (bytes (Chained i l) at older)) (Some at) s.1 t.1 c.1)

  chosen_all : AllByRecursion OnEach ss
  chosen_all = on_chosen (IsRecord p.bytes) (all_links p) (is_kept_or_metadata p kept) (written_anew w.metadata p) p.records (recorded p a)

  pub all_read : CarriesAll w p kept remaining → (b : List ℕ) → AllRead m bytes after width pools b 68 None ss
  all_read c b = each_read b ss 68 None can_all chosen_all c

  -- The events of what is written have their fields.
  abbrev is_event : Framed → Bool
  is_event r = is_event_class m r.type_id

  abbrev frames : ℕ → Option ℕ → List OutputRecord → List Framed
  frames at older xs = map (frame_of m bytes after width pools) (written_by bytes at older xs)

  fields_each : (b : List ℕ) (xs : List OutputRecord) (at : ℕ) (older : Option ℕ) → AllByRecursion (OnChained Can) xs → AllByRecursion OnEach xs → CarriedFrom at older xs
      → Holds b (length b) at (bytes_from m bytes after width pools at older xs)
      → AllByRecursion (IfPasses is_event (HasFields b m)) (frames at older xs)
  fields_each b [] at older s t c h = tt
  fields_each b (Whole r ∷ xs) at older s t c h =
      let k : ℕ = length (bytes (Whole r) at older) in
      let q = holds_parts b (length b) at (bytes (Whole r) at older) (bytes_from m bytes after width pools (at + k) older xs) h in
      ((λ e. (whole_by b r t.0.0 t.0.1 t.0.2 at (event_there kept r) refl c.0 q.0).fields e), fields_each b xs (at + k) older s.1 t.1 c.1 q.1)
  fields_each b (Rebuilt r x ∷ xs) at older s t c h =
      let k : ℕ = length (bytes (Rebuilt r x) at older) in
      let q = holds_parts b (length b) at (bytes (Rebuilt r x) at older) (bytes_from m bytes after width pools (at + k) older xs) h in
      ((λ e. absurd (clash (is_event_class m 0) e (no_metadata_event m))), fields_each b xs (at + k) older s.1 t.1 c.1 q.1)
  fields_each b (Chained i l ∷ xs) at older s t c h =
      let k : ℕ = length (bytes (Chained i l) at older) in
      let q = holds_parts b (length b) at (bytes (Chained i l) at older) (bytes_from m bytes after width pools (at + k) (Some at) xs) h in
      ((λ e. absurd (clash (is_event_class m l.frame.type_id) e (no_checkpoint_event m l.frame s.0.before.0.is_checkpoint))), fields_each b xs (at + k) (Some at) s.1 t.1 c.1 q.1)

  pub all_fields : CarriesAll w p kept remaining → (b : List ℕ) → Holds b (length b) 68 (bytes_from m bytes after width pools 68 None ss)
      → AllByRecursion (HasFields b m) (filter is_event (frames 68 None ss))
  all_fields c b h = passes_all (HasFields b m) is_event (frames 68 None ss) (fields_each b ss 68 None can_all chosen_all c h)

  -- The entries are the remaining ones, checkpoint by checkpoint, changed.
  first_equal : (i j : ℕ) (l m : Link) (xs ys : List Numbered) → (i, l) ∷ xs ≡ (j, m) ∷ ys → (i ≡ j) × (xs ≡ ys)
  first_equal i j l m xs ys e = (ap (λ (z : Numbered). z.0) (heads (i, l) (j, m) xs ys e), cc)
    where
      heads : (x y : Numbered) (xs ys : List Numbered) → x ∷ xs ≡ y ∷ ys → x ≡ y
      heads x y xs ys e = cc

  entries_each : (b : List ℕ) (xs : List OutputRecord) (ls : List Link) (j at : ℕ) (older : Option ℕ) → AllByRecursion (OnChained Can) xs → AllByRecursion OnEach xs → CarriedFrom at older xs
      → Holds b (length b) at (bytes_from m bytes after width pools at older xs)
      → chained_of xs ≡ enumerate_from j ls → Each (Renewed w p sound given.keeps b) (entries_by_number remaining (chained_of xs)) (entries_at m bytes after width pools j at older xs)
  entries_each b [] ls j at older s t c h o = tt
  entries_each b (Whole r ∷ xs) ls j at older s t c h o =
      let k : ℕ = length (bytes (Whole r) at older) in
      let q = holds_parts b (length b) at (bytes (Whole r) at older) (bytes_from m bytes after width pools (at + k) older xs) h in
      entries_each b xs ls j (at + k) older s.1 t.1 c.1 q.1 o
  entries_each b (Rebuilt r x ∷ xs) ls j at older s t c h o =
      let k : ℕ = length (bytes (Rebuilt r x) at older) in
      let q = holds_parts b (length b) at (bytes (Rebuilt r x) at older) (bytes_from m bytes after width pools (at + k) older xs) h in
      entries_each b xs ls j (at + k) older s.1 t.1 c.1 q.1 o
  entries_each b (Chained i l ∷ xs) [] j at older s t c h o = absurd (none_more i l (chained_of xs) o)
    where
      none_more : (i : ℕ) (l : Link) (xs : List Numbered) → (i, l) ∷ xs ≡ [] → ⊥
      none_more i l xs e = cc
  entries_each b (Chained i l ∷ xs) (x ∷ ls) j at older s t c h o =
      let k : ℕ = length (bytes (Chained i l) at older) in
      let q = holds_parts b (length b) at (bytes (Chained i l) at older) (bytes_from m bytes after width pools (at + k) (Some at) xs) h in
      let held = pools_held b i l s.0 at older c.0 q.0 in
      let f = first_equal i j l x (chained_of xs) (enumerate_from (j + 1) ls) o in
      let gs : List Group = groups_of remaining i in
      let these : List EntryAt = filter (λ e. e.checkpoint == i) remaining in
      let nums : AllByRecursion (λ e. e.checkpoint ≡ j) (flat_map (λ g. g.entries) gs) =
      subst (AllByRecursion (λ e. e.checkpoint ≡ j)) (sym (groups_hold these)) (subst (λ z. AllByRecursion (λ e. e.checkpoint ≡ z) these) f.0 (have_number i remaining)) in
      let g = groups_renewed w p sound given.keeps b (at + k) j gs 0 (pools_at at older i l) s.0.before.1 nums held in
      each_append (Renewed w p sound given.keeps b) these (entries_from j 0 (pools at older i l)) (entries_by_number remaining (chained_of xs))
      (entries_at m bytes after width pools (j + 1) (at + k) (Some at) xs)
      (subst (λ z. Each (Renewed w p sound given.keeps b) z (entries_from j 0 (pools at older i l))) (groups_hold these) g) (entries_each b xs ls (j + 1) (at + k) (Some at) s.1 t.1 c.1 q.1 f.1)

  pub all_entries : CarriesAll w p kept remaining → (b : List ℕ) (ls : List Link) → Holds b (length b) 68 (bytes_from m bytes after width pools 68 None ss) → chained_of ss ≡ enumerate_from 0 ls
      → Each (Renewed w p sound given.keeps b) (entries_by_number remaining (chained_of ss)) (entries_at m bytes after width pools 0 68 None ss)
  all_entries c b ls h o = entries_each b ss ls 0 68 None can_all chosen_all c h o
