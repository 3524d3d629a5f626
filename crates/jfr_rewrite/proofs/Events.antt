-- The events of what is written: the kept ones, in order, with changed fields.
use Rattle.std.specs.Prelude.{◌≡◌, ℕ, ◌+◌, ◌==◌, ◌&&◌, ◌||◌, Bool, true, false, List, [], ◌∷◌, length, map, filter, find, Option, Some, None, cond, if◌then◌else◌}
use Rattle.std.specs.List.{AllByRecursion, cons_option, list_any}
use Rattle.std.proofs.Common.{ap, refl, sym, ◌∙◌, subst}
use Rattle.jfr_base.proofs.AlikeLaws.{Each}
use Rattle.jfr_base.proofs.HoldLaws.{Holds, holds_parts}
use Rattle.jfr_layout.specs.Classes.{Classes, is_event_class}
use Rattle.jfr_frame.specs.declared.framed.Framed.{Framed}
use Rattle.jfr_frame.specs.Records.{IsRecord}
use Rattle.jfr_chunk.specs.Parts.{Parts, EventAt, AreParts, metadata_at}
use Rattle.jfr_chunk.specs.Scrub.{OutputRecord, Whole, Chained, Rebuilt, Written, is_kept_or_metadata, output_record_by, written_anew}
use Rattle.jfr_worklist.specs.Members.{In}
use Rattle.jfr_laws.proofs.Order.{Numbered, numbered_at, output_records_in}
use Rattle.jfr_laws.proofs.Premises.{all_links}
use Rattle.jfr_laws.proofs.Passing.{clash}
use Rattle.jfr_laws.proofs.Quiet.{IsQuiet, no_metadata_event}
use Rattle.jfr_laws.proofs.Rebuilt.{anew_only}
use Rattle.jfr_laws.proofs.Chosen.{is_kept}
use Rattle.jfr_rewrite.specs.Rewrite.{Rewrite, event_tail, event_bytes, event_there, whole_bytes, written_by}
use Rattle.jfr_rewrite.specs.Rewritten.{CarriesTail, frame_from}
use Rattle.jfr_rewrite.proofs.Rewriting.{Rewriting}
use Rattle.jfr_rewrite.proofs.RecordBack.{new_frame}
use Rattle.jfr_rewrite.proofs.Made.{bytes_from, frame_of}
use Rattle.jfr_rewrite.proofs.Output.{kept, bytes, after, width, whole_after, pools, found_event, CarriedFrom}

find_some : {X : Type 0} (test : X → Bool) (xs : List X) → list_any test xs ≡ true → (x : X) × (find test xs ≡ Some x)
find_some test [] e = cc
find_some {X = X} test (y ∷ xs) e = by_test (test y) e (find_some test xs)
  where
    by_test : (t : Bool) → (t || list_any test xs) ≡ true → (list_any test xs ≡ true → (x : X) × (find test xs ≡ Some x)) → (x : X) × (cond t (Some y) (find test xs) ≡ Some x)
    by_test true h f = (y, refl)
    by_test false h f = f h

module _ (given : Rewriting) (b : List ℕ) where
  abbrev w : Rewrite
  w = given.rewrite

  abbrev p : Parts
  p = given.parts

  abbrev a : AreParts p
  a = given.accepted

  abbrev m : Classes
  m = given.classes

  abbrev these : List EventAt
  these = kept given

  abbrev written_bytes : OutputRecord → ℕ → Option ℕ → List ℕ
  written_bytes = bytes given

  abbrev is_event : Framed → Bool
  is_event r = is_event_class m r.type_id

  abbrev whole : Framed → Bool
  whole = is_kept_or_metadata p these

  abbrev anew : Framed → Option (List ℕ)
  anew = written_anew w.metadata p

  abbrev RecordsAfter : List Framed → List OutputRecord
  RecordsAfter rs = output_records_in (all_links p) whole anew rs

  abbrev from : ℕ → Option ℕ → List OutputRecord → List ℕ
  from = bytes_from m written_bytes (after given) (width given) (pools given)

  abbrev frames : List Written → List Framed
  frames ws = map (frame_of m written_bytes (after given) (width given) (pools given)) ws

  -- A record that is written of a kept event.
  pub record NewEvent (r s : Framed) : Type 0 where
    pub event : EventAt
    pub is_kept : In these event
    pub of : event.record_of ≡ r
    pub at : ℕ
    pub carries : CarriesTail w event.record_of (event_tail w p event)
    pub frame : s ≡ new_frame at (w.width event.record_of (length (event_tail w p event))) (length (event_bytes w p event)) r
    pub held : Holds b (length b) at (event_bytes w p event)

  -- The one that is written here.
  abbrev frame_by : Framed → ℕ → Option EventAt → Framed
  frame_by r at o = frame_from r.type_id (whole_after given r o).0 (whole_after given r o).1 at (length (whole_bytes w p r o))

  new_event : (r : Framed) (at : ℕ) → IsRecord p.bytes r → is_kept these r ≡ true → ((e : EventAt) → event_there these r ≡ Some e → CarriesTail w e.record_of (event_tail w p e))
      → Holds b (length b) at (whole_bytes w p r (event_there these r))
      → NewEvent r (frame_by r at (event_there these r))
  new_event r at s t c h = by_found (find_some (λ e. e.record_of.at == r.at) these t)
    where
      by_found : (e : EventAt) × (event_there these r ≡ Some e) → NewEvent r (frame_by r at (event_there these r))
      by_found (e, q) =
          let f = found_event given r e s q in
          record { event = e; is_kept = f.0; of = f.1; at = at; carries = c e q; frame = ap (frame_by r at) q; held = subst (λ o. Holds b (length b) at (whole_bytes w p r o)) q h }

  abbrev Carried : ℕ → Option ℕ → List OutputRecord → Type 0
  Carried = CarriedFrom given

  pub events_each : (rs : List Framed) (at : ℕ) (older : Option ℕ) → AllByRecursion (IsQuiet p a m) rs → AllByRecursion (IsRecord p.bytes) rs → Carried at older (RecordsAfter rs)
      → Holds b (length b) at (from at older (RecordsAfter rs))
      → Each NewEvent (filter (λ r. is_event r && is_kept these r) rs) (filter is_event (frames (written_by written_bytes at older (RecordsAfter rs))))
  events_each [] at older y s c h = tt
  events_each (r ∷ rs) at older y s c h =
      by_find (numbered_at (all_links p) r.at) refl (is_event_class m r.type_id) refl (is_kept these r) refl (r.at == metadata_at p.bytes) refl (anew r) refl
      (λ at older c h. events_each rs at older y.1 s.1 c h) c h
    where
      rest : List OutputRecord
      rest = RecordsAfter rs

      wanted : List Framed
      wanted = filter (λ r. is_event r && is_kept these r) rs

      -- A record that isn't an event is passed over.
      kept_whole : is_event_class m r.type_id ≡ false
          → ((at : ℕ) (older : Option ℕ) → Carried at older rest → Holds b (length b) at (from at older rest) → Each NewEvent wanted (filter is_event (frames (written_by written_bytes at older rest))))
          → Carried at older (Whole r ∷ rest) → Holds b (length b) at (from at older (Whole r ∷ rest))
          → Each NewEvent wanted (filter is_event (frames (written_by written_bytes at older (Whole r ∷ rest))))
      kept_whole i later c h =
          let size : ℕ = length (written_bytes (Whole r) at older) in
          let q = holds_parts b (length b) at (written_bytes (Whole r) at older) (from (at + size) older rest) h in
          rw i (later (at + size) older c.1 q.1)

      kept_anew : (x : List ℕ)
          → ((at : ℕ) (older : Option ℕ) → Carried at older rest → Holds b (length b) at (from at older rest) → Each NewEvent wanted (filter is_event (frames (written_by written_bytes at older rest))))
          → Carried at older (Rebuilt r x ∷ rest) → Holds b (length b) at (from at older (Rebuilt r x ∷ rest))
          → Each NewEvent wanted (filter is_event (frames (written_by written_bytes at older (Rebuilt r x ∷ rest))))
      kept_anew x later c h =
          let size : ℕ = length (written_bytes (Rebuilt r x) at older) in
          let q = holds_parts b (length b) at (written_bytes (Rebuilt r x) at older) (from (at + size) older rest) h in
          rw (no_metadata_event m) (later (at + size) older c.1 q.1)

      by_find : (o : Option Numbered) → numbered_at (all_links p) r.at ≡ o → (e : Bool) → is_event_class m r.type_id ≡ e → (t : Bool) → is_kept these r ≡ t → (u : Bool)
          → (r.at == metadata_at p.bytes) ≡ u → (z : Option (List ℕ)) → anew r ≡ z
          → ((at : ℕ) (older : Option ℕ) → Carried at older rest → Holds b (length b) at (from at older rest) → Each NewEvent wanted (filter is_event (frames (written_by written_bytes at older rest))))
          → Carried at older (cons_option (output_record_by o (t || u) z r) rest) → Holds b (length b) at (from at older (cons_option (output_record_by o (t || u) z r) rest))
          → Each NewEvent (if e && t then r ∷ wanted else wanted) (filter is_event (frames (written_by written_bytes at older (cons_option (output_record_by o (t || u) z r) rest))))
      by_find (Some x) g true i t k u j z v later c h = absurd (clash (is_event_class m r.type_id) i (y.0.on_chained x g).0)
      by_find (Some x) g false i t k u j z v later c h =
          let size : ℕ = length (written_bytes (Chained x.0 x.1) at older) in
          let q = holds_parts b (length b) at (written_bytes (Chained x.0 x.1) at older) (from (at + size) (Some at) rest) h in
          rw (y.0.on_chained x g).1 (later (at + size) (Some at) c.1 q.1)
      by_find None g true i t k true j z v later c h = absurd (clash (is_event_class m r.type_id) i (y.0.on_metadata j))
      by_find None g true i t k false j (Some x) v later c h = let z : (r.at == metadata_at p.bytes) ≡ true = anew_only w.metadata p r x v in let d : true ≡ false = sym z ∙ j in cc
      by_find None g true i true k false j None v later c h =
          let size : ℕ = length (written_bytes (Whole r) at older) in
          let q = holds_parts b (length b) at (written_bytes (Whole r) at older) (from (at + size) older rest) h in
          rw i (new_event r at s.0 k c.0 q.0, later (at + size) older c.1 q.1)
      by_find None g true i false k false j None v later c h = later at older c h
      by_find None g false i true k u j None v later c h = kept_whole i later c h
      by_find None g false i false k true j None v later c h = kept_whole i later c h
      by_find None g false i true k u j (Some x) v later c h = kept_anew x later c h
      by_find None g false i false k true j (Some x) v later c h = kept_anew x later c h
      by_find None g false i false k false j z v later c h = later at older c h
