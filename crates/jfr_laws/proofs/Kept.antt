-- The event records of what is written: the kept ones, copied, with their fields.
use Rattle.std.specs.Prelude.{◌≡◌, ℕ, ◌+◌, Bool, true, false, ◌==◌, ◌&&◌, ◌||◌, List, [], ◌∷◌, length, map, filter, Option, Some, None, if◌then◌else◌}
use Rattle.std.specs.List.{AllByRecursion, cons_option}
use Rattle.std.proofs.Common.{refl, sym, subst}
use Rattle.jfr_base.proofs.HoldLaws.{Holds, holds_parts}
use Rattle.jfr_base.proofs.AlikeLaws.{Each}
use Rattle.jfr_layout.specs.Classes.{Classes, is_event_class}
use Rattle.jfr_frame.specs.declared.framed.Framed.{Framed}
use Rattle.jfr_frame.specs.Records.{record_bytes}
use Rattle.jfr_pool.specs.declared.entry.EntryAt.{EntryAt}
use Rattle.jfr_chunk.specs.Parts.{HasFields, event_records}
use Rattle.jfr_chunk.specs.Scrub.{OutputRecord, Whole, Chained, Rebuilt, Written, output_record_by, written}
use Rattle.jfr_laws.proofs.Order.{Numbered, numbered_at, output_records_in}
use Rattle.jfr_laws.proofs.Copied.{fields_copied}
use Rattle.jfr_laws.proofs.OutputRecords.{chained_bytes, bytes_from, new_frame, IsOutputRecordIn}
use Rattle.jfr_laws.proofs.Passing.{clash, IfPasses, passes_all, filter_both}
use Rattle.jfr_laws.proofs.Premises.{OnWhole}
use Rattle.jfr_laws.proofs.Quiet.{Quiet, no_metadata_event, no_checkpoint_event}

-- A record of an event class, and one of that class with the same bytes.
pub record CopiedRecord (c b : List ℕ) (k : Classes) (r s : Framed) : Type 0 where
  pub event : is_event_class k r.type_id ≡ true
  pub class : r.type_id ≡ s.type_id
  pub bytes : record_bytes c r ≡ record_bytes b s

module _ (c : List ℕ) (remaining : List EntryAt) (k : Classes) (b : List ℕ) where
  abbrev is_event : Framed → Bool
  is_event r = is_event_class k r.type_id

  -- The records of its events have all their fields.
  fields_each : (ss : List OutputRecord) (at : ℕ) (older : Option ℕ) → AllByRecursion (IsOutputRecordIn c remaining k) ss → AllByRecursion (OnWhole (IfPasses is_event (HasFields c k))) ss
      → Holds b (length b) at (bytes_from c remaining at older ss)
      → AllByRecursion (IfPasses is_event (HasFields b k)) (map (new_frame c remaining) (written c remaining at older ss))
  fields_each [] at older s v h = tt
  fields_each (Whole r ∷ ss) at older s v h =
      let n : ℕ = length (record_bytes c r) in
      let p = holds_parts b (length b) at (record_bytes c r) (bytes_from c remaining (at + n) older ss) h in
      ((λ e. fields_copied c b k r at s.0 p.0 (v.0 e)), fields_each ss (at + n) older s.1 v.1 p.1)
  fields_each (Rebuilt r x ∷ ss) at older s v h =
      let n : ℕ = length x in
      let p = holds_parts b (length b) at x (bytes_from c remaining (at + n) older ss) h in
      ((λ e. absurd (clash (is_event_class k 0) e (no_metadata_event k))), fields_each ss (at + n) older s.1 v.1 p.1)
  fields_each (Chained i l ∷ ss) at older s v h =
      let n : ℕ = length (chained_bytes c remaining at older i l) in
      let p = holds_parts b (length b) at (chained_bytes c remaining at older i l) (bytes_from c remaining (at + n) (Some at) ss) h in
      ((λ e. absurd (clash (is_event_class k l.frame.type_id) e (no_checkpoint_event k l.frame s.0.0.is_checkpoint))), fields_each ss (at + n) (Some at) s.1 v.1 p.1)

  pub fields_back : (ss : List OutputRecord) (at : ℕ) (older : Option ℕ) → AllByRecursion (IsOutputRecordIn c remaining k) ss → AllByRecursion (OnWhole (IfPasses is_event (HasFields c k))) ss
      → Holds b (length b) at (bytes_from c remaining at older ss)
      → AllByRecursion (HasFields b k) (event_records k (map (new_frame c remaining) (written c remaining at older ss)))
  fields_back ss at older s v h = passes_all (HasFields b k) is_event (map (new_frame c remaining) (written c remaining at older ss)) (fields_each ss at older s v h)

  module _ (all : List Numbered) (is_kept : Framed → Bool) (new : Framed → Option (List ℕ)) (metadata : ℕ) (only : (r : Framed) (x : List ℕ) → new r ≡ Some x → (r.at == metadata) ≡ true) where
    -- Kept, or the metadata record.
    abbrev is_whole : Framed → Bool
    is_whole r = is_kept r || (r.at == metadata)

    events_copied : (rs : List Framed) (at : ℕ) (older : Option ℕ) → AllByRecursion (Quiet k all metadata) rs
        → Holds b (length b) at (bytes_from c remaining at older (output_records_in all is_whole new rs))
        → Each (CopiedRecord c b k) (filter (λ r. is_event r && is_kept r) rs) (filter is_event (map (new_frame c remaining) (written c remaining at older (output_records_in all is_whole new rs))))
    events_copied [] at older a h = tt
    events_copied (r ∷ rs) at older a h = by_find (numbered_at all r.at) refl (is_event_class k r.type_id) refl (is_kept r) (r.at == metadata) refl (new r) refl
        (λ at older h. events_copied rs at older a.1 h) h
      where
        rest : List OutputRecord
        rest = output_records_in all is_whole new rs

        wanted : List Framed
        wanted = filter (λ r. is_event r && is_kept r) rs

        news : List Written → List Framed
        news ws = filter is_event (map (new_frame c remaining) ws)

        Later : Type 0
        Later = (at : ℕ) (older : Option ℕ) → Holds b (length b) at (bytes_from c remaining at older rest) → Each (CopiedRecord c b k) wanted (news (written c remaining at older rest))

        by_find : (o : Option Numbered) → numbered_at all r.at ≡ o → (e : Bool) → is_event_class k r.type_id ≡ e → (t u : Bool) → (r.at == metadata) ≡ u → (w : Option (List ℕ)) → new r ≡ w → Later
            → Holds b (length b) at (bytes_from c remaining at older (cons_option (output_record_by o (t || u) w r) rest))
            → Each (CopiedRecord c b k) (if e && t then r ∷ wanted else wanted) (news (written c remaining at older (cons_option (output_record_by o (t || u) w r) rest)))
        by_find (Some x) g true i t u j w z later h = absurd (clash (is_event_class k r.type_id) i (a.0.on_chained x g).0)
        by_find (Some x) g false i t u j w z later h =
            let n : ℕ = length (chained_bytes c remaining at older x.0 x.1) in
            let p = holds_parts b (length b) at (chained_bytes c remaining at older x.0 x.1) (bytes_from c remaining (at + n) (Some at) rest) h in
            rw (a.0.on_chained x g).1 (later (at + n) (Some at) p.1)
        by_find None g true i true u j (Some x) z later h = absurd (clash (is_event_class k r.type_id) i (a.0.on_metadata (only r x z)))
        by_find None g true i true u j None z later h =
            let n : ℕ = length (record_bytes c r) in
            let p = holds_parts b (length b) at (record_bytes c r) (bytes_from c remaining (at + n) older rest) h in
            rw i (record { event = i; class = refl; bytes = sym p.0.bytes }, later (at + n) older p.1)
        by_find None g true i false true j w z later h = absurd (clash (is_event_class k r.type_id) i (a.0.on_metadata j))
        by_find None g true i false false j w z later h = later at older h
        by_find None g false i true u j (Some x) z later h =
            let n : ℕ = length x in
            let p = holds_parts b (length b) at x (bytes_from c remaining (at + n) older rest) h in
            rw (no_metadata_event k) (later (at + n) older p.1)
        by_find None g false i true u j None z later h =
            let n : ℕ = length (record_bytes c r) in
            let p = holds_parts b (length b) at (record_bytes c r) (bytes_from c remaining (at + n) older rest) h in
            rw i (later (at + n) older p.1)
        by_find None g false i false true j (Some x) z later h =
            let n : ℕ = length x in
            let p = holds_parts b (length b) at x (bytes_from c remaining (at + n) older rest) h in
            rw (no_metadata_event k) (later (at + n) older p.1)
        by_find None g false i false true j None z later h =
            let n : ℕ = length (record_bytes c r) in
            let p = holds_parts b (length b) at (record_bytes c r) (bytes_from c remaining (at + n) older rest) h in
            rw i (later (at + n) older p.1)
        by_find None g false i false false j w z later h = later at older h

    -- Its event records are the kept ones, in order.
    pub events_back : (rs : List Framed) (at : ℕ) (older : Option ℕ) → AllByRecursion (Quiet k all metadata) rs
        → Holds b (length b) at (bytes_from c remaining at older (output_records_in all is_whole new rs))
        → Each (CopiedRecord c b k) (filter is_kept (event_records k rs)) (event_records k (map (new_frame c remaining) (written c remaining at older (output_records_in all is_whole new rs))))
    events_back rs at older a h = subst (λ z. Each (CopiedRecord c b k) z (event_records k (map (new_frame c remaining) (written c remaining at older (output_records_in all is_whole new rs)))))
        (filter_both is_event is_kept rs) (events_copied rs at older a h)
