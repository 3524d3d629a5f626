-- A sample is a chunk that is accepted.
use Rattle.std.specs.Prelude.{◌≡◌, ℕ, ◌+◌, ◌*◌, ◌^◌, ◌<◌, ◌≤◌, false, List, [], ◌∷◌, ◌++◌, length, take, All, Contains, None}
use Rattle.std.specs.List.{AllByRecursion, range_with_len}
use Rattle.std.proofs.Common.{ap, arith, refl, sym, ◌∙◌, subst, length-append, append_assoc}
use Rattle.std.proofs.lemmas.List.Elements.{All-cons, All-nil, Contains-append_right}
use Rattle.jfr_base.proofs.HoldLaws.{Holds, holds_parts, holds_at}
use Rattle.jfr_header.specs.declared.header.Header.{Header}
use Rattle.jfr_header.specs.Headers.{header_of, header_bytes}
use Rattle.jfr_header.specs.Made.{made_header}
use Rattle.jfr_header.proofs.Layouts.{after_header, header_long}
use Rattle.jfr_header.proofs.MadeHeaders.{has_made_header}
use Rattle.jfr_frame.specs.declared.framed.Framed.{Framed}
use Rattle.jfr_frame.specs.Records.{Tiles, record_end}
use Rattle.jfr_frame.proofs.RecordLaws.{tiles_more}
use Rattle.jfr_layout.specs.Classes.{is_event_class}
use Rattle.jfr_chunk.specs.Parts.{Parts, AreParts, HasFields, event_records, pools_at, metadata_at}
use Rattle.jfr_chunk.specs.Refusal.{refusal_of, flaw_in}
use Rattle.jfr_chunk.proofs.Reading.{parts_told}
use Rattle.jfr_sample.specs.Metadata.{metadata}
use Rattle.jfr_sample.specs.Sample.{before_checkpoint, checkpoint, events_to, sample_of}
use Rattle.jfr_sample.proofs.Lengths.{length-metadata, events-le, checkpoint-le}
use Rattle.jfr_report.proofs.SampleMetadata.{sample_body, sample_classes, sample_metadata, metadata_read, metadata_stands}
use Rattle.jfr_report.proofs.SampleEvents.{IsEvent, EventsStand, events_stand}
use Rattle.jfr_report.proofs.SampleEntries.{checkpoint_at, link_at, entries_at, CheckpointStands, checkpoint_stands}

not_metadata : is_event_class sample_classes 0 ≡ false
unfolding is_event_class sample_classes
not_metadata = refl

not_checkpoint : is_event_class sample_classes 1 ≡ false
unfolding is_event_class sample_classes
not_checkpoint = refl

-- The records of events among those of a sample have their fields.
events_fields : (c : List ℕ) (last : Framed) (frames : List Framed) → last.type_id ≡ 1 → AllByRecursion (IsEvent c) frames
    → All (HasFields c sample_classes) (event_records sample_classes (frames ++ last ∷ []))
events_fields c last [] one e = rw (ap (is_event_class sample_classes) one ∙ not_checkpoint) (All-nil (HasFields c sample_classes))
events_fields c last (r ∷ rs) one e = rw e.0.class (All-cons (HasFields c sample_classes) r (event_records sample_classes (rs ++ last ∷ [])) e.0.fields (events_fields c last rs one e.1))

module _ (seed events : ℕ) (h : Header) (in_header : h.metadata ≡ 68) (pools : h.pools ≡ 68 + length (before_checkpoint seed events)) where
  abbrev last : ℕ
  last = 68 + length (before_checkpoint seed events)

  record Built (c : List ℕ) : Type 0 where
    parts : Parts
    bytes : parts.bytes ≡ c
    are : AreParts parts

  built : (c : List ℕ) → c ≡ header_bytes h ++ (before_checkpoint seed events ++ checkpoint events) → Holds c (length c) 68 (before_checkpoint seed events ++ checkpoint events)
      → header_of (take 68 c) ≡ h → length c ≡ last + length (checkpoint events) → length c < 2 ^ 28 → Built c
  built c is holds header long small =
      let evs : List ℕ = events_to seed events events in
      let p = holds_parts c (length c) 68 (before_checkpoint seed events) (checkpoint events) holds in
      let q = holds_parts c (length c) 68 metadata evs p.0 in
      let e : 68 + length metadata ≡ 325 = ap (λ z. 68 + z) length-metadata in
      let es : EventsStand c small 325 (325 + length evs) = events_stand c small seed events (range_with_len 1 events) 325 (holds_at c (length c) (68 + length metadata) 325 evs e q.1) in
      let l : 325 + length evs ≡ last = omega (arith, length-metadata, length-append metadata evs) in
      let k : CheckpointStands c last events = checkpoint_stands c last events small p.1 in
      let frames : List Framed = es.frames in
      let cp : Framed = checkpoint_at last events in
      let rs : List Framed = sample_metadata ∷ (frames ++ cp ∷ []) in
      let m = metadata_stands c q.0 in
      let end : record_end cp ≡ length c = k.end ∙ sym long in
      let tiles : Tiles c 325 (frames ++ cp ∷ []) (record_end cp) = tiles_more c 325 last frames cp (subst (Tiles c 325 frames) l es.tiles) refl k.is in
      let listed : Contains rs cp = Contains-append_right (sample_metadata ∷ frames) (cp ∷ []) cp (0, omega arith, refl) in
      let at : pools_at c ≡ last = ap (λ z. z.pools) header ∙ pools in
      let meta : metadata_at c ≡ 68 = ap (λ z. z.metadata) header ∙ in_header in
      let more : c ≡ header_bytes h ++ (metadata ++ (evs ++ checkpoint events)) = is ∙ ap (λ z. header_bytes h ++ z) (append_assoc metadata evs (checkpoint events)) in
      let room : 325 ≤ length c = omega (arith, length-metadata, length-append metadata evs) in
      record {
        parts = record { bytes = c; records = rs; chain = link_at last events ∷ []; body = sample_body; classes = sample_classes; entries = entries_at last events };
        bytes = refl;
        are = record {
          records = (refl, m, subst (Tiles c 325 (frames ++ cp ∷ [])) end tiles);
          chain = (record { framed = listed; checkpoint = refl; head = k.head }, sym at, refl);
          metadata_record = sample_metadata;
          metadata_there = record { listed = (0, omega arith, refl); place = sym meta; type_is = refl };
          metadata = metadata_read h (evs ++ checkpoint events) c more room;
          entries = k.entries;
          events = rw not_metadata (events_fields c cp frames refl es.events);
        };
      }

  accepted : (c : List ℕ) → 68 ≤ length c → Built c → refusal_of c ≡ None
  unfolding refusal_of
  accepted c long b = ap flaw_in (parts_told c b.parts long b.bytes b.are)

-- The sample of every seed and number of events is accepted.
pub sample_accepted : (seed events : ℕ) → 1 ≤ events → events ≤ 1000000 → refusal_of (sample_of seed events) ≡ None
unfolding sample_of
sample_accepted seed events some most =
    let before : List ℕ = before_checkpoint seed events in
    let cp : List ℕ = checkpoint events in
    let h : Header = made_header (68 + length before + length cp) (68 + length before) in
    let c : List ℕ = header_bytes h ++ (before ++ cp) in
    let e : sample_of seed events ≡ c = append_assoc (header_bytes h) before cp in
    let l : length before ≡ 257 + length (events_to seed events events) = omega (arith, length-metadata, length-append metadata (events_to seed events events)) in
    let n : length (events_to seed events events) ≤ 11 * events = events-le seed events events some most most in
    let m : length cp ≤ 14 + 15 * events = checkpoint-le events most in
    let long : length c ≡ 68 + length before + length cp = omega (arith, length-append (header_bytes h) (before ++ cp), length-append before cp, header_long h) in
    let read = has_made_header c (before ++ cp) (68 + length before + length cp) (68 + length before) refl (sym long) (omega arith) (omega arith) in
    ap refusal_of e ∙ accepted seed events h refl refl c (omega arith) (built seed events h refl refl c refl (after_header c (before ++ cp) h refl) read.read long (omega arith))
