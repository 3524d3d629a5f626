-- The output chunk, one output record after another.
use Rattle.std.specs.Prelude.{◌≡◌, ℕ, ◌+◌, ◌≤◌, ◌<◌, ◌==◌, Bool, true, false, List, [], ◌∷◌, ◌++◌, length, drop, filter, find, replicate, take, Option, Some, None, Contains, IfSome, Result, slice_get, unwrap_or}
use Rattle.std.specs.List.{AllByRecursion, flat_map}
use Rattle.std.proofs.Common.{ap, arith, refl, sym, ◌∙◌, subst, append_assoc, length-append}
use Rattle.std.proofs.lemmas.Bool.{eqb-true}
use Rattle.std.proofs.lemmas.List.{append-nil}
use Rattle.std.proofs.lemmas.List.Elements.{All-contains}
use Rattle.std.proofs.lemmas.Map.Views.{exact_unsigned_eq}
use Rattle.jfr_header.specs.Headers.{header_bytes, header_of}
use Rattle.jfr_header.specs.declared.header.Header.{Header}
use Rattle.jfr_layout.specs.Classes.{is_event_class}
use Rattle.jfr_frame.specs.declared.framed.Framed.{Framed}
use Rattle.jfr_frame.specs.Records.{IsRecord, record_bytes}
use Rattle.jfr_frame.proofs.RecordLaws.{record_one}
use Rattle.jfr_pool.specs.declared.entry.EntryAt.{EntryAt}
use Rattle.jfr_pool.specs.declared.link.Link.{Link}
use Rattle.jfr_worklist.specs.Members.{In}
use Rattle.jfr_worklist.proofs.Members.{contains_in, in_contains}
use Rattle.jfr_chunk.specs.Parts.{Parts, EventAt, AreParts, events_of, metadata_at}
use Rattle.jfr_chunk.specs.Reach.{kept_by}
use Rattle.jfr_chunk.specs.Scrub.{OutputRecord, Whole, Chained, Rebuilt, Written, groups_of, is_kept_or_metadata, newest_at, moved, newest_after, output_records, record_of, written_anew}
use Rattle.jfr_chunk.proofs.AllLaws.{all_in}
use Rattle.jfr_laws.specs.InChunk.{IsEntryIn}
use Rattle.jfr_laws.proofs.Groups.{groups_hold}
use Rattle.jfr_laws.proofs.Order.{output_records_in}
use Rattle.jfr_laws.proofs.OutputRecords.{IsOutputRecordIn}
use Rattle.jfr_laws.proofs.Passing.{clash}
use Rattle.jfr_laws.proofs.Premises.{GoodAnew, all_links, metadata_stands, ready, recorded}
use Rattle.jfr_laws.proofs.Quiet.{no_metadata_event}
use Rattle.jfr_laws.proofs.Same.{chosen_events, event_of_chunk}
use Rattle.jfr_output.specs.declared.remaining_records.RemainingRecord.{RemainingRecord}
use Rattle.jfr_output.specs.declared.remaining_records.RemainingRecord.TheVariants as remaining_records
use Rattle.jfr_output.specs.RemainingRecords.{IsKeptEvent, ShowsEvent, ShowsMetadata, output_record_for, whole_or}
use Rattle.jfr_output.specs.Positions.{IsBefore, offset_so_far}
use Rattle.jfr_output.specs.Remaining.{NotFalling}
use Rattle.jfr_output.proofs.CheckpointEntries.{marked_order}
use Rattle.jfr_output.proofs.PositionLaws.{newest_next, newest_none, moved_next, or_none, or_place}
use Rattle.jfr_rewrite.specs.declared.fault.WriteFault.{WriteFault}
use Rattle.jfr_rewrite.specs.Rewrite.{Rewrite, assembled_by, bytes_by, chained_tail, event_bytes, event_tail, new_bytes, resized, rewritten, whole_bytes, written_by}
use Rattle.jfr_rewrite.specs.Rewritten.{CarriesRecord, CarriesTail}
use Rattle.jfr_rewrite.specs.Writing.{AreSomeOf, CanWrite, CheckpointStands, HasAllRecords, Progress, Wrote, with_record}
use Rattle.jfr_rewrite.proofs.Accepted.{computed}
use Rattle.jfr_rewrite.proofs.CheckpointWriting.{entries_stand}
use Rattle.jfr_rewrite.proofs.Output.{OnChained, OnChosen, find_in, none_anew, on_chained, on_chosen}
use Rattle.jfr_rewrite.proofs.SizeLaws.{wrote_weaker}

module _ (p : Parts) (a : AreParts p) (flags : List Bool) where
  abbrev kept : List EventAt
  kept = kept_by p flags

  pub event_record : (e : EventAt) → In kept e → IsRecord p.bytes e.record_of
  event_record e i = all_in (IsRecord p.bytes) p.records e.record_of (recorded p a) (event_of_chunk p a kept (chosen_events p flags) e i).listed

  -- The event whose record is here, if it is found.
  pub found_event : (r : Framed) (e : EventAt) → IsRecord p.bytes r → find (λ e. e.record_of.at == r.at) kept ≡ Some e → In kept e × (e.record_of ≡ r)
  found_event r e s q =
      let f = find_in (λ e. e.record_of.at == r.at) kept e q in
      (f.0, record_one p.bytes e.record_of r (event_record e f.0) s (exact_unsigned_eq e.record_of.at r.at f.1))

  -- No kept event is the metadata record.
  pub metadata_no_event : (r : Framed) → IsRecord p.bytes r → (r.at == metadata_at p.bytes) ≡ true → find (λ e. e.record_of.at == r.at) kept ≡ None
  metadata_no_event r s t = by_find (find (λ e. e.record_of.at == r.at) kept) refl
    where
      there : r ≡ a.metadata_record
      there = record_one p.bytes r a.metadata_record s (metadata_stands p a) (eqb-true r.at (metadata_at p.bytes) t ∙ sym a.metadata_there.place)

      by_find : (o : Option EventAt) → find (λ e. e.record_of.at == r.at) kept ≡ o → o ≡ None
      by_find None q = refl
      by_find (Some e) q =
          let f = found_event r e s q in
          let i : In (events_of p) e = contains_in (events_of p) e (All-contains (Contains (events_of p)) kept e (chosen_events p flags) (in_contains kept e f.0)) in
          let c = computed p e i in
          let same : e.record_of ≡ a.metadata_record = f.1 ∙ there in
          let none : is_event_class p.classes e.record_of.type_id ≡ false =
          ap (λ (z : Framed). is_event_class p.classes z.type_id) same ∙ (ap (is_event_class p.classes) a.metadata_there.type_is ∙ no_metadata_event p.classes) in
          absurd (clash (is_event_class p.classes e.record_of.type_id) c.class none)

  -- All output records can be written, with some of the entries.
  module _ (new : Option (List ℕ)) (entries : List EntryAt) where
    each_can : (ss : List OutputRecord) → AllByRecursion (OnChosen (IsRecord p.bytes) (is_kept_or_metadata p kept) (written_anew new p)) ss
        → AllByRecursion (OnChained (IsOutputRecordIn p.bytes entries p.classes)) ss
        → AllByRecursion (CanWrite p entries) ss
    unfolding CanWrite
    each_can [] h c = tt
    each_can (Whole r ∷ ss) h c = (h.0.0, each_can ss h.1 c.1)
    each_can (Rebuilt r x ∷ ss) h c = (h.0.0, each_can ss h.1 c.1)
    each_can (Chained i l ∷ ss) h c =
        let es = subst (AllByRecursion (IsEntryIn p.bytes p.classes)) (groups_hold (filter (λ e. e.checkpoint == i) entries)) (entries_stand p.bytes p.classes (groups_of entries i) c.0.1) in
        (record { link = c.0.0; entries = es }, each_can ss h.1 c.1)

    pub all_can : AreSomeOf p entries → AllByRecursion (CanWrite p entries) (output_records new p kept)
    all_can some =
        let none : GoodAnew p.bytes none_anew = λ r x s e. cc in
        let valid = (ready p a (is_kept_or_metadata p kept) none_anew none some.0).valid in
        each_can (output_records new p kept) (on_chosen (IsRecord p.bytes) (all_links p) (is_kept_or_metadata p kept) (written_anew new p) p.records (recorded p a))
        (on_chained (all_links p) (is_kept_or_metadata p kept) (written_anew new p) (IsOutputRecordIn p.bytes entries p.classes) p.records
        (subst (λ z. AllByRecursion (IsOutputRecordIn p.bytes z p.classes) (output_records_in (all_links p) (is_kept_or_metadata p kept) none_anew p.records)) (sym some.1) valid))

    -- They are in the order of their checkpoints.
    pub some_order : AreSomeOf p entries → NotFalling 0 entries
    some_order some = subst (NotFalling 0) (sym some.1) (marked_order p some.0 a)

seen_not : (o : Option ℕ) (t : Bool) (at : ℕ) → t ≡ false → offset_so_far o t at ≡ o
seen_not o t at e = ap (λ z. offset_so_far o z at) e ∙ by_place o
  where
    by_place : (o : Option ℕ) → offset_so_far o false at ≡ o
    by_place None = refl
    by_place (Some place) = refl

-- What is before an offset is before a later one.
later_before : (o : Option ℕ) (at to : ℕ) → IsBefore o at → at ≤ to → IsBefore o to
later_before None at to h i = tt
later_before (Some older) at to h i = omega (arith, h, i)

-- An output record and what was written of it.
module _ (w : Rewrite) (p : Parts) (flags : List Bool) (entries : List EntryAt) (new : Option (List ℕ)) where
  abbrev bytes : OutputRecord → ℕ → Option ℕ → List ℕ
  bytes = new_bytes w p (kept_by p flags) entries

  abbrev place : ℕ
  place = metadata_at p.bytes

  -- With this record the output is `after`.
  abbrev pub IsNext : RemainingRecord → Progress → Progress → Type 0
  IsNext s b after = (after ≡ with_record bytes place b (output_record_for new s)) × IsBefore after.newest (length after.bytes)

  abbrev pub CarriesIt : RemainingRecord → Progress → Type 0
  CarriesIt s b = CarriesRecord w p (kept_by p flags) entries (output_record_for new s) (length b.bytes) b.newest

  appended_before : (o : Option ℕ) (old x after : List ℕ) → after ≡ old ++ x → IsBefore o (length old) → IsBefore o (length after)
  appended_before o old x after e h = later_before o (length old) (length after) h (omega (arith, ap length e, length-append old x))

  event_next : (number : ℕ) (r : Framed) (b : Progress) (after : List ℕ) (k : IsKeptEvent p flags number r) → (r.at == place) ≡ false → after ≡ b.bytes ++ event_bytes w p k.event
      → record { bytes = after; newest = b.newest; metadata = b.metadata } ≡ with_record bytes place b (Whole r)
  unfolding with_record
  event_next number r b after k t h =
      λ i. record { bytes = (h ∙ ap (λ o. b.bytes ++ whole_bytes w p r o) (sym k.there)) i; newest = b.newest; metadata = sym (seen_not b.metadata (r.at == place) (length b.bytes) t) i }

  pub event_written : {A : Type 0} (result : Result A WriteFault) (s : RemainingRecord) (number : ℕ) (r : Framed) (b : Progress) (after : List ℕ) → s ≡ remaining_records.Event number r
      → ShowsEvent p flags s → ShowsMetadata place s
      → IsBefore b.newest (length b.bytes) → IfSome (slice_get (events_of p) number) (λ e. Wrote result (λ x. after ≡ b.bytes ++ event_bytes w p e) (CarriesTail w e.record_of (event_tail w p e)))
      → Wrote result (λ x. IsNext s b (record { bytes = after; newest = b.newest; metadata = b.metadata })) (CarriesIt s b)
  event_written {A = A} result s number r b after q k t before h =
      subst (λ z. ShowsEvent p flags z → ShowsMetadata place z → Wrote result (λ (x : A). IsNext z b (record { bytes = after; newest = b.newest; metadata = b.metadata })) (CarriesIt z b)) (sym q)
      (λ k t. (let one = subst (λ o. IfSome o (λ e. Wrote result (λ (x : A). after ≡ b.bytes ++ event_bytes w p e) (CarriesTail w e.record_of (event_tail w p e)))) k.numbered h in
      wrote_weaker result (λ x e. (event_next number r b after k t e, appended_before b.newest b.bytes (event_bytes w p k.event) after e before)) (λ carried. carried k.event k.there) one)) k t

  metadata_next : (a : AreParts p) (r : Framed) (o : Option (List ℕ)) (b : Progress) → IsRecord p.bytes r → (r.at == place) ≡ true
      → record { bytes = b.bytes ++ unwrap_or o (record_bytes p.bytes r); newest = b.newest; metadata = offset_so_far b.metadata true (length b.bytes) } ≡ with_record bytes place b (whole_or o r)
  unfolding with_record
  metadata_next a r None b s t = λ i. record {
    bytes = b.bytes ++ whole_bytes w p r (sym (metadata_no_event p a flags r s t) i);
    newest = b.newest;
    metadata = offset_so_far b.metadata (sym t i)
        (length b.bytes);
  }
  metadata_next a r (Some x) b s t = λ i. record { bytes = b.bytes ++ x; newest = b.newest; metadata = offset_so_far b.metadata (sym t i) (length b.bytes) }

  pub metadata_written : (a : AreParts p) (s : RemainingRecord) (r : Framed) (b after : Progress) → s ≡ remaining_records.Metadata r → ShowsMetadata place s → IsBefore b.newest (length b.bytes)
      → IsRecord p.bytes r
      → after ≡ record { bytes = b.bytes ++ unwrap_or new (record_bytes p.bytes r); newest = b.newest; metadata = offset_so_far b.metadata true (length b.bytes) } → IsNext s b after
  metadata_written a s r b after q t before i e =
      subst (λ z. ShowsMetadata place z → IsNext z b after) (sym q)
      (λ t. (
        e ∙ metadata_next a r new b i t,
        subst (λ (z : Progress). IsBefore z.newest (length z.bytes)) (sym e) (appended_before b.newest b.bytes (unwrap_or new (record_bytes p.bytes r)) _ refl before),
      )) t

  link_next : (number : ℕ) (l : Link) (b : Progress) → (l.frame.at == place) ≡ false
      → record { bytes = b.bytes ++ resized w l.frame (chained_tail w p entries number l (length b.bytes) b.newest); newest = Some (length b.bytes); metadata = b.metadata } ≡ with_record bytes place b (Chained number l)
  unfolding with_record
  link_next number l b t =
      λ i. record {
        bytes = b.bytes ++ resized w l.frame (chained_tail w p entries number l (length b.bytes) b.newest);
        newest = Some (length b.bytes);
        metadata = sym (seen_not b.metadata (l.frame.at == place) (length b.bytes) t) i;
      }

  pub link_written : {A : Type 0} (result : Result A WriteFault) (s : RemainingRecord) (number : ℕ) (l : Link) (b after : Progress) → s ≡ remaining_records.Chained number l → ShowsMetadata place s
      → Wrote result (λ x. (after ≡ record { bytes = b.bytes ++ resized w l.frame (chained_tail w p entries number l (length b.bytes) b.newest); newest = Some (length b.bytes); metadata = b.metadata }) × (length b.bytes < length after.bytes))
      (CarriesTail w l.frame (chained_tail w p entries number l (length b.bytes) b.newest))
      → Wrote result (λ x. IsNext s b after) (CarriesIt s b)
  link_written {A = A} result s number l b after q t h =
      subst (λ z. ShowsMetadata place z → Wrote result (λ (x : A). IsNext z b after) (CarriesIt z b)) (sym q)
      (λ t. wrote_weaker result (λ x e. (e.0 ∙ link_next number l b t, subst (λ o. IsBefore o (length after.bytes)) (sym (ap (λ (z : Progress). z.newest) e.0)) e.1)) (λ carried. carried) h) t

-- What a checkpoint and the metadata record need.
pub link_stands : (p : Parts) (entries : List EntryAt) (new : Option (List ℕ)) (s : RemainingRecord) (number : ℕ) (l : Link) → s ≡ remaining_records.Chained number l
    → CanWrite p entries (output_record_for new s)
    → CheckpointStands p l (filter (λ e. e.checkpoint == number) entries)
unfolding CanWrite
link_stands p entries new s number l q c = subst (λ z. CanWrite p entries (output_record_for new z)) q c

pub record_stands : (p : Parts) (entries : List EntryAt) (new : Option (List ℕ)) (s : RemainingRecord) (r : Framed) → s ≡ remaining_records.Metadata r → CanWrite p entries (output_record_for new s)
    → IsRecord p.bytes r
unfolding CanWrite
record_stands p entries new s r q c = by_new new (subst (λ z. CanWrite p entries (output_record_for new z)) q c)
  where
    by_new : (o : Option (List ℕ)) → CanWrite p entries (whole_or o r) → IsRecord p.bytes r
    by_new None c = c
    by_new (Some x) c = c

-- What has been written, and what is left to write.
module _ (p : Parts) (bytes : OutputRecord → ℕ → Option ℕ → List ℕ) (Can : OutputRecord → Type 0) (Carried : Written → Type 0) where
  pub record Going (all ss : List OutputRecord) (b : Progress) : Type 0 where
    pub body : b.bytes ++ flat_map (bytes_by bytes) (written_by bytes (length b.bytes) b.newest ss) ≡ replicate 68 0 ++ flat_map (bytes_by bytes) (written_by bytes 68 None all)
    pub newest : newest_at b.newest (written_by bytes (length b.bytes) b.newest ss) ≡ newest_at None (written_by bytes 68 None all)
    pub metadata : or_place b.metadata (moved (written_by bytes (length b.bytes) b.newest ss) (metadata_at p.bytes)) ≡ moved (written_by bytes 68 None all) (metadata_at p.bytes)
    pub can : AllByRecursion Can ss
    pub carried : AllByRecursion Carried (written_by bytes 68 None all) → AllByRecursion Carried (written_by bytes (length b.bytes) b.newest ss)
    pub before : IsBefore b.newest (length b.bytes)

  pub going_none : (all : List OutputRecord) (b : Progress) → b ≡ record { bytes = replicate 68 0; newest = None; metadata = None } → AllByRecursion Can all → Going all all b
  going_none all b e c = subst (Going all all) (sym e) (record { body = refl; newest = refl; metadata = refl; can = c; carried = λ h. h; before = tt })

  pub going_next : (all ss : List OutputRecord) (s : OutputRecord) (b next : Progress) → Going all (s ∷ ss) b → next ≡ with_record bytes (metadata_at p.bytes) b s
      → IsBefore next.newest (length next.bytes) → Going all ss next
  unfolding with_record
  going_next all ss s b next g e h = subst (Going all ss) (sym e) going
    where
      going : Going all ss (with_record bytes (metadata_at p.bytes) b s)
      going =
          let at : ℕ = length b.bytes in
          let x : List ℕ = bytes s at b.newest in
          let o : Option ℕ = newest_after s at b.newest in
          let l : length (b.bytes ++ x) ≡ at + length x = length-append b.bytes x in
          let w : Written = record { output_record = s; at = at; newest = b.newest } in
          let ws : List Written = written_by bytes (at + length x) o ss in
          record {
            body = ap (λ n. (b.bytes ++ x) ++ flat_map (bytes_by bytes) (written_by bytes n o ss)) l ∙ (append_assoc b.bytes x (flat_map (bytes_by bytes) ws) ∙ g.body);
            newest = ap (λ n. newest_at o (written_by bytes n o ss)) l ∙ (sym (newest_next b.newest w ws) ∙ g.newest);
            metadata = ap (λ n. or_place (offset_so_far b.metadata ((record_of s).at == metadata_at p.bytes) at) (moved (written_by bytes n o ss) (metadata_at p.bytes))) l
                ∙ (sym (moved_next b.metadata w ws (metadata_at p.bytes)) ∙ g.metadata);
            can = g.can.1;
            carried = λ c. subst (λ n. AllByRecursion Carried (written_by bytes n o ss)) (sym l) (g.carried c).1;
            before = subst (λ (z : Progress). IsBefore z.newest (length z.bytes)) e h;
          }

  pub going_all : (all ss : List OutputRecord) (b : Progress) → Going all ss b → ss ≡ [] → HasAllRecords p bytes all b
  going_all all ss b g e = done (subst (λ z. Going all z b) e g)
    where
      done : Going all [] b → HasAllRecords p bytes all b
      done g = record { body = sym (append-nil b.bytes) ∙ g.body; newest = sym (newest_none b.newest) ∙ g.newest; metadata = sym (or_none b.metadata) ∙ g.metadata }

-- The header in its place before the body is the output.
pub all_assembled : (p : Parts) (bytes : OutputRecord → ℕ → Option ℕ → List ℕ) (ss : List OutputRecord) (b : Progress) (h : Header) (out : List ℕ) → HasAllRecords p bytes ss b
    → h ≡ header_of (take 68 p.bytes)
    → out ≡ header_bytes (record h { size = length b.bytes; pools = unwrap_or b.newest 0; metadata = unwrap_or b.metadata 0 }) ++ drop 68 b.bytes → out ≡ assembled_by p bytes ss
all_assembled p bytes ss b h out i e o =
    let body : List ℕ = flat_map (bytes_by bytes) (written_by bytes 68 None ss) in
    let size : length b.bytes ≡ 68 + length body = ap length i.body ∙ length-append (replicate 68 0) body in
    o ∙ (λ n. header_bytes (record (e n) { size = size n; pools = i.newest n; metadata = i.metadata n }) ++ drop 68 (i.body n))

pub is_rewritten : (w : Rewrite) (p : Parts) (these : List EventAt) (entries : List EntryAt) (out : List ℕ) → out ≡ assembled_by p (new_bytes w p these entries) (output_records w.metadata p these)
    → out ≡ rewritten w p these entries
unfolding rewritten
is_rewritten w p these entries out e = e

pub header_room : (p : Parts) (bytes : OutputRecord → ℕ → Option ℕ → List ℕ) (ss : List OutputRecord) (b : Progress) → HasAllRecords p bytes ss b → 68 ≤ length b.bytes
header_room p bytes ss b i = omega (arith, ap length i.body, length-append (replicate 68 0) (flat_map (bytes_by bytes) (written_by bytes 68 None ss)))
