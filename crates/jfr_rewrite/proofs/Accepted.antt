-- The rewritten chunk is whole and accepted; its parts are those of its bytes.
use Rattle.std.specs.Prelude.{◌≡◌, ℕ, ◌+◌, ◌-◌, ◌^◌, ◌<◌, ◌≤◌, ◌==◌, true, List, [], ◌∷◌, length, map, filter, reverse, slice_range, Option, Some, None, Ok, Err, Contains}
use Rattle.std.specs.List.{AllByRecursion}
use Rattle.std.proofs.Common.{ap, arith, refl, sym, ◌∙◌, subst, inl, inr}
use Rattle.std.proofs.lemmas.List.{reverse-reverse}
use Rattle.std.proofs.lemmas.List.Elements.{All-from_recursion, All-contains}
use Rattle.jfr_base.specs.Formats.{Answer, Reads, run}
use Rattle.jfr_base.proofs.AlikeLaws.{Each}
use Rattle.jfr_base.proofs.HoldLaws.{Holds}
use Rattle.jfr_base.proofs.OneAnswer.{has_one_answer}
use Rattle.jfr_layout.specs.Classes.{Agree, Classes, is_event_class}
use Rattle.jfr_header.specs.Fronts as fronts
use Rattle.jfr_frame.specs.declared.framed.Framed.{Framed}
use Rattle.jfr_frame.specs.Records.{Rising, Tiles, record_end}
use Rattle.jfr_frame.proofs.RecordLaws.{rising_of}
use Rattle.jfr_value.specs.Values.{Value, bytes_of}
use Rattle.jfr_value.specs.Reading.{value_format}
use Rattle.jfr_pool.specs.declared.link.Link.{Link}
use Rattle.jfr_pool.specs.declared.entry.EntryAt.{EntryAt}
use Rattle.jfr_pool.specs.Chains.{IsChain}
use Rattle.jfr_pool.specs.Entries.{AreEntries, PoolAt, inline}
use Rattle.jfr_chunk.specs.Parts.{Parts, EventAt, HasFields, event_by, event_of, event_records, events_of, AreParts, StartsAt, metadata_at}
use Rattle.jfr_chunk.specs.Parts as parts_of
use Rattle.jfr_chunk.specs.Scrub.{OutputRecord, Written, newest_at, moved, is_kept_or_metadata, written_anew}
use Rattle.jfr_worklist.specs.Members.{In}
use Rattle.jfr_worklist.proofs.Members.{contains_in, in_contains}
use Rattle.jfr_chunk.proofs.AllLaws.{in_filter_map}
use Rattle.jfr_chunk.proofs.TestLaws.{is_eq}
use Rattle.jfr_chunk.proofs.HasNodesLaws.{event_is}
use Rattle.jfr_laws.proofs.Found.{shown}
use Rattle.jfr_laws.proofs.Whole.{metadata_new, new_is, no_link_at, or_right}
use Rattle.jfr_laws.proofs.Rebuilt.{chain_new, kept_is_event, none_numbered, same_both, some_chain}
use Rattle.jfr_laws.proofs.Listed.{in_passes}
use Rattle.jfr_laws.proofs.Lengths.{last_from}
use Rattle.jfr_laws.proofs.Assembled.{HeaderLeads, headed_held, headed_leads, headed_size, headed_whole}
use Rattle.jfr_laws.proofs.Premises.{all_links, recorded, metadata_stands, chained_checkpoints}
use Rattle.jfr_laws.proofs.Quiet.{quiet_records}
use Rattle.jfr_laws.proofs.Passing.{filter_both}
use Rattle.jfr_laws.proofs.Chosen.{is_kept, records_of, chosen_records, rising_filter}
use Rattle.jfr_laws.proofs.Same.{event_records_of, chosen_events}
use Rattle.jfr_laws.proofs.Checkpoints.{all_numbers}
use Rattle.jfr_laws.proofs.Output.{entries_by_number}
use Rattle.jfr_rewrite.specs.Changed.{changed}
use Rattle.jfr_rewrite.specs.Rewrite.{Rewrite, event_tail, event_bytes, written_by, assembled_by, rewritten}
use Rattle.jfr_rewrite.specs.Rewritten.{OneToOne, CarriesAll, CarriesTail, IsChangedEntry, IsChangedEvent, IsRewritten}
use Rattle.jfr_rewrite.proofs.Rewriting.{Rewriting}
use Rattle.jfr_rewrite.proofs.RecordBack.{new_frame, fields_are}
use Rattle.jfr_rewrite.proofs.Pools.{Renewed}
use Rattle.jfr_rewrite.proofs.Made.{Found, bytes_from, frame_at, frame_of, chain_from, entries_at, found_made, last_inside, last_made, chain_made, no_chain, tiles_made, entries_made}
use Rattle.jfr_rewrite.proofs.Output.{kept, remaining, sound, bytes, after, width, pools, ss, order, suits_kept, all_read, all_fields, all_entries, event_here, event_record, event_back, read_under, MetadataRead, metadata_read}
use Rattle.jfr_rewrite.proofs.Events.{NewEvent, events_each}

-- An event is that of its record, which is of an event class.
pub record Computed (p : Parts) (e : EventAt) : Type 0 where
  pub class : is_event_class p.classes e.record_of.type_id ≡ true
  pub is : event_of p.bytes p.classes e.record_of ≡ Some e

pub computed : (p : Parts) (e : EventAt) → In (events_of p) e → Computed p e
unfolding events_of
computed p e i =
    let r = in_filter_map (event_of p.bytes p.classes) (event_records p.classes p.records) e i in
    by_answer r.0 (in_passes (λ r. is_event_class p.classes r.type_id) p.records r.0 r.1) (run (value_format p.classes (inline r.0.type_id)) p.bytes (record_end r.0) r.0.body) refl r.2
  where
    by_answer : (r : Framed) → is_event_class p.classes r.type_id ≡ true → (o : Answer Value) → run (value_format p.classes (inline r.type_id)) p.bytes (record_end r) r.body ≡ o
        → event_by r o ≡ Some e → Computed p e
    by_answer r t (Err f) q h = cc
    by_answer r t (Ok g) q h =
        let made : EventAt = record { record_of = r; node = record { shape = inline r.type_id; at = r.body; end = g.place } } in
        let f : made ≡ e = (let z : Some made ≡ Some e = h in cc) in
        let own : r ≡ e.record_of = ap (λ (z : EventAt). z.record_of) f in
        let there : event_of p.bytes p.classes r ≡ Some e = ap (event_by r) q ∙ h in
        record { class = subst (λ (z : Framed). is_event_class p.classes z.type_id ≡ true) own t; is = subst (λ z. event_of p.bytes p.classes z ≡ Some e) own there }

module _ (given : Rewriting) where
  abbrev w : Rewrite
  w = given.rewrite

  abbrev p : Parts
  p = given.parts

  abbrev a : AreParts p
  a = given.accepted

  abbrev m : Classes
  m = given.classes

  abbrev these : List EventAt
  these = kept given

  abbrev write : OutputRecord → ℕ → Option ℕ → List ℕ
  write = bytes given

  abbrev heads : OutputRecord → ℕ × ℕ
  heads = after given

  abbrev widths : ℕ → Link → ℕ → Option ℕ → ℕ
  widths = width given

  abbrev pooled : ℕ → Option ℕ → ℕ → Link → List PoolAt
  pooled = pools given

  abbrev outs : List OutputRecord
  outs = ss given

  abbrev ws : List Written
  ws = written_by write 68 None outs

  abbrev body_of : List ℕ
  body_of = bytes_from m write heads widths pooled 68 None outs

  abbrev last_of : ℕ
  last_of = newest_at None ws

  abbrev metadata_of : ℕ
  metadata_of = moved ws (metadata_at p.bytes)

  abbrev out : List ℕ
  out = assembled_by p write outs

  event_in : (e : EventAt) → In these e → In (events_of p) e
  event_in e i = contains_in (events_of p) e (All-contains (Contains (events_of p)) these e (chosen_events p given.flags) (in_contains these e i))

  -- What is built anew of the metadata record, if anything is.
  abbrev metadata_anew : Option (List ℕ)
  metadata_anew = metadata_new w.metadata p a

  module _ (b : List ℕ) (h : Holds b (length b) 68 body_of) where
    abbrev found : Found m write heads widths pooled b a.metadata_record metadata_anew 68 ws
    found =
        found_made m write heads widths pooled b p.bytes (all_links p) (is_kept_or_metadata p these) (written_anew w.metadata p) a.metadata_record (metadata_stands p a)
        (no_link_at p.bytes (all_links p) a.metadata_record (chained_checkpoints p a) (metadata_stands p a) a.metadata_there.type_is)
        (or_right (is_kept these a.metadata_record) (a.metadata_record.at == metadata_at p.bytes) (is_eq a.metadata_record.at (metadata_at p.bytes) a.metadata_there.place))
        p.records 68 None (recorded p a) (contains_in p.records a.metadata_record a.metadata_there.listed) h

  out_size : length out ≡ 68 + length body_of
  out_size = headed_size p.bytes body_of last_of metadata_of

  out_held : Holds out (length out) 68 body_of
  out_held = headed_held p.bytes body_of last_of metadata_of

  abbrev Leading : List ℕ → Type 0
  Leading = HeaderLeads body_of last_of metadata_of

  module _ (whole : fronts.Whole p.bytes) (small : length out < 2 ^ 30) where
    out_leading : Leading out
    out_leading =
        let f = found out out_held in
        let g : metadata_of ≡ f.offset = ap (moved ws) (sym a.metadata_there.place) ∙ f.leads in
        let x = f.held.within in
        let l = last_inside m write heads widths pooled outs 68 None tt in
        headed_leads p.bytes body_of last_of metadata_of (omega (arith, l, out_size, small)) (omega (arith, g, x, small))

    out_whole : fronts.Whole out
    out_whole = headed_whole p.bytes body_of last_of metadata_of whole (omega (arith, out_size, small))

  -- The output is in bytes after a header that leads to it.
  module _ (b : List ℕ) (l : Leading b) (small : length b < 2 ^ 30) (carries : CarriesAll w p these (remaining given)) where
    tiny : length b < 2 ^ 63
    tiny = omega arith

    abbrev rs : List Framed
    rs = map (frame_of m write heads widths pooled) ws

    abbrev ls : List Link
    ls = chain_from m write heads widths pooled 68 None outs

    abbrev es : List EntryAt
    es = entries_at m write heads widths pooled 0 68 None outs

    tiles : Tiles b 68 rs (length b)
    tiles = subst (Tiles b 68 rs) (sym l.size) (tiles_made m write heads widths pooled b outs 68 None (all_read given carries b) l.held)

    some_checkpoint : ls ≡ [] → ⊥
    some_checkpoint e =
        some_chain p.bytes p.records (parts_of.pools_at p.bytes) p.chain a.chain (none_numbered (reverse p.chain) (sym (order given) ∙ no_chain m write heads widths pooled outs 68 None e))

    chain : IsChain b rs (parts_of.pools_at b) (reverse ls)
    chain =
        let k = chain_made m write heads widths pooled b rs tiny outs [] 68 None (all_read given carries b) tt l.held refl in
        let e : last_from None ls ≡ parts_of.pools_at b = sym (last_made m write heads widths pooled outs 68 None) ∙ sym l.pools in
        subst (λ z. IsChain b rs z (reverse ls)) e (chain_new b rs ls some_checkpoint k)

    abbrev offset : ℕ
    offset = (found b l.held).offset

    abbrev metadata_there_read : MetadataRead given metadata_anew b offset (found b l.held).newest
    metadata_there_read = metadata_read given metadata_anew (sym (new_is w.metadata p a)) b offset (found b l.held).newest (found b l.held).held

    abbrev metadata_frame : Framed
    metadata_frame = frame_at m write heads widths pooled (shown metadata_anew a.metadata_record) offset (found b l.held).newest

    frame_type : (z : Option (List ℕ)) (at : ℕ) (older : Option ℕ) → (frame_at m write heads widths pooled (shown z a.metadata_record) at older).type_id ≡ 0
    frame_type None at older = a.metadata_there.type_is
    frame_type (Some x) at older = refl

    frame_place : (z : Option (List ℕ)) (at : ℕ) (older : Option ℕ) → (frame_at m write heads widths pooled (shown z a.metadata_record) at older).at ≡ at
    frame_place None at older = refl
    frame_place (Some x) at older = refl

    metadata_there : StartsAt rs (metadata_at b) 0 metadata_frame
    metadata_there =
        let f = found b l.held in
        let e : f.offset ≡ metadata_at b = sym (l.metadata ∙ (ap (moved ws) (sym a.metadata_there.place) ∙ f.leads)) in
        record { listed = in_contains rs metadata_frame f.listed; place = frame_place metadata_anew offset f.newest ∙ e; type_is = frame_type metadata_anew offset f.newest }

    are_entries : AreEntries b m 0 (reverse (reverse ls)) es
    are_entries =
        subst (λ z. AreEntries b m 0 z es) (sym (reverse-reverse ls)) (entries_made m write heads widths pooled b outs 0 68 None (all_read given carries b) l.held)

    -- Its parts.
    abbrev parts : Parts
    parts = record { bytes = b; records = rs; chain = reverse ls; body = metadata_there_read.body; classes = m; entries = es }

    valid : AreParts parts
    valid = record {
      records = tiles;
      chain = chain;
      metadata_record = metadata_frame;
      metadata_there = metadata_there;
      metadata = metadata_there_read.metadata;
      entries = are_entries;
      events = All-from_recursion (HasFields b m) (event_records m rs) (all_fields given carries b l.held);
    }

    -- Its entries are the remaining ones, changed.
    each_renewed : (xs ys : List EntryAt) → AllByRecursion (λ e. Agree p.classes m e.class) xs → Each (Renewed w p (sound given) given.keeps b) xs ys
        → OneToOne (IsChangedEntry w p parts) xs ys
    each_renewed [] [] g e = tt
    each_renewed [] (y ∷ ys) g e = absurd e
    each_renewed (x ∷ xs) [] g e = absurd e
    each_renewed (x ∷ xs) (y ∷ ys) g e = (record { key = e.0.key; checkpoint = e.0.checkpoint; value = record { class = e.0.class; agree = g.0; value = e.0.value } }, each_renewed xs ys g.1 e.1)

    entries_are : OneToOne (IsChangedEntry w p parts) (remaining given) es
    entries_are =
        let these_too : List EntryAt = remaining given in
        let each = all_entries given carries b (reverse p.chain) l.held (order given) in
        let e : entries_by_number these_too _ ≡ these_too = ap (entries_by_number these_too) (order given) ∙ all_numbers p.bytes p.classes given.marks (reverse p.chain) p.entries a.entries in
        each_renewed these_too es given.suits.entry (subst (λ z. Each (Renewed w p (sound given) given.keeps b) z es) e each)

    -- Its events are the kept ones, with changed fields.
    one_event : (e d : EventAt) → In (events_of p) e → In (events_of p) d → d.record_of ≡ e.record_of → d ≡ e
    one_event e d i j q =
        let x = (computed p e i).is in
        let y : event_of p.bytes p.classes e.record_of ≡ Some d = subst (λ z. event_of p.bytes p.classes z ≡ Some d) q (computed p d j).is in
        cc

    -- Where the event is in the output.
    abbrev frame_in : EventAt → ℕ → Framed → Framed
    frame_in z at r = new_frame at (w.width z.record_of (length (event_tail w p z))) (length (event_bytes w p z)) r

    changed_event : (e f : EventAt) → In these e → In (events_of parts) f → NewEvent given b e.record_of f.record_of → IsChangedEvent w.change p parts e f
    changed_event e f i j v =
        let same : v.event ≡ e = one_event e v.event (event_in e i) (event_in v.event v.is_kept) v.of in
        by_event (subst (In these) same v.is_kept) (subst (λ z. CarriesTail w z.record_of (event_tail w p z)) same v.carries)
        (subst (λ z. f.record_of ≡ frame_in z v.at e.record_of) same v.frame) (subst (λ z. Holds b (length b) v.at (event_bytes w p z)) same v.held)
      where
        by_event : In these e → CarriesTail w e.record_of (event_tail w p e) → f.record_of ≡ frame_in e v.at e.record_of → Holds b (length b) v.at (event_bytes w p e)
            → IsChangedEvent w.change p parts e f
        by_event k c g h =
            let id : ℕ = e.record_of.type_id in
            let st = event_back given b e k v.at c h in
            let x = event_is parts valid f j in
            let at : ℕ = v.at + (w.width e.record_of (length (event_tail w p e)) + (e.record_of.body - e.record_of.type_at)) in
            let end : ℕ = v.at + length (event_bytes w p e) in
            let type : f.record_of.type_id ≡ id = ap (λ (z : Framed). z.type_id) g in
            let y : Value = changed w.change None (event_here given e k).value in
            let to : ℕ = at + length (bytes_of y) in
            let read : Reads (value_format m (inline id)) b end at x.value f.node.end =
            subst (λ (z : Framed). Reads (value_format m (inline z.type_id)) b (record_end z) z.body x.value f.node.end) g x.reads in
            let ours : Reads (value_format m (inline id)) b end at y to = read_under given id b end at y to ((suits_kept given).event e k) st.fields in
            let inside : end ≤ length b = h.within in
            let order : at ≤ end = (let z = st.fields_held.within in omega arith) in
            let one = (has_one_answer (value_format m (inline id)) b end at order inside).one_reading x.value y f.node.end to read ours in
            let start : f.node.at ≡ at = x.at ∙ ap (λ (z : Framed). z.body) g in
            let last : record_end f.record_of ≡ end = ap record_end g in
            record {
              class = sym type;
              agree = given.suits.agree id ((suits_kept given).event e k);
              fields =
                  fields_are w p (sound given) given.keeps e (event_here given e k) (event_record given e k)
                  ∙ (sym st.fields_held.bytes ∙ (ap (λ z. slice_range b z to) (sym start) ∙ ap (slice_range b f.node.at) (sym one.1)));
              rest =
                  sym st.rest_held.bytes ∙ (ap (λ z. slice_range b z (to + length (slice_range p.bytes e.node.end (record_end e.record_of)))) (sym one.1)
                  ∙ ap (slice_range b f.node.end) (st.ends ∙ sym last));
            }

    changed_events : (xs ys : List EventAt) → ((e : EventAt) → In xs e → In these e) → ((f : EventAt) → In ys f → In (events_of parts) f)
        → Each (NewEvent given b) (records_of xs) (records_of ys) → OneToOne (IsChangedEvent w.change p parts) xs ys
    changed_events [] [] i j e = tt
    changed_events [] (y ∷ ys) i j e = absurd e
    changed_events (x ∷ xs) [] i j e = absurd e
    changed_events (x ∷ xs) (y ∷ ys) i j e = (changed_event x y (i x (inl refl)) (j y (inl refl)) e.0, changed_events xs ys (λ z k. i z (inr k)) (λ z k. j z (inr k)) e.1)

    events_are : OneToOne (IsChangedEvent w.change p parts) these (events_of parts)
    events_are =
        let rising : Rising 68 (event_records p.classes p.records) =
        rising_filter (λ r. is_event_class p.classes r.type_id) 68 p.records (rising_of p.bytes 68 68 (length p.bytes) p.records (omega arith) a.records) in
        let chosen : filter (is_kept these) (event_records p.classes p.records) ≡ records_of these =
        chosen_records given.flags (events_of p) (event_records p.classes p.records) 68 (event_records_of p a) rising in
        let news : event_records m rs ≡ records_of (events_of parts) = sym (event_records_of parts valid) in
        let each = events_each given b p.records 68 None (quiet_records p a m) (recorded p a) carries l.held in
        let same =
        same_both (is_kept these) (λ r. is_event_class m r.type_id) (λ r. is_event_class p.classes r.type_id) p.records (kept_is_event p a these (chosen_events p given.flags) m (suits_kept given)) in
        changed_events these (events_of parts) (λ e i. i) (λ f i. i)
        (subst (λ z. Each (NewEvent given b) z (records_of (events_of parts))) (filter_both (λ r. is_event_class m r.type_id) (is_kept these) p.records ∙ (same ∙ chosen))
        (subst (Each (NewEvent given b) _) news each))

  pub is_rewritten : fronts.Whole p.bytes → length (rewritten w p these (remaining given)) < 2 ^ 30 → CarriesAll w p these (remaining given)
      → IsRewritten w p these (remaining given) m
  unfolding rewritten
  is_rewritten whole small carries = record {
    parts = parts out (out_leading whole small) small carries;
    bytes = refl;
    whole = out_whole whole small;
    valid = valid out (out_leading whole small) small carries;
    classes = refl;
    entries_are = entries_are out (out_leading whole small) small carries;
    events_are = events_are out (out_leading whole small) small carries;
  }
