-- The parts of the output are those of its bytes.
use Rattle.std.specs.Prelude.{◌≡◌, ℕ, ◌^◌, ◌<◌, Bool, true, false, ◌==◌, List, [], ◌∷◌, length, map, filter, reverse, Contains, Option, Some, None, if◌then◌else◌}
use Rattle.std.proofs.lemmas.Bool.Decides.{nat_tests}
use Rattle.std.specs.List.{AllByRecursion, enumerate_from}
use Rattle.std.proofs.Common.{ap, arith, refl, sym, ◌∙◌, subst, inl, inr}
use Rattle.std.proofs.lemmas.List.{length-reverse, reverse-reverse}
use Rattle.std.proofs.lemmas.List.Elements.{All-from_recursion, recursion_from_All}
use Rattle.jfr_base.proofs.AlikeLaws.{Each}
use Rattle.jfr_base.specs.Formats.{Format, Reads}
use Rattle.jfr_layout.specs.Classes.{Classes, is_event_class}
use Rattle.jfr_frame.specs.Records.{IsRecord, record_end}
use Rattle.jfr_frame.proofs.RecordLaws.{record_one}
use Rattle.jfr_value.specs.Values.{Value}
use Rattle.jfr_value.proofs.AgreeLaws.{value_agree}
use Rattle.jfr_frame.specs.declared.framed.Framed.{Framed}
use Rattle.jfr_frame.specs.Records.{Tiles}
use Rattle.jfr_meta.specs.Body.{Body}
use Rattle.jfr_meta.specs.Described.{IsMetadata}
use Rattle.jfr_pool.specs.declared.link.Link.{Link}
use Rattle.jfr_pool.specs.declared.entry.EntryAt.{EntryAt}
use Rattle.jfr_pool.specs.Chains.{IsChain}
use Rattle.jfr_pool.specs.Entries.{AreEntries, inline}
use Rattle.jfr_chunk.specs.Parts.{Parts, EventAt, HasFields, events_of, event_records, AreParts, StartsAt, pools_at, metadata_at}
use Rattle.jfr_chunk.specs.Scrub.{moved, output_records, is_kept_or_metadata, written_anew}
use Rattle.jfr_chunk.proofs.AllLaws.{all_in}
use Rattle.jfr_worklist.specs.Members.{In}
use Rattle.jfr_worklist.proofs.Members.{contains_in, in_contains}
use Rattle.jfr_chunk.proofs.HasNodesLaws.{event_is}
use Rattle.jfr_chunk.specs.Laws.{AreEvents}
use Rattle.std.proofs.lemmas.List.Elements.{All-contains}
use Rattle.jfr_laws.proofs.Listed.{any_in}
use Rattle.jfr_laws.proofs.Suits.{Suits}
use Rattle.jfr_laws.proofs.Checkpoints.{all_numbers}
use Rattle.jfr_laws.proofs.Chains.{Linked, linked_chain}
use Rattle.jfr_laws.proofs.Entries.{IsCopy}
use Rattle.jfr_laws.proofs.Order.{chained_of}
use Rattle.jfr_laws.proofs.OutputRecords.{new_frame, new_links, new_entries, IsOutputRecordIn}
use Rattle.jfr_laws.proofs.Output.{entries_by_number, tiles_back, linked_back, entries_back, entries_same_back}
use Rattle.jfr_laws.proofs.Lengths.{last_from, last_back, no_links}
use Rattle.jfr_laws.proofs.Metadata.{SameBody}
use Rattle.jfr_laws.proofs.Found.{Found, shown_frame}
use Rattle.jfr_laws.proofs.Passing.{IfPasses, if_passes}
use Rattle.jfr_laws.proofs.Chosen.{is_kept}
use Rattle.jfr_laws.proofs.Premises.{GoodAnew, all_links, on_whole, recorded}
use Rattle.jfr_laws.proofs.Quiet.{quiet_records}
use Rattle.jfr_laws.proofs.Kept.{CopiedRecord, fields_back, events_back}
use Rattle.jfr_laws.proofs.Whole.{remaining_of, written_of, is_ready, metadata_found, metadata_new, MetadataReads, Leading}

pub none_numbered : (xs : List Link) → enumerate_from 0 xs ≡ [] → xs ≡ []
none_numbered [] e = refl
none_numbered (x ∷ xs) e = cc

pub some_chain : (c : List ℕ) (rs : List Framed) (at : ℕ) (ls : List Link) → IsChain c rs at ls → reverse ls ≡ [] → ⊥
some_chain c rs at [] h e = h
some_chain c rs at (l ∷ ls) h e = let i : length (reverse (l ∷ ls)) ≡ length (l ∷ ls) = length-reverse (l ∷ ls) in let j : length (reverse (l ∷ ls)) ≡ 0 = ap length e in omega arith

-- Links, of which there are some, are the chain from the last one on.
pub chain_new : (c : List ℕ) (rs : List Framed) (ls : List Link) → (ls ≡ [] → ⊥) → Linked c rs None ls → IsChain c rs (last_from None ls) (reverse ls)
chain_new c rs [] n h = absurd (n refl)
chain_new c rs (l ∷ ls) n h = linked_chain c rs l ls h

module _ (slim : Option (List ℕ)) (p : Parts) (kept : List EventAt) (marks : List Bool) where
  abbrev new_records : List Framed
  new_records = map (new_frame p.bytes (remaining_of p marks)) (written_of slim p kept marks)

  abbrev pub links : List Link
  links = new_links p.bytes (remaining_of p marks) 68 None (output_records slim p kept)

  abbrev entries : Classes → List EntryAt
  entries m = new_entries p.bytes (remaining_of p marks) m 0 68 None (output_records slim p kept)

  abbrev pub parts_with : List ℕ → Body → Classes → Parts
  parts_with b body m = record { bytes = b; records = new_records; chain = reverse links; body = body; classes = m; entries = entries m }

-- What is built anew is the metadata record's.
pub anew_only : (slim : Option (List ℕ)) (p : Parts) (r : Framed) (x : List ℕ) → written_anew slim p r ≡ Some x → (r.at == metadata_at p.bytes) ≡ true
anew_only slim p r x e = by_test (r.at == metadata_at p.bytes) slim e
  where
    by_test : (t : Bool) (o : Option (List ℕ)) → (if t then o else None) ≡ Some x → t ≡ true
    by_test true o e = refl
    by_test false o e = cc

-- Those that pass two tests, one of which can be changed.
pub same_both : (test one two : Framed → Bool) (rs : List Framed) → ((r : Framed) → In rs r → test r ≡ true → (one r ≡ true) × (two r ≡ true))
    → filter test (filter one rs) ≡ filter test (filter two rs)
same_both test one two [] f = refl
same_both test one two (r ∷ rs) f = by_tests (test r) refl (one r) refl (two r) refl (same_both test one two rs (λ x i t. f x (inr i) t)) (f r (inl refl))
  where
    by_tests : (t : Bool) → test r ≡ t → (u : Bool) → one r ≡ u → (v : Bool) → two r ≡ v → filter test (filter one rs) ≡ filter test (filter two rs) → (test r ≡ true → (one r ≡ true) × (two r ≡ true))
        → filter test (if u then r ∷ filter one rs else filter one rs) ≡ filter test (if v then r ∷ filter two rs else filter two rs)
    by_tests t e true g true h i f = by_first (test r)
      where
        by_first : (t : Bool) → (if t then r ∷ filter test (filter one rs) else filter test (filter one rs)) ≡ (if t then r ∷ filter test (filter two rs) else filter test (filter two rs))
        by_first true = ap (λ z. r ∷ z) i
        by_first false = i
    by_tests t e false g false h i f = i
    by_tests true e true g false h i f = let z : true ≡ false = sym (f e).1 ∙ h in cc
    by_tests true e false g true h i f = let z : true ≡ false = sym (f e).0 ∙ g in cc
    by_tests false e true g false h i f = rw e i
    by_tests false e false g true h i f = rw e i

-- A record at the offset of a kept event is that event's, under the chunk's classes and under those that suit it.
pub kept_is_event : (p : Parts) (a : AreParts p) (kept : List EventAt) → AreEvents p kept → (m : Classes) → Suits p kept m → (r : Framed) → In p.records r → is_kept kept r ≡ true
    → (is_event_class m r.type_id ≡ true) × (is_event_class p.classes r.type_id ≡ true)
kept_is_event p a kept are m suits r i t =
    let e = any_in (λ (e : EventAt). e.record_of.at == r.at) kept t in
    let v = event_is p a e.0 (contains_in (events_of p) e.0 (All-contains (Contains (events_of p)) kept e.0 are (in_contains kept e.0 e.1))) in
    let q : e.0.record_of.at ≡ r.at = (let u : (e.0.record_of.at == r.at) ≡ true = e.2 in grind (arith, nat_tests)) in
    let g : e.0.record_of ≡ r = record_one p.bytes e.0.record_of r (all_in (IsRecord p.bytes) p.records e.0.record_of (recorded p a) v.listed)
    (all_in (IsRecord p.bytes) p.records r (recorded p a) i) q in
    let h : is_event_class m r.type_id ≡ true = subst (λ (z : Framed). is_event_class m z.type_id ≡ true) g (suits.event e.0 e.1) in
    (h, suits.before r.type_id h)

module _ (slim : Option (List ℕ)) (p : Parts) (a : AreParts p) (kept : List EventAt) (are : AreEvents p kept) (good : GoodAnew p.bytes (written_anew slim p)) (marks : List Bool) (b : List ℕ) (s : Leading slim p kept marks b) where
  abbrev remaining : List EntryAt
  remaining = remaining_of p marks

  abbrev rs : List Framed
  rs = new_records slim p kept marks

  abbrev ls : List Link
  ls = links slim p kept marks

  tiles : Tiles b 68 rs (length b)
  tiles =
      let r = is_ready slim p kept marks a good in
      subst (Tiles b 68 rs) (sym s.size) (tiles_back p.bytes remaining p.classes b (output_records slim p kept) 68 None r.valid r.deltas s.held)

  some_links : ls ≡ [] → ⊥
  some_links e =
      let r = is_ready slim p kept marks a good in
      some_chain p.bytes p.records (pools_at p.bytes) p.chain a.chain (none_numbered (reverse p.chain) (sym r.order ∙ no_links p.bytes remaining (output_records slim p kept) 68 None e))

  chain : length b < 2 ^ 63 → IsChain b rs (pools_at b) (reverse ls)
  chain small =
      let r = is_ready slim p kept marks a good in
      let l = linked_back p.bytes remaining p.classes b rs small (output_records slim p kept) [] 68 None r.valid r.deltas tt s.held refl in
      let e : last_from None ls ≡ pools_at b = sym (last_back p.bytes remaining (output_records slim p kept) 68 None) ∙ sym s.pools in
      subst (λ z. IsChain b rs z (reverse ls)) e (chain_new b rs ls some_links l)

  abbrev pub found : Found p.bytes remaining p.classes b a.metadata_record (metadata_new slim p a) 68 (written_of slim p kept marks)
  found = metadata_found slim p kept marks a good b s.held

  abbrev metadata_record : Framed
  metadata_record = shown_frame p.bytes (metadata_new slim p a) a.metadata_record found.place

  shown_at : (w : Option (List ℕ)) → (shown_frame p.bytes w a.metadata_record found.place).at ≡ found.place
  shown_at None = refl
  shown_at (Some x) = refl

  shown_type : (w : Option (List ℕ)) → (shown_frame p.bytes w a.metadata_record found.place).type_id ≡ 0
  shown_type None = a.metadata_there.type_is
  shown_type (Some x) = refl

  metadata_there : StartsAt rs (metadata_at b) 0 metadata_record
  metadata_there =
      let e : found.place ≡ metadata_at b = sym (s.metadata ∙ (ap (moved (written_of slim p kept marks)) (sym a.metadata_there.place) ∙ found.leads)) in
      record { listed = in_contains rs metadata_record found.listed; place = shown_at (metadata_new slim p a) ∙ e; type_is = shown_type (metadata_new slim p a) }

  -- Under classes that suit what is kept.
  module _ (m : Classes) (suits : Suits p kept m) (holds : AllByRecursion (IsOutputRecordIn p.bytes remaining m) (output_records slim p kept)) (held : Body) (reads : MetadataReads slim p a held m) where
    pub metadata_read : (body : Body) × IsMetadata b metadata_record body m × SameBody held body
    metadata_read = reads b found.place found.held

    are_entries : AreEntries b m 0 (reverse (reverse ls)) (entries slim p kept marks m)
    are_entries =
        let r = is_ready slim p kept marks a good in
        subst (λ z. AreEntries b m 0 z (entries slim p kept marks m)) (sym (reverse-reverse ls)) (entries_back p.bytes remaining m b (output_records slim p kept) 0 68 None holds r.deltas s.held)

    abbrev is_event : Framed → Bool
    is_event r = is_event_class m r.type_id

    fields_too : (r : Framed) → is_event r ≡ true → HasFields p.bytes p.classes r → HasFields p.bytes m r
    fields_too r e f = (f.0, f.1, subst (λ (g : Format Value). Reads g p.bytes (record_end r) r.body f.0 f.1) (value_agree p.classes m (inline r.type_id) (suits.agree r.type_id e)) f.2)

    passes_too : (xs : List Framed) → AllByRecursion (IfPasses (λ r. is_event_class p.classes r.type_id) (HasFields p.bytes p.classes)) xs → AllByRecursion (IfPasses is_event (HasFields p.bytes m)) xs
    passes_too [] f = tt
    passes_too (x ∷ xs) f = ((λ e. fields_too x e (f.0 (suits.before x.type_id e))), passes_too xs f.1)

    fields : AllByRecursion (HasFields b m) (event_records m rs)
    fields =
        let f = if_passes (HasFields p.bytes p.classes) (λ r. is_event_class p.classes r.type_id) p.records
        (recursion_from_All (HasFields p.bytes p.classes) (event_records p.classes p.records) a.events) in
        fields_back p.bytes remaining m b (output_records slim p kept) 68 None holds
        (on_whole (IfPasses is_event (HasFields p.bytes m)) (all_links p) (is_kept_or_metadata p kept) (written_anew slim p) p.records (passes_too p.records f)) s.held

    -- The parts of what is written.
    abbrev pub new_parts : Parts
    new_parts = parts_with slim p kept marks b metadata_read.0 m

    -- These are the parts of the output.
    pub parts_are_valid : length b < 2 ^ 63 → AreParts new_parts
    parts_are_valid small = record {
      records = tiles;
      chain = chain small;
      metadata_record = metadata_record;
      metadata_there = metadata_there;
      metadata = metadata_read.1;
      entries = are_entries;
      events = All-from_recursion (HasFields b m) (event_records m rs) fields;
    }

    pub metadata_is : (small : length b < 2 ^ 63) → (parts_are_valid small).metadata_record ≡ shown_frame p.bytes (metadata_new slim p a) a.metadata_record found.place
    unfolding parts_are_valid
    metadata_is small = refl

    pub same_body : SameBody held new_parts.body
    same_body = metadata_read.2

    -- The entries are copies of those that are left.
    pub entries_copied : Each (IsCopy p.bytes b) remaining (entries slim p kept marks m)
    entries_copied =
        let r = is_ready slim p kept marks a good in
        let same = entries_same_back p.bytes remaining m b (output_records slim p kept) (reverse p.chain) 0 68 None holds r.deltas s.held r.order in
        let e : entries_by_number remaining (chained_of (output_records slim p kept)) ≡ remaining =
        ap (entries_by_number remaining) r.order ∙ all_numbers p.bytes p.classes marks (reverse p.chain) p.entries a.entries in
        subst (λ z. Each (IsCopy p.bytes b) z (entries slim p kept marks m)) e same

    -- The event records are copies of the kept ones.
    pub records_copied : Each (CopiedRecord p.bytes b m) (filter (is_kept kept) (event_records p.classes p.records)) (event_records m rs)
    records_copied =
        subst (λ z. Each (CopiedRecord p.bytes b m) z (event_records m rs))
        (same_both (is_kept kept) (λ r. is_event_class m r.type_id) (λ r. is_event_class p.classes r.type_id) p.records (kept_is_event p a kept are m suits))
        (events_back p.bytes remaining m b (all_links p) (is_kept kept) (written_anew slim p) (metadata_at p.bytes) (anew_only slim p) p.records 68 None (quiet_records p a m) s.held)
