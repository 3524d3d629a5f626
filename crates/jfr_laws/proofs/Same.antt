-- A chunk that has copies of another's chosen events, and of the entries that they reach, means the same,
-- and reaches each of its entries.
use Rattle.std.specs.Prelude.{◌≡◌, ℕ, ◌<◌, Bool, List, [], ◌∷◌, length, filter, Some, Contains, true}
use Rattle.std.proofs.Common.{ap, arith, sym, ◌∙◌, subst}
use Rattle.std.proofs.lemmas.List.Elements.{All-from_recursion, recursion_from_All, All-contains_itself, All-contains}
use Rattle.jfr_base.proofs.AlikeLaws.{Each}
use Rattle.jfr_layout.specs.Classes.{Agree, is_event_class}
use Rattle.jfr_frame.specs.declared.framed.Framed.{Framed}
use Rattle.jfr_frame.specs.Records.{IsRecord, Rising}
use Rattle.jfr_frame.proofs.RecordLaws.{rising_of}
use Rattle.jfr_pool.specs.Entries.{number_in_force}
use Rattle.jfr_chunk.specs.Parts.{Parts, EventAt, HasFields, event_records, events_of, AreParts}
use Rattle.jfr_chunk.specs.Reach.{Reached, reached_marks, marked, kept_by, remain}
use Rattle.jfr_worklist.specs.Marks.{IsMarked}
use Rattle.jfr_chunk.specs.Meaning.{SameMeaning}
use Rattle.jfr_chunk.specs.Laws.{AreEvents, SameRecords, SameOnPaths, AreReached}
use Rattle.jfr_worklist.specs.Members.{In}
use Rattle.jfr_worklist.proofs.Members.{contains_in, in_contains}
use Rattle.jfr_chunk.proofs.AllLaws.{filter_all}
use Rattle.jfr_chunk.proofs.HasNodesLaws.{IsEvent, has_nodes, event_is, tiles_each}
use Rattle.jfr_chunk.proofs.MeaningLaws.{same_meaning}
use Rattle.jfr_chunk.proofs.ReachedLaws.{reached_marked}
use Rattle.jfr_laws.specs.Laws.{AreCopied}
use Rattle.jfr_laws.proofs.Marks.{all_marked, all_output_record, rank, ranked}
use Rattle.jfr_laws.proofs.Entries.{copied_force, marked_force, in_force_same}
use Rattle.jfr_laws.proofs.Suits.{Suits, event_agreed}
use Rattle.jfr_laws.proofs.Chosen.{records_of, is_kept, records_of_events, chosen_records, rising_filter}
use Rattle.jfr_laws.proofs.Kept.{CopiedRecord}
use Rattle.jfr_laws.proofs.Targets.{refers_too, event_beside}

-- The records of the events of a chunk are its event records.
pub event_records_of : (p : Parts) → AreParts p → records_of (events_of p) ≡ event_records p.classes p.records
unfolding events_of
event_records_of p a =
    let i = tiles_each p.bytes 68 (length p.bytes) p.records a.records in
    let rs : List Framed = event_records p.classes p.records in
    records_of_events p.bytes p.classes rs (filter_all (IsRecord p.bytes) (λ r. is_event_class p.classes r.type_id) p.records i) (recursion_from_All (HasFields p.bytes p.classes) rs a.events)

-- Chosen events are events.
pub chosen_events : (p : Parts) (flags : List Bool) → AreEvents p (kept_by p flags)
chosen_events p flags =
    All-from_recursion (Contains (events_of p)) (kept_by p flags)
    (all_marked (Contains (events_of p)) flags (events_of p) (recursion_from_All (Contains (events_of p)) (events_of p) (All-contains_itself (events_of p))))

pub event_of_chunk : (p : Parts) (a : AreParts p) (kept : List EventAt) → AreEvents p kept → (e : EventAt) → In kept e → IsEvent p e
event_of_chunk p a kept k e i = event_is p a e (contains_in (events_of p) e (All-contains (Contains (events_of p)) kept e k (in_contains kept e i)))

-- The entries that paths from events reach are exactly the marked ones.
pub are_reached : (p : Parts) (kept : List EventAt) → AreParts p → AreEvents p kept → AreReached p kept
are_reached p kept a k number = reached_marked p (has_nodes p a) kept (λ e i. (let v = event_of_chunk p a kept k e i in (v.value, v.node))) number

-- All entries remain if each is reached.
pub all_remain : (p : Parts) → AreParts p → ((number : ℕ) → number < length p.entries → Reached p (events_of p) number) → remain p (events_of p) ≡ p.entries
unfolding remain
all_remain p a reached = all_output_record (reached_marks p (events_of p)) p.entries (λ n h. (are_reached p (events_of p) a (All-contains_itself (events_of p)) n).0 (reached n h))

-- Copied records are those of the same events.
same_records : (p q : Parts) (es fs : List EventAt) → ((id : ℕ) → is_event_class q.classes id ≡ true → Agree p.classes q.classes id)
    → Each (CopiedRecord p.bytes q.bytes q.classes) (records_of es) (records_of fs) → SameRecords p q es fs
same_records p q [] [] g c = tt
same_records p q [] (f ∷ fs) g c = absurd c
same_records p q (e ∷ es) [] g c = absurd c
same_records p q (e ∷ es) (f ∷ fs) g c =
    (record { class = c.0.class; bytes = c.0.bytes; agree = g e.record_of.type_id c.0.event }, same_records p q es fs g c.1)

-- What is marked is reached.
pub marks_reached : (p : Parts) (a : AreParts p) (flags : List Bool) (n : ℕ) → IsMarked (reached_marks p (kept_by p flags)) n → Reached p (kept_by p flags) n
marks_reached p a flags n = (are_reached p (kept_by p flags) a (chosen_events p flags) n).1

-- Two chunks, of which the second has copies of the chosen events and of the entries that they reach, under
-- classes that suit these.
module _ (p q : Parts) (a : AreParts p) (b : AreParts q) (flags : List Bool) (suits : Suits p (kept_by p flags) q.classes) where
  abbrev kept : List EventAt
  kept = kept_by p flags

  abbrev marks : List Bool
  marks = reached_marks p kept

  module _ (records : Each (CopiedRecord p.bytes q.bytes q.classes) (filter (is_kept kept) (event_records p.classes p.records)) (event_records q.classes q.records))
      (entries : AreCopied p q (marked marks p.entries) q.entries) where
    -- The events are the same ones.
    pub same_events : SameRecords p q kept (events_of q)
    same_events =
        let rising : Rising 68 (event_records p.classes p.records) =
        rising_filter (λ r. is_event_class p.classes r.type_id) 68 p.records (rising_of p.bytes 68 68 (length p.bytes) p.records (omega arith) a.records) in
        let chosen = chosen_records flags (events_of p) (event_records p.classes p.records) 68 (event_records_of p a) rising in
        same_records p q kept (events_of q) suits.agree
        (subst (λ z. Each (CopiedRecord p.bytes q.bytes q.classes) z (records_of (events_of q))) chosen
        (subst (λ z. Each (CopiedRecord p.bytes q.bytes q.classes) (filter (is_kept kept) (event_records p.classes p.records)) z) (sym (event_records_of q b)) records))

    -- What a path meets is reached, so it is the same in both.
    same_on_paths : SameOnPaths p q kept
    same_on_paths e path n key i l t =
        in_force_same p q marks key entries
        (λ number f. (are_reached p kept a (chosen_events p flags) number).0 (record { event = e; is_kept = i; path = path; node = n; leads_there = l; key = key; refers = t; in_force = f }))

    -- So the chunks mean the same.
    pub mean_the_same : SameMeaning p q kept (events_of q)
    mean_the_same = same_meaning p q a b kept (events_of q) (chosen_events p flags) (All-contains_itself (events_of q)) same_events same_on_paths

    -- An entry that is reached in the first chunk is reached in the second, where its number is its rank
    -- among the marked ones.
    reached_there : (place number : ℕ) → IsMarked marks place → rank marks place ≡ number → Reached p kept place → Reached q (events_of q) number
    reached_there place number m n r =
        let i : In kept r.event = contains_in kept r.event r.is_kept in
        let x = event_beside p q kept (events_of q) r.event mean_the_same i in
        let w = event_of_chunk q b (events_of q) (All-contains_itself (events_of q)) x.0 x.1 in
        let g = event_agreed p q.classes (has_nodes p a) kept suits (event_of_chunk p a kept (chosen_events p flags)) r.event i in
        let t = refers_too p q (has_nodes p a) (has_nodes q b) r.event x.0 w.value r.path r.node r.key g w.node x.2.paths r.leads_there r.refers in
        let f : number_in_force q.entries r.key ≡ Some number =
        sym (copied_force p q (marked marks p.entries) q.entries r.key entries) ∙ (marked_force marks p.entries r.key place r.in_force m ∙ ap (λ z. Some z) n) in
        record { event = x.0; is_kept = in_contains (events_of q) x.0 x.1; path = r.path; node = t.node; leads_there = t.leads_there; key = r.key; refers = t.refers; in_force = f }

    -- So is each of its own entries.
    pub all_reached : length (marked marks p.entries) ≡ length q.entries → (number : ℕ) → number < length q.entries → Reached q (events_of q) number
    all_reached l number h =
        let r = ranked marks p.entries number (omega arith) in
        reached_there r.place number r.is_marked r.number_is ((are_reached p kept a (chosen_events p flags) r.place).1 r.is_marked)
