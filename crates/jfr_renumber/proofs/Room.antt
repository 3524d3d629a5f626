-- No record gets longer with new keys that aren't larger: an event has room in its record, and so has a checkpoint
-- with some of its entries.
use Rattle.std.specs.Prelude.{◌≡◌, ℕ, ◌+◌, ◌-◌, ◌≤◌, ◌==◌, Bool, true, List, [], ◌∷◌, length, filter, find, slice_range, Option, Some, None, is_some, reverse}
use Rattle.std.specs.List.{AllByRecursion, flat_map}
use Rattle.std.proofs.Common.{arith, subst}
use Rattle.jfr_base.specs.Integer.{spell}
use Rattle.jfr_layout.specs.Classes.{Sound}
use Rattle.jfr_frame.specs.declared.framed.Framed.{Framed}
use Rattle.jfr_frame.specs.Records.{IsRecord}
use Rattle.jfr_pool.specs.declared.entry.EntryAt.{EntryAt}
use Rattle.jfr_pool.specs.declared.link.Link.{Link}
use Rattle.jfr_worklist.specs.Members.{In}
use Rattle.jfr_chunk.specs.Parts.{Parts, EventAt, AreParts}
use Rattle.jfr_chunk.specs.Reach.{kept_by, marked}
use Rattle.jfr_chunk.specs.Written as old
use Rattle.jfr_chunk.specs.Written.{Group, by_pool, distance}
use Rattle.jfr_chunk.specs.Metas.{Names, new_metadata}
use Rattle.jfr_chunk.specs.Scrub.{OutputRecord, Whole, Chained, Rebuilt, Written, groups_of, output_records, is_kept_or_metadata, written_anew}
use Rattle.jfr_chunk.proofs.HasNodesLaws.{has_nodes}
use Rattle.jfr_laws.specs.InChunk.{IsEntryIn, IsGroupIn}
use Rattle.jfr_laws.proofs.Anews.{good_anew}
use Rattle.jfr_laws.proofs.Copied.{record_length}
use Rattle.jfr_laws.proofs.Groups.{groups_hold}
use Rattle.jfr_laws.proofs.OutputRecords.{Deltas, IsOutputRecordIn, chained_fits}
use Rattle.jfr_laws.proofs.Premises.{Ready, ready}
use Rattle.jfr_laws.proofs.Same.{chosen_events, event_of_chunk}
use Rattle.jfr_rewrite.specs.Rewrite as rewrite
use Rattle.jfr_rewrite.specs.Rewrite.{event_tail, written_by}
use Rattle.jfr_rewrite.specs.Rewritten.{CarriesAll, CarriesRecord}
use Rattle.jfr_rewrite.proofs.CheckpointWriting.{entries_stand}
use Rattle.jfr_rewrite.proofs.Sizes.{old_width_carries}
use Rattle.jfr_rewrite.proofs.WritingLaws.{event_record, found_event}
use Rattle.jfr_renumber.specs.Renumber.{checkpoint_tail, group_bytes, whole_bytes, with_keys}
use Rattle.jfr_renumber.proofs.EventWriting.{tail_short}
use Rattle.jfr_renumber.proofs.Fewer.{Under, Shorter, numbers_short, sized_length, tail_length, under_same}

module _ (p : Parts) (a : AreParts p) (flags : List Bool) (new : ℕ × ℕ → ℕ) (most : (t : ℕ × ℕ) → new t ≤ t.1) where
  abbrev these : List EventAt
  these = kept_by p flags

  abbrev sound : Sound p.classes
  sound = (has_nodes p a).sound

  -- An event.
  event_room : (e : EventAt) → In these e → (e.record_of.type_at - e.record_of.at) + length (event_tail (with_keys new None) p e) ≤ e.record_of.size
  event_room e i =
      let h = event_of_chunk p a these (chosen_events p flags) e i in
      tail_short p.classes sound p.bytes new most e.record_of (event_record p a flags e i) e.node h.value h.node h.at h.within

  pub whole_short : (r : Framed) → IsRecord p.bytes r → (o : Option EventAt) → find (λ e. e.record_of.at == r.at) these ≡ o → length (whole_bytes new p r o) ≤ r.size
  whole_short r s (Some e) q =
      let f = found_event p a flags r e s q in
      subst (λ (z : Framed). length (whole_bytes new p r (Some e)) ≤ z.size) f.1
      (omega (arith, event_room e f.0, sized_length (e.record_of.type_at - e.record_of.at) (event_tail (with_keys new None) p e)))
  whole_short r s None q = omega (arith, record_length p.bytes r s)

  -- The pools of a checkpoint.
  pub groups_shorter : (fm ms : List Bool) → Under fm ms → (i : ℕ) → AllByRecursion (IsGroupIn p.bytes p.classes) (groups_of (marked fm p.entries) i)
      → Shorter p sound new most (groups_of (marked fm p.entries) i) (groups_of (marked ms p.entries) i)
  groups_shorter fm ms u i g =
      numbers_short p sound new most 0 (reverse p.chain) p.entries fm ms u a.entries i
      (subst (AllByRecursion (IsEntryIn p.bytes p.classes)) (groups_hold (filter (λ e. e.checkpoint == i) (marked fm p.entries)))
      (entries_stand p.bytes p.classes (groups_of (marked fm p.entries) i) g))

  module _ (fm : List Bool) where
    abbrev remaining : List EntryAt
    remaining = marked fm p.entries

    checkpoint_tail_short : (l : Link) (delta i : ℕ) → AllByRecursion (IsGroupIn p.bytes p.classes) (groups_of remaining i)
        → length (checkpoint_tail new p l delta (groups_of remaining i)) ≤ length (old.checkpoint_tail p.bytes l delta (groups_of remaining i))
    checkpoint_tail_short l delta i s =
        let gs : List Group = groups_of remaining i in
        let t : List ℕ = slice_range p.bytes l.frame.type_at l.frame.body in
        let m : List ℕ = slice_range p.bytes l.frame.body l.delta_at in
        let d : List ℕ = spell delta in
        let k : List ℕ = slice_range p.bytes l.delta_end (l.delta_end + 1) in
        let n : List ℕ = spell (length gs) in
        let x : List ℕ = flat_map (group_bytes new p) gs in
        let y : List ℕ = flat_map (old.group_bytes p.bytes) gs in
        let short : length x ≤ length y = (groups_shorter fm fm (under_same fm) i s).bytes in
        omega (arith, short, tail_length t m d k n x, tail_length t m d k n y)

    -- So the old widths carry the sizes of all output records.
    module _ (new_record : Option (List ℕ)) where
      abbrev bytes : OutputRecord → ℕ → Option ℕ → List ℕ
      bytes = rewrite.new_bytes (with_keys new new_record) p these remaining

      abbrev Carried : Written → Type 0
      Carried o = CarriesRecord (with_keys new new_record) p these remaining o.output_record o.at o.newest

      event_carried : (r : Framed) → IsRecord p.bytes r → (at : ℕ) (older : Option ℕ) → CarriesRecord (with_keys new new_record) p these remaining (Whole r) at older
      event_carried r s at older =
          λ e q. (let f = found_event p a flags r e s q in
          old_width_carries p.bytes e.record_of _ (event_record p a flags e f.0) (event_room e f.0))

      checkpoint_carried : (i : ℕ) (l : Link) (at : ℕ) (older : Option ℕ) → IsOutputRecordIn p.bytes remaining p.classes (Chained i l)
          → (is_some older ≡ true → l.delta_end ≡ l.delta_at + 9) → CarriesRecord (with_keys new new_record) p these remaining (Chained i l) at older
      checkpoint_carried i l at older s d =
          let f = chained_fits p.bytes remaining p.classes i l at older s d in
          let t = checkpoint_tail_short l (distance at older) i s.1 in
          old_width_carries p.bytes l.frame (length (checkpoint_tail new p l (distance at older) (groups_of remaining i))) s.0.record_stands (omega arith)

      each_carried : (ss : List OutputRecord) (at : ℕ) (older : Option ℕ) → AllByRecursion (IsOutputRecordIn p.bytes remaining p.classes) ss → Deltas (is_some older) ss
          → AllByRecursion Carried (written_by bytes at older ss)
      each_carried [] at older s d = tt
      each_carried (Whole r ∷ ss) at older s d = (event_carried r s.0 at older, each_carried ss (at + length (bytes (Whole r) at older)) older s.1 d)
      each_carried (Rebuilt r x ∷ ss) at older s d = (tt, each_carried ss (at + length (bytes (Rebuilt r x) at older)) older s.1 d)
      each_carried (Chained i l ∷ ss) at older s d = (checkpoint_carried i l at older s.0 d.0, each_carried ss (at + length (bytes (Chained i l) at older)) (Some at) s.1 d.1)

    pub carries_all : (names : Names) → CarriesAll (with_keys new (new_metadata names p these)) p these remaining
    carries_all names =
        let slim = new_metadata names p these in
        let r : Ready p remaining (output_records slim p these) = ready p a (is_kept_or_metadata p these) (written_anew slim p) (good_anew names p a these) fm in
        each_carried slim (output_records slim p these) 68 None r.valid r.deltas
