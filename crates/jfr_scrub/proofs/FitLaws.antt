-- What is left of a chunk fits in its bytes.
use Rattle.std.specs.Prelude.{◌≡◌, ℕ, ◌+◌, ◌-◌, ◌<◌, ◌≤◌, true, List, [], ◌∷◌, ◌++◌, length, map, reverse, Option, Some, None, is_some}
use Rattle.std.specs.List.{flat_map, enumerate_from, AllByRecursion}
use Rattle.std.proofs.Common.{arith, refl, sym, subst, append_assoc}
use Rattle.jfr_base.specs.Integer.{spell}
use Rattle.jfr_base.proofs.Copies.{int_some}
use Rattle.jfr_base.proofs.Spelling.{spell_most}
use Rattle.jfr_base.proofs.Ranges.{range_length}
use Rattle.jfr_output.specs.Remaining.{NotFalling}
use Rattle.jfr_output.proofs.CheckpointEntries.{marked_order}
use Rattle.jfr_output.proofs.Widths.{size_width}
use Rattle.jfr_scrub.proofs.CheckpointLaws.{checkpoint_length}
use Rattle.jfr_layout.specs.Classes.{Classes}
use Rattle.jfr_frame.specs.Records.{IsRecord, record_end, record_bytes}
use Rattle.jfr_frame.proofs.RecordLaws.{some_bytes}
use Rattle.jfr_pool.specs.declared.link.Link.{Link}
use Rattle.jfr_pool.specs.declared.entry.EntryAt.{EntryAt}
use Rattle.jfr_pool.specs.Entries.{Constant, PoolAt, entry_of, entries_from, AreEntries}
use Rattle.jfr_chunk.specs.Parts.{Parts, EventAt, AreParts}
use Rattle.jfr_chunk.specs.Reach.{reached_marks, remain}
use Rattle.jfr_chunk.specs.Written.{distance}
use Rattle.jfr_chunk.specs.Metas.{Names, new_metadata}
use Rattle.jfr_chunk.specs.Scrub.{OutputRecord, Whole, Chained, Rebuilt, groups_of, bytes_of, written_bytes, written, written_anew, output_records, is_kept_or_metadata}
use Rattle.jfr_laws.specs.InChunk.{IsLinkIn, AreConstants, ArePools}
use Rattle.jfr_laws.proofs.InChunk.{body_stands}
use Rattle.jfr_laws.proofs.Marks.{all_marked}
use Rattle.jfr_laws.proofs.Order.{Numbered}
use Rattle.jfr_laws.proofs.OutputRecords.{Deltas, IsOutputRecordIn, own_frame}
use Rattle.jfr_laws.proofs.ReadBack.{tail_small}
use Rattle.jfr_laws.proofs.Premises.{all_links, IsCheckpoint, Ready, ready, chained_checkpoints}
use Rattle.jfr_laws.proofs.Lengths.{length_back, sizes_within}
use Rattle.jfr_laws.proofs.Anews.{good_anew}
use Rattle.jfr_scrub.specs.Fits.{LinkFits}
use Rattle.jfr_scrub.specs.Bodies.{OutputRecordFits}
use Rattle.jfr_scrub.specs.Sizes.{HasRange}
use Rattle.jfr_scrub.proofs.BodyLaws.{WrittenFits}

module _ (c : List ℕ) (remaining : List EntryAt) (k : Classes) where
  -- Its delta takes no more bytes than before.
  delta_room : (l : Link) → IsLinkIn c l → (at : ℕ) (newest : Option ℕ) → (is_some newest ≡ true → l.delta_end ≡ l.delta_at + 9) → l.delta_at + length (spell (distance at newest)) ≤ l.delta_end
  unfolding spell
  delta_room l s at None d = let i : l.delta_at < l.delta_end = int_some c l.delta_at l.delta_end s.word s.delta_spelled in omega arith
  delta_room l s at (Some o) d = let e : l.delta_end ≡ l.delta_at + 9 = d refl in let i = spell_most (distance at (Some o)) in omega arith

  -- A checkpoint that can be written fits.
  link_fits : (i : ℕ) (l : Link) (at : ℕ) (newest : Option ℕ) → IsOutputRecordIn c remaining k (Chained i l) → (is_some newest ≡ true → l.delta_end ≡ l.delta_at + 9)
      → LinkFits c l (distance at newest) (groups_of remaining i)
  link_fits i l at newest s d =
      let b : l.frame.body ≤ s.0.middle = s.0.start_spelled.order in
      let m : s.0.middle ≤ l.delta_at = s.0.duration_spelled.order in
      let t = tail_small c l (distance at newest) (groups_of remaining i) s.0 (delta_room l s.0 at newest d) s.2 in
      record { framed = s.0.record_stands; behind = omega arith; order = s.0.delta_spelled.order; kind = s.0.kind_within; room = omega arith }

  all_written : (ss : List OutputRecord) (at : ℕ) (newest : Option ℕ) → AllByRecursion (IsOutputRecordIn c remaining k) ss → Deltas (is_some newest) ss
      → AllByRecursion (WrittenFits c remaining) (written c remaining at newest ss)
  all_written [] at newest a d = tt
  all_written (Whole r ∷ ss) at newest a d = (a.0, all_written ss (at + length (bytes_of c remaining (Whole r) at newest)) newest a.1 d)
  all_written (Rebuilt r x ∷ ss) at newest a d =
      let i : 0 < record_end (own_frame x) = some_bytes x (own_frame x) a.0.1 in
      ((a.0.0, omega arith, a.0.2), all_written ss (at + length (bytes_of c remaining (Rebuilt r x) at newest)) newest a.1 d)
  all_written (Chained i l ∷ ss) at newest a d = (link_fits i l at newest a.0 d.0, all_written ss (at + length (bytes_of c remaining (Chained i l) at newest)) (Some at) a.1 d.1)

-- What is written has a byte.
pub some_written : (c : List ℕ) (remaining : List EntryAt) (s : OutputRecord) (at : ℕ) (newest : Option ℕ) → OutputRecordFits c remaining s at newest → 1 ≤ length (bytes_of c remaining s at newest)
some_written c remaining (Whole r) at newest f =
    let i = some_bytes c r f in
    let l : length (record_bytes c r) ≡ record_end r - r.at = range_length c r.at (record_end r) f.within in
    omega arith
some_written c remaining (Rebuilt r x) at newest f = f.1
some_written c remaining (Chained i l) at newest f =
    let n = checkpoint_length c l (distance at newest) (groups_of remaining i) f in
    let w = size_width c l.frame f.framed in
    omega (arith, w.0)

module _ (names : Names) (p : Parts) (a : AreParts p) (kept : List EventAt) where
  abbrev new : Option (List ℕ)
  new = new_metadata names p kept

  records_of : (ts : List Numbered) → AllByRecursion (IsCheckpoint p.bytes) ts → AllByRecursion (λ m. IsRecord p.bytes m.1.frame) ts
  records_of [] b = tt
  records_of (t ∷ ts) b = (b.0.0, records_of ts b.1)

  is_ready : Ready p (remain p kept) (output_records new p kept)
  unfolding remain
  is_ready = ready p a (is_kept_or_metadata p kept) (written_anew new p) (good_anew names p a kept) (reached_marks p kept)

  pub all_fit : AllByRecursion (WrittenFits p.bytes (remain p kept)) (written p.bytes (remain p kept) 68 None (output_records new p kept))
  all_fit = all_written p.bytes (remain p kept) p.classes (output_records new p kept) 68 None is_ready.valid is_ready.deltas

  pub all_within : 68 + length (flat_map (written_bytes p.bytes (remain p kept)) (written p.bytes (remain p kept) 68 None (output_records new p kept))) ≤ length p.bytes
  all_within =
      let i = length_back p.bytes (remain p kept) p.classes (output_records new p kept) 68 None is_ready.valid is_ready.deltas in
      let j = sizes_within p.bytes (all_links p) (is_kept_or_metadata p kept) (written_anew new p) (records_of (all_links p) (chained_checkpoints p a)) p.records 68 (length p.bytes) a.records in
      omega arith

module _ (c : List ℕ) (k : Classes) where
  constants_range : (checkpoint number class at : ℕ) (xs : List Constant) (to : ℕ) (ys : List EntryAt) → AreConstants c k class at xs to → AllByRecursion (HasRange (length c)) ys
      → AllByRecursion (HasRange (length c)) (map (entry_of checkpoint number class) xs ++ ys)
  constants_range checkpoint number class at [] to ys s b = b
  constants_range checkpoint number class at (x ∷ xs) to ys s b =
      let i : x.key_at < x.value_at = int_some c x.key_at x.value_at x.key s.0.key in
      let j : x.value_at ≤ x.end = s.0.order in
      (record { order = omega arith; within = s.0.within }, constants_range checkpoint number class x.end xs to ys s.1 b)

  pools_range : (checkpoint number at : ℕ) (ps : List PoolAt) (to : ℕ) (ys : List EntryAt) → ArePools c k at ps to → AllByRecursion (HasRange (length c)) ys
      → AllByRecursion (HasRange (length c)) (entries_from checkpoint number ps ++ ys)
  pools_range checkpoint number at [] to ys s b = b
  pools_range checkpoint number at (p ∷ ps) to ys s b =
      subst (AllByRecursion (HasRange (length c))) (sym (append_assoc (map (entry_of checkpoint number p.class) p.constants) (entries_from checkpoint (number + 1) ps) ys))
      (constants_range checkpoint number p.class s.1.first p.constants s.0 (entries_from checkpoint (number + 1) ps ++ ys) s.1.constants (pools_range checkpoint (number + 1) s.0 ps to ys s.2 b))

  entries_range : (n : ℕ) (ls : List Link) (es : List EntryAt) → AllByRecursion (λ l. record_end l.frame ≤ length c) ls → AreEntries c k n ls es → AllByRecursion (HasRange (length c)) es
  entries_range n [] es w b = subst (AllByRecursion (HasRange (length c))) (sym b) tt
  entries_range n (l ∷ ls) es w b =
      let s = body_stands c k (record_end l.frame) w.0 l.frame.body b.0 b.1 in
      subst (AllByRecursion (HasRange (length c))) (sym b.3) (pools_range n 0 s.first b.0 (record_end l.frame) b.2 s.rest (entries_range (n + 1) ls b.2 w.1 b.4))

module _ (p : Parts) (a : AreParts p) (kept : List EventAt) where
  ends_of : (i : ℕ) (ls : List Link) → AllByRecursion (IsCheckpoint p.bytes) (enumerate_from i ls) → AllByRecursion (λ l. record_end l.frame ≤ length p.bytes) ls
  ends_of i [] b = tt
  ends_of i (l ∷ ls) b = (b.0.0.within, ends_of (i + 1) ls b.1)

  pub left_order : NotFalling 0 (remain p kept)
  unfolding remain
  left_order = marked_order p (reached_marks p kept) a

  pub left_ranges : AllByRecursion (HasRange (length p.bytes)) (remain p kept)
  unfolding remain
  left_ranges = all_marked (HasRange (length p.bytes)) (reached_marks p kept) p.entries
      (entries_range p.bytes p.classes 0 (reverse p.chain) p.entries (ends_of 0 (reverse p.chain) (chained_checkpoints p a)) a.entries)
