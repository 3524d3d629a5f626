-- What stays of the records of a chunk, and what is written of it from a place on.
use Rattle.std.specs.Prelude.{◌≡◌, ℕ, ◌+◌, ◌-◌, ◌<◌, ◌≤◌, Bool, true, List, [], ◌∷◌, ◌++◌, length, Option, Some, None, is_some, ⊤}
use Rattle.std.specs.List.{flat_map, AllByRecursion}
use Rattle.std.proofs.Common.{arith, refl, length-append}
use Rattle.jfr_base.specs.Integer.{spell}
use Rattle.jfr_base.proofs.Copies.{int_some}
use Rattle.jfr_base.proofs.HoldLaws.{Holds, placed_each}
use Rattle.jfr_base.proofs.Spelling.{spell_most}
use Rattle.jfr_layout.specs.Classes.{Classes}
use Rattle.jfr_frame.specs.declared.framed.Framed.{Framed}
use Rattle.jfr_frame.specs.Records.{IsRecord, record_bytes, record_end}
use Rattle.jfr_pool.specs.declared.link.Link.{Link}
use Rattle.jfr_pool.specs.declared.entry.EntryAt.{EntryAt}
use Rattle.jfr_pool.specs.Entries.{PoolAt, entries_from}
use Rattle.jfr_chunk.specs.Written.{group_bytes, checkpoint_tail, checkpoint_bytes, distance}
use Rattle.jfr_chunk.specs.Scrub.{OutputRecord, Whole, Chained, Rebuilt, Written, groups_of, written_bytes, written}
use Rattle.jfr_laws.specs.InChunk.{IsGroupIn, IsLinkIn}
use Rattle.jfr_laws.proofs.ReadBack.{CheckpointStands, checkpoint_stands, placed_group, moved_frame, moved_link, pools_place, tail_small, checkpoint_small}

-- After the first checkpoint, each took nine bytes for its delta.
abbrev pub Deltas : Bool → List OutputRecord → Type 0
Deltas seen [] = ⊤
Deltas seen (Whole r ∷ ss) = Deltas seen ss
Deltas seen (Rebuilt r x ∷ ss) = Deltas seen ss
Deltas seen (Chained i l ∷ ss) = (seen ≡ true → l.delta_end ≡ l.delta_at + 9) × Deltas true ss

-- A record that is built anew, by itself: its size in five bytes, and its type.
abbrev pub own_frame : List ℕ → Framed
own_frame x = record { at = 0; size = length x; type_at = 5; type_id = 0; body = 6 }

-- The record in the output for an output record at an offset.
abbrev pub frame_by : OutputRecord → ℕ → ℕ → Framed
frame_by (Whole r) at n = moved_frame at r n
frame_by (Chained i l) at n = moved_frame at l.frame n
frame_by (Rebuilt r x) at n = moved_frame at (own_frame x) n

module _ (c : List ℕ) (remaining : List EntryAt) where
  -- What is written of a checkpoint.
  abbrev pub chained_bytes : ℕ → Option ℕ → ℕ → Link → List ℕ
  chained_bytes at older i l = checkpoint_bytes c l (distance at older) (groups_of remaining i)

  -- The bytes of all that is written.
  abbrev pub bytes_from : ℕ → Option ℕ → List OutputRecord → List ℕ
  bytes_from at older ss = flat_map (written_bytes c remaining) (written c remaining at older ss)

  -- Its records.
  abbrev pub new_frame : Written → Framed
  new_frame w = frame_by w.output_record w.at (length (written_bytes c remaining w))

  -- Its links, oldest first.
  abbrev pub new_link : ℕ → Option ℕ → ℕ → Link → Link
  new_link at older i l = moved_link at l (distance at older) (length (chained_bytes at older i l))

  abbrev pub new_links : ℕ → Option ℕ → List OutputRecord → List Link
  new_links at older [] = []
  new_links at older (Whole r ∷ ss) = new_links (at + length (record_bytes c r)) older ss
  new_links at older (Rebuilt r x ∷ ss) = new_links (at + length x) older ss
  new_links at older (Chained i l ∷ ss) = new_link at older i l ∷ new_links (at + length (chained_bytes at older i l)) (Some at) ss

  -- Where the pools of a checkpoint begin.
  abbrev pub new_place : ℕ → Option ℕ → ℕ → Link → ℕ
  new_place at older i l = pools_place at l (distance at older) (length (groups_of remaining i))

  module _ (k : Classes) where
    -- Its pools and its entries.
    abbrev pub new_pools : ℕ → Option ℕ → ℕ → Link → List PoolAt
    new_pools at older i l = placed_each (group_bytes c) (placed_group c k) (new_place at older i l) (groups_of remaining i)

    abbrev pub new_entries : ℕ → ℕ → Option ℕ → List OutputRecord → List EntryAt
    new_entries j at older [] = []
    new_entries j at older (Whole r ∷ ss) = new_entries j (at + length (record_bytes c r)) older ss
    new_entries j at older (Rebuilt r x ∷ ss) = new_entries j (at + length x) older ss
    new_entries j at older (Chained i l ∷ ss) = entries_from j 0 (new_pools at older i l) ++ new_entries (j + 1) (at + length (chained_bytes at older i l)) (Some at) ss

    -- The output record was in the chunk, and can be written.
    abbrev pub IsOutputRecordIn : OutputRecord → Type 0
    IsOutputRecordIn (Whole r) = IsRecord c r
    IsOutputRecordIn (Rebuilt r x) = IsRecord c r × IsRecord x (own_frame x) × (length x ≤ r.size)
    IsOutputRecordIn (Chained i l) = IsLinkIn c l × AllByRecursion (IsGroupIn c k) (groups_of remaining i)
        × (l.delta_end + 1 + length (spell (length (groups_of remaining i))) + length (flat_map (group_bytes c) (groups_of remaining i)) ≤ record_end l.frame)

    room : (l : Link) → IsLinkIn c l → (at : ℕ) (older : Option ℕ) → (is_some older ≡ true → l.delta_end ≡ l.delta_at + 9) → l.delta_at + length (spell (distance at older)) ≤ l.delta_end
    unfolding spell
    room l s at None d = let i : l.delta_at < l.delta_end = int_some c l.delta_at l.delta_end s.word s.delta_spelled in omega arith
    room l s at (Some o) d = let e : l.delta_end ≡ l.delta_at + 9 = d refl in let i = spell_most (distance at (Some o)) in omega arith

    -- What is written for a checkpoint is no longer than it was, and is a checkpoint.
    pub chained_fits : (i : ℕ) (l : Link) (at : ℕ) (older : Option ℕ) → IsOutputRecordIn (Chained i l) → (is_some older ≡ true → l.delta_end ≡ l.delta_at + 9)
        → length (checkpoint_tail c l (distance at older) (groups_of remaining i)) + (l.frame.type_at - l.frame.at) ≤ l.frame.size
    chained_fits i l at older s d = tail_small c l (distance at older) (groups_of remaining i) s.0 (room l s.0 at older d) s.2

    pub chained_small : (i : ℕ) (l : Link) (at : ℕ) (older : Option ℕ) → IsOutputRecordIn (Chained i l) → (is_some older ≡ true → l.delta_end ≡ l.delta_at + 9)
        → length (chained_bytes at older i l) ≤ l.frame.size
    chained_small i l at older s d = checkpoint_small c l (distance at older) (groups_of remaining i) s.0.record_stands (chained_fits i l at older s d)

    pub chained_stands : (b : List ℕ) (i : ℕ) (l : Link) (at : ℕ) (older : Option ℕ) → IsOutputRecordIn (Chained i l) → (is_some older ≡ true → l.delta_end ≡ l.delta_at + 9)
        → Holds b (length b) at (chained_bytes at older i l)
        → CheckpointStands k b (new_link at older i l) (new_pools at older i l) (new_place at older i l) (flat_map (group_bytes c) (groups_of remaining i))
    chained_stands b i l at older s d h = checkpoint_stands c k b l (distance at older) at (groups_of remaining i) s.0 s.1 (chained_fits i l at older s d) h

  -- What is written for the first, and the rest after it.
  pub whole_length : (r : Framed) (ss : List OutputRecord) (at : ℕ) (older : Option ℕ)
      → at + length (record_bytes c r) + length (bytes_from (at + length (record_bytes c r)) older ss) ≡ at + length (bytes_from at older (Whole r ∷ ss))
  whole_length r ss at older = omega (arith, length-append (record_bytes c r) (bytes_from (at + length (record_bytes c r)) older ss))

  pub rebuilt_length : (r : Framed) (x : List ℕ) (ss : List OutputRecord) (at : ℕ) (older : Option ℕ)
      → at + length x + length (bytes_from (at + length x) older ss) ≡ at + length (bytes_from at older (Rebuilt r x ∷ ss))
  rebuilt_length r x ss at older = omega (arith, length-append x (bytes_from (at + length x) older ss))

  pub chained_length : (i : ℕ) (l : Link) (ss : List OutputRecord) (at : ℕ) (older : Option ℕ)
      → at + length (chained_bytes at older i l) + length (bytes_from (at + length (chained_bytes at older i l)) (Some at) ss) ≡ at + length (bytes_from at older (Chained i l ∷ ss))
  chained_length i l ss at older = omega (arith, length-append (chained_bytes at older i l) (bytes_from (at + length (chained_bytes at older i l)) (Some at) ss))
