-- What is written again of what was written has the same bytes, at the same places.
use Rattle.std.specs.Prelude.{◌≡◌, ℕ, ◌+◌, ◌-◌, ◌≤◌, ◌==◌, false, List, [], ◌∷◌, ◌++◌, length, filter, Option, Some, None, is_some, slice_range}
use Rattle.std.specs.List.{flat_map, AllByRecursion}
use Rattle.std.proofs.Common.{ap, arith, refl, sym, ◌∙◌, subst, append_assoc}
use Rattle.jfr_base.specs.Integer.{spell}
use Rattle.jfr_base.proofs.HoldLaws.{Holds, holds_parts}
use Rattle.jfr_layout.specs.Classes.{Classes}
use Rattle.jfr_frame.specs.declared.framed.Framed.{Framed}
use Rattle.jfr_frame.specs.Records.{record_bytes}
use Rattle.jfr_pool.specs.declared.link.Link.{Link}
use Rattle.jfr_pool.specs.declared.entry.EntryAt.{EntryAt}
use Rattle.jfr_pool.specs.Entries.{entries_from}
use Rattle.jfr_chunk.specs.Written.{Group, by_pool, group_bytes, distance, checkpoint_tail, sized, checkpoint_bytes}
use Rattle.jfr_chunk.specs.Scrub.{OutputRecord, Whole, Chained, Rebuilt, Written, groups_of, written, record_of, newest_at}
use Rattle.jfr_chunk.proofs.AllLaws.{all_append}
use Rattle.jfr_laws.specs.InChunk.{IsLinkIn}
use Rattle.jfr_laws.proofs.ReadBack.{moved_frame, moved_link, tail_lengths, checkpoint_held}
use Rattle.jfr_laws.proofs.Checkpoints.{NotOf, others, of_number, later_numbers, block_only}
use Rattle.jfr_laws.proofs.Copied.{copied_to}
use Rattle.jfr_laws.proofs.OutputRecords.{Deltas, own_frame, chained_bytes, bytes_from, new_link, new_links, new_pools, new_place, new_entries, IsOutputRecordIn, chained_fits, chained_stands}
use Rattle.jfr_laws.proofs.Output.{entries_back}
use Rattle.jfr_laws.proofs.Regrouped.{some_each, groups_at, pools_grouped, some_placed, groups_many, groups_again}

-- The range of bytes that are there.
held_range : (b x : List ℕ) (end p q : ℕ) → Holds b end p x → p + length x ≡ q → slice_range b p q ≡ x
held_range b x end p q h e = ap (slice_range b p) (sym e) ∙ h.bytes

-- A checkpoint that was written is written unchanged, with the same number of pools and the same bytes.
checkpoint_again : (c b : List ℕ) (l : Link) (delta at : ℕ) (gs hs : List Group) → IsLinkIn c l → length (checkpoint_tail c l delta gs) + (l.frame.type_at - l.frame.at) ≤ l.frame.size
    → Holds b (length b) at (checkpoint_bytes c l delta gs) → length hs ≡ length gs → flat_map (group_bytes b) hs ≡ flat_map (group_bytes c) gs
    → checkpoint_bytes b (moved_link at l delta (length (checkpoint_bytes c l delta gs))) delta hs ≡ checkpoint_bytes c l delta gs
checkpoint_again c b l delta at gs hs s small h n g =
    let a1 : l.frame.at ≤ l.frame.type_at = s.record_stands.size_spelled.order in
    let a2 : l.frame.type_at ≤ l.frame.body = s.record_stands.type_spelled.order in
    let a3 : l.frame.body ≤ s.middle = s.start_spelled.order in
    let a4 : s.middle ≤ l.delta_at = s.duration_spelled.order in
    let m : Link = moved_link at l delta (length (checkpoint_bytes c l delta gs)) in
    let end : ℕ = at + length (checkpoint_bytes c l delta gs) in
    let t = tail_lengths c l delta gs s in
    let p = checkpoint_held c b l delta at gs s small h in
    let width : m.frame.type_at - m.frame.at ≡ l.frame.type_at - l.frame.at = omega arith in
    let type = held_range b (slice_range c l.frame.type_at l.frame.body) end m.frame.type_at m.frame.body p.type (omega (arith, t.type)) in
    let head = held_range b (slice_range c l.frame.body l.delta_at) end m.frame.body m.delta_at p.head (omega (arith, t.head)) in
    let kind = held_range b (slice_range c l.delta_end (l.delta_end + 1)) end m.delta_end (m.delta_end + 1) p.kind (omega (arith, t.kind)) in
    let tail : checkpoint_tail b m delta hs ≡ checkpoint_tail c l delta gs = λ i. type i ++ (head i ++ (spell delta ++ (kind i ++ (spell (n i) ++ g i)))) in
    λ i. sized (width i) (tail i)

module _ (c : List ℕ) (remaining : List EntryAt) where
  -- What stays of what was written.
  abbrev pub new_output_records : ℕ → ℕ → Option ℕ → List OutputRecord → List OutputRecord
  new_output_records j at older [] = []
  new_output_records j at older (Whole r ∷ ss) = Whole (copied_to c at r) ∷ new_output_records j (at + length (record_bytes c r)) older ss
  new_output_records j at older (Rebuilt r x ∷ ss) = Rebuilt (moved_frame at (own_frame x) (length x)) x ∷ new_output_records j (at + length x) older ss
  new_output_records j at older (Chained i l ∷ ss) = Chained j (new_link c remaining at older i l) ∷ new_output_records (j + 1) (at + length (chained_bytes c remaining at older i l)) (Some at) ss

-- The record is written at its own offset.
abbrev pub IsPlaced : Written → Type 0
IsPlaced w = (record_of w.output_record).at ≡ w.at

-- Written again: the same bytes, the same last checkpoint, and each record at its place.
pub record Rewritten (at : ℕ) (older : Option ℕ) (bytes : List ℕ) (last : ℕ) (b : List ℕ) (remaining : List EntryAt) (ss : List OutputRecord) : Type 0 where
  pub same : bytes_from b remaining at older ss ≡ bytes
  pub last_same : newest_at older (written b remaining at older ss) ≡ last
  pub placed : AllByRecursion IsPlaced (written b remaining at older ss)

-- The first record, and those after it.
whole_then : (at : ℕ) (older : Option ℕ) (x bytes : List ℕ) (last : ℕ) (b : List ℕ) (remaining : List EntryAt) (r : Framed) (ss : List OutputRecord) → r.at ≡ at → record_bytes b r ≡ x
    → Rewritten (at + length x) older bytes last b remaining ss
    → Rewritten at older (x ++ bytes) last b remaining (Whole r ∷ ss)
whole_then at older x bytes last b remaining r ss p e i =
    let j : Rewritten (at + length (record_bytes b r)) older bytes last b remaining ss = subst (λ z. Rewritten (at + length z) older bytes last b remaining ss) (sym e) i in
    record { same = (λ k. e k ++ j.same k); last_same = last_of older j.last_same; placed = (p, j.placed) }
  where
    last_of : (older : Option ℕ) → newest_at older (written b remaining (at + length (record_bytes b r)) older ss) ≡ last → newest_at older (written b remaining at older (Whole r ∷ ss)) ≡ last
    last_of None e = e
    last_of (Some o) e = e

rebuilt_then : (at : ℕ) (older : Option ℕ) (x bytes : List ℕ) (last : ℕ) (b : List ℕ) (remaining : List EntryAt) (r : Framed) (ss : List OutputRecord) → r.at ≡ at
    → Rewritten (at + length x) older bytes last b remaining ss
    → Rewritten at older (x ++ bytes) last b remaining (Rebuilt r x ∷ ss)
rebuilt_then at older x bytes last b remaining r ss p j = record { same = ap (λ z. x ++ z) j.same; last_same = last_of older j.last_same; placed = (p, j.placed) }
  where
    last_of : (older : Option ℕ) → newest_at older (written b remaining (at + length x) older ss) ≡ last → newest_at older (written b remaining at older (Rebuilt r x ∷ ss)) ≡ last
    last_of None e = e
    last_of (Some o) e = e

chained_then : (at : ℕ) (older : Option ℕ) (x bytes : List ℕ) (last : ℕ) (b : List ℕ) (remaining : List EntryAt) (i : ℕ) (l : Link) (ss : List OutputRecord) → l.frame.at ≡ at
    → chained_bytes b remaining at older i l ≡ x
    → Rewritten (at + length x) (Some at) bytes last b remaining ss → Rewritten at older (x ++ bytes) last b remaining (Chained i l ∷ ss)
chained_then at older x bytes last b remaining i l ss p e h =
    let n : ℕ = length (chained_bytes b remaining at older i l) in
    let j : Rewritten (at + n) (Some at) bytes last b remaining ss = subst (λ z. Rewritten (at + length z) (Some at) bytes last b remaining ss) (sym e) h in
    record { same = (λ k. e k ++ j.same k); last_same = last_of older n j.last_same; placed = (p, j.placed) }
  where
    last_of : (older : Option ℕ) (n : ℕ) → newest_at (Some at) (written b remaining (at + n) (Some at) ss) ≡ last
        → newest_at older (record { output_record = Chained i l; at = at; newest = older } ∷ written b remaining (at + n) (Some at) ss) ≡ last
    last_of None n e = e
    last_of (Some o) n e = e

module _ (c : List ℕ) (remaining : List EntryAt) (k : Classes) (b : List ℕ) (all : List EntryAt) where
  -- The groups of a checkpoint's entries, between those of others.
  groups_block : (j : ℕ) (before later : List EntryAt) (i : ℕ) (l : Link) (at : ℕ) (older : Option ℕ) → all ≡ before ++ (entries_from j 0 (new_pools c remaining k at older i l) ++ later)
      → NotOf j before → NotOf j later
      → groups_of all j ≡ groups_at j 0 (new_pools c remaining k at older i l)
  groups_block j before later i l at older e a d =
      let gs : List Group = groups_of remaining i in
      let block : List EntryAt = entries_from j 0 (new_pools c remaining k at older i l) in
      ap (λ z. groups_of z j) e
      ∙ (ap by_pool (block_only j before block later a (of_number j 0 (new_pools c remaining k at older i l)) d)
      ∙ pools_grouped j 0 (new_pools c remaining k at older i l) (some_placed j c k gs (new_place c remaining at older i l) (some_each (filter (λ e. e.checkpoint == i) remaining))))

  -- What is left is written again unchanged, with all entries.
  pub rewritten : (ss : List OutputRecord) (j at : ℕ) (older : Option ℕ) (before : List EntryAt) → AllByRecursion (IsOutputRecordIn c remaining k) ss → Deltas (is_some older) ss
      → Holds b (length b) at (bytes_from c remaining at older ss)
      → all ≡ before ++ new_entries c remaining k j at older ss → ((n : ℕ) → j ≤ n → NotOf n before)
      → Rewritten at older (bytes_from c remaining at older ss) (newest_at older (written c remaining at older ss)) b all (new_output_records c remaining j at older ss)
  rewritten [] j at None before s d h e a = record { same = refl; last_same = refl; placed = tt }
  rewritten [] j at (Some o) before s d h e a = record { same = refl; last_same = refl; placed = tt }
  rewritten (Whole r ∷ ss) j at older before s d h e a =
      let n : ℕ = length (record_bytes c r) in
      let p = holds_parts b (length b) at (record_bytes c r) (bytes_from c remaining (at + n) older ss) h in
      let i = rewritten ss j (at + n) older before s.1 d p.1 e a in
      subst (λ z. Rewritten at older (bytes_from c remaining at older (Whole r ∷ ss)) z b all (new_output_records c remaining j at older (Whole r ∷ ss))) (last_of older)
      (whole_then at older (record_bytes c r) (bytes_from c remaining (at + n) older ss) (newest_at older (written c remaining (at + n) older ss)) b all (copied_to c at r)
      (new_output_records c remaining j (at + n) older ss) refl p.0.bytes i)
    where
      last_of : (older : Option ℕ) → newest_at older (written c remaining (at + length (record_bytes c r)) older ss) ≡ newest_at older (written c remaining at older (Whole r ∷ ss))
      last_of None = refl
      last_of (Some o) = refl
  rewritten (Rebuilt r x ∷ ss) j at older before s d h e a =
      let n : ℕ = length x in
      let p = holds_parts b (length b) at x (bytes_from c remaining (at + n) older ss) h in
      let i = rewritten ss j (at + n) older before s.1 d p.1 e a in
      subst (λ z. Rewritten at older (bytes_from c remaining at older (Rebuilt r x ∷ ss)) z b all (new_output_records c remaining j at older (Rebuilt r x ∷ ss))) (last_of older)
      (rebuilt_then at older x (bytes_from c remaining (at + n) older ss) (newest_at older (written c remaining (at + n) older ss)) b all (moved_frame at (own_frame x) n)
      (new_output_records c remaining j (at + n) older ss) refl i)
    where
      last_of : (older : Option ℕ) → newest_at older (written c remaining (at + length x) older ss) ≡ newest_at older (written c remaining at older (Rebuilt r x ∷ ss))
      last_of None = refl
      last_of (Some o) = refl
  rewritten (Chained i l ∷ ss) j at older before s d h e a =
      let n : ℕ = length (chained_bytes c remaining at older i l) in
      let gs : List Group = groups_of remaining i in
      let p = holds_parts b (length b) at (chained_bytes c remaining at older i l) (bytes_from c remaining (at + n) (Some at) ss) h in
      let block : List EntryAt = entries_from j 0 (new_pools c remaining k at older i l) in
      let later : List EntryAt = new_entries c remaining k (j + 1) (at + n) (Some at) ss in
      let behind = entries_back c remaining k b ss (j + 1) (at + n) (Some at) s.1 d.1 p.1 in
      let g : groups_of all j ≡ groups_at j 0 (new_pools c remaining k at older i l) =
      groups_block j before later i l at older e (a j (omega arith)) (later_numbers b k j (j + 1) (new_links c remaining (at + n) (Some at) ss) later (omega arith) behind) in
      let more : (n : ℕ) → j + 1 ≤ n → NotOf n (before ++ block) =
      λ n o. all_append (λ e. (e.checkpoint == n) ≡ false) before block (a n (omega arith)) (others j n block (λ q. omega arith) (of_number j 0 (new_pools c remaining k at older i l))) in
      let r = rewritten ss (j + 1) (at + n) (Some at) (before ++ block) s.1 d.1 p.1 (e ∙ sym (append_assoc before block later)) more in
      let st = chained_stands c remaining k b i l at older s.0 d.0 p.0 in
      let x : checkpoint_bytes b (new_link c remaining at older i l) (distance at older) (groups_at j 0 (new_pools c remaining k at older i l)) ≡ chained_bytes c remaining at older i l =
      checkpoint_again c b l (distance at older) at gs (groups_at j 0 (new_pools c remaining k at older i l)) s.0.0 (chained_fits c remaining k i l at older s.0 d.0) p.0
      (groups_many j c k gs 0 (new_place c remaining at older i l)) (groups_again j c k b (at + n) gs 0 (new_place c remaining at older i l) s.0.1 st.held) in
      subst (λ z. Rewritten at older (bytes_from c remaining at older (Chained i l ∷ ss)) z b all (new_output_records c remaining j at older (Chained i l ∷ ss))) (last_of older)
      (chained_then at older (chained_bytes c remaining at older i l) (bytes_from c remaining (at + n) (Some at) ss) (newest_at (Some at) (written c remaining (at + n) (Some at) ss)) b all j
      (new_link c remaining at older i l) (new_output_records c remaining (j + 1) (at + n) (Some at) ss) refl
      (ap (checkpoint_bytes b (new_link c remaining at older i l) (distance at older)) g ∙ x) r)
    where
      last_of : (older : Option ℕ)
          → newest_at (Some at) (written c remaining (at + length (chained_bytes c remaining at older i l)) (Some at) ss) ≡ newest_at older (written c remaining at older (Chained i l ∷ ss))
      last_of None = refl
      last_of (Some o) = refl
