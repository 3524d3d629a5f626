-- Output records that are written one after another, given the bytes of each: if each is read back, all are.
use Rattle.std.specs.Prelude.{◌≡◌, ℕ, ◌+◌, ◌^◌, ◌<◌, ◌≤◌, ◌==◌, Bool, true, false, List, [], ◌∷◌, ◌++◌, length, map, Option, Some, None}
use Rattle.std.specs.List.{flat_map, AllByRecursion, cons_option}
use Rattle.std.proofs.Common.{ap, arith, refl, sym, ◌∙◌, subst, inl, inr, append_assoc, length-append}
use Rattle.std.proofs.lemmas.Bool.Decides.{nat_tests}
use Rattle.jfr_base.proofs.HoldLaws.{Holds, holds_parts}
use Rattle.jfr_base.specs.Formats.{Reads}
use Rattle.jfr_layout.specs.Classes.{Classes}
use Rattle.jfr_frame.specs.declared.framed.Framed.{Framed}
use Rattle.jfr_frame.specs.Records.{IsRecord, Tiles, record_end}
use Rattle.jfr_frame.proofs.RecordLaws.{record_one, some_bytes}
use Rattle.jfr_pool.specs.declared.link.Link.{Link}
use Rattle.jfr_pool.specs.declared.entry.EntryAt.{EntryAt}
use Rattle.jfr_pool.specs.Chains.{head_format}
use Rattle.jfr_pool.specs.Entries.{AreEntries, PoolAt, checkpoint_format, entries_from}
use Rattle.jfr_chunk.specs.Written.{distance}
use Rattle.jfr_chunk.specs.Scrub.{OutputRecord, Whole, Chained, Rebuilt, Written, newest_at, moved, newest_after, record_of}
use Rattle.jfr_worklist.specs.Members.{In}
use Rattle.jfr_chunk.proofs.TestLaws.{is_eq}
use Rattle.jfr_laws.proofs.Chains.{LeadsTo, Linked, step_delta}
use Rattle.jfr_laws.proofs.Order.{Numbered, numbered_at, output_record_in, output_records_in, chained_of}
use Rattle.jfr_laws.proofs.Output.{Before, before_more, contains_middle}
use Rattle.jfr_laws.proofs.Lengths.{AtMost, at_most_more, last_from, last_joined}
use Rattle.jfr_laws.proofs.Found.{after_first, output_record_place, same_test, shown, shown_is}
use Rattle.jfr_rewrite.specs.Rewrite.{written_by, bytes_by}
use Rattle.jfr_rewrite.specs.Rewritten.{frame_from}
use Rattle.jfr_rewrite.proofs.CheckpointBack.{new_checkpoint}

-- `bytes` are those of each output record. `after` is where the type and the body of one that isn't a chained checkpoint
-- are, after its start; `width` is that of a chained checkpoint's size, and `pools` are its pools.
module _ (k : Classes) (bytes : OutputRecord → ℕ → Option ℕ → List ℕ) (after : OutputRecord → ℕ × ℕ) (width : ℕ → Link → ℕ → Option ℕ → ℕ) (pools : ℕ → Option ℕ → ℕ → Link → List PoolAt) where
  -- The bytes of all.
  abbrev pub bytes_from : ℕ → Option ℕ → List OutputRecord → List ℕ
  bytes_from at older ss = flat_map (bytes_by bytes) (written_by bytes at older ss)

  -- The checkpoints, oldest first, the records, and the entries.
  abbrev pub checkpoint_at : ℕ → Option ℕ → ℕ → Link → Link
  checkpoint_at at older i l = new_checkpoint at (width i l at older) l (distance at older) (length (bytes (Chained i l) at older))

  abbrev pub frame_at : OutputRecord → ℕ → Option ℕ → Framed
  frame_at (Whole r) at older = frame_from r.type_id (after (Whole r)).0 (after (Whole r)).1 at (length (bytes (Whole r) at older))
  frame_at (Rebuilt r x) at older = frame_from 0 (after (Rebuilt r x)).0 (after (Rebuilt r x)).1 at (length (bytes (Rebuilt r x) at older))
  frame_at (Chained i l) at older = (checkpoint_at at older i l).frame

  abbrev pub frame_of : Written → Framed
  frame_of w = frame_at w.output_record w.at w.newest

  abbrev pub chain_from : ℕ → Option ℕ → List OutputRecord → List Link
  chain_from at older [] = []
  chain_from at older (Whole r ∷ ss) = chain_from (at + length (bytes (Whole r) at older)) older ss
  chain_from at older (Rebuilt r x ∷ ss) = chain_from (at + length (bytes (Rebuilt r x) at older)) older ss
  chain_from at older (Chained i l ∷ ss) = checkpoint_at at older i l ∷ chain_from (at + length (bytes (Chained i l) at older)) (Some at) ss

  abbrev pub entries_at : ℕ → ℕ → Option ℕ → List OutputRecord → List EntryAt
  entries_at j at older [] = []
  entries_at j at older (Whole r ∷ ss) = entries_at j (at + length (bytes (Whole r) at older)) older ss
  entries_at j at older (Rebuilt r x ∷ ss) = entries_at j (at + length (bytes (Rebuilt r x) at older)) older ss
  entries_at j at older (Chained i l ∷ ss) = entries_from j 0 (pools at older i l) ++ entries_at (j + 1) (at + length (bytes (Chained i l) at older)) (Some at) ss

  -- What is written for the first, and the rest after it.
  more_length : (o : OutputRecord) (ss : List OutputRecord) (at : ℕ) (older : Option ℕ)
      → at + length (bytes o at older) + length (bytes_from (at + length (bytes o at older)) (newest_after o at older) ss) ≡ at + length (bytes_from at older (o ∷ ss))
  more_length o ss at older = omega (arith, length-append (bytes o at older) (bytes_from (at + length (bytes o at older)) (newest_after o at older) ss))

  pub last_made : (ss : List OutputRecord) (at : ℕ) (older : Option ℕ) → newest_at older (written_by bytes at older ss) ≡ last_from older (chain_from at older ss)
  last_made [] at None = refl
  last_made [] at (Some o) = refl
  last_made (Whole r ∷ ss) at None = last_made ss (at + length (bytes (Whole r) at None)) None
  last_made (Rebuilt r x ∷ ss) at None = last_made ss (at + length (bytes (Rebuilt r x) at None)) None
  last_made (Whole r ∷ ss) at (Some o) = last_made ss (at + length (bytes (Whole r) at (Some o))) (Some o)
  last_made (Rebuilt r x ∷ ss) at (Some o) = last_made ss (at + length (bytes (Rebuilt r x) at (Some o))) (Some o)
  last_made (Chained i l ∷ ss) at None = let n : ℕ =
      length (bytes (Chained i l) at None) in last_made ss (at + n) (Some at) ∙ last_joined (checkpoint_at at None i l) (chain_from (at + n) (Some at) ss)
  last_made (Chained i l ∷ ss) at (Some o) = let n : ℕ =
      length (bytes (Chained i l) at (Some o)) in last_made ss (at + n) (Some at) ∙ last_joined (checkpoint_at at (Some o) i l) (chain_from (at + n) (Some at) ss)

  pub last_inside : (ss : List OutputRecord) (at : ℕ) (older : Option ℕ) → AtMost older at → newest_at older (written_by bytes at older ss) ≤ at + length (bytes_from at older ss)
  last_inside [] at None o = omega arith
  last_inside [] at (Some z) o = let i : z ≤ at = o in omega arith
  last_inside (Whole r ∷ ss) at None o =
      let n : ℕ = length (bytes (Whole r) at None) in
      let i = last_inside ss (at + n) None tt in
      omega (arith, more_length (Whole r) ss at None)
  last_inside (Whole r ∷ ss) at (Some z) o =
      let n : ℕ = length (bytes (Whole r) at (Some z)) in
      let i = last_inside ss (at + n) (Some z) (at_most_more (Some z) at n o) in
      omega (arith, more_length (Whole r) ss at (Some z))
  last_inside (Rebuilt r x ∷ ss) at None o =
      let n : ℕ = length (bytes (Rebuilt r x) at None) in
      let i = last_inside ss (at + n) None tt in
      omega (arith, more_length (Rebuilt r x) ss at None)
  last_inside (Rebuilt r x ∷ ss) at (Some z) o =
      let n : ℕ = length (bytes (Rebuilt r x) at (Some z)) in
      let i = last_inside ss (at + n) (Some z) (at_most_more (Some z) at n o) in
      omega (arith, more_length (Rebuilt r x) ss at (Some z))
  last_inside (Chained j l ∷ ss) at older o =
      let n : ℕ = length (bytes (Chained j l) at older) in
      let i = last_inside ss (at + n) (Some at) (omega arith) in
      omega (arith, more_length (Chained j l) ss at older)

  pub no_chain : (ss : List OutputRecord) (at : ℕ) (older : Option ℕ) → chain_from at older ss ≡ [] → chained_of ss ≡ []
  no_chain [] at older e = refl
  no_chain (Whole r ∷ ss) at older e = no_chain ss (at + length (bytes (Whole r) at older)) older e
  no_chain (Rebuilt r x ∷ ss) at older e = no_chain ss (at + length (bytes (Rebuilt r x) at older)) older e
  no_chain (Chained i l ∷ ss) at older e = absurd (none (checkpoint_at at older i l) (chain_from (at + length (bytes (Chained i l) at older)) (Some at) ss) e)
    where
      none : (x : Link) (xs : List Link) → x ∷ xs ≡ [] → ⊥
      none x xs e = cc

  module _ (b : List ℕ) where
    -- A checkpoint is read as a record, its head and its pools.
    pub record ChainedRead (i : ℕ) (l : Link) (at : ℕ) (older : Option ℕ) : Type 0 where
      pub is_record : IsRecord b (checkpoint_at at older i l).frame
      pub head : Reads head_format b (record_end (checkpoint_at at older i l).frame) (checkpoint_at at older i l).frame.body (record { at = (checkpoint_at at older i l).delta_at; end = (checkpoint_at at older i l).delta_end; value = (checkpoint_at at older i l).delta }) (checkpoint_at at older i l).delta_end
      pub are_pools : Reads (checkpoint_format k) b (record_end (checkpoint_at at older i l).frame) (checkpoint_at at older i l).frame.body (pools at older i l) (record_end (checkpoint_at at older i l).frame)

    -- An output record is read where its bytes are.
    abbrev pub IsReadAs : OutputRecord → ℕ → Option ℕ → Type 0
    IsReadAs (Whole r) at older = Holds b (length b) at (bytes (Whole r) at older) → IsRecord b (frame_at (Whole r) at older)
    IsReadAs (Rebuilt r x) at older = Holds b (length b) at (bytes (Rebuilt r x) at older) → IsRecord b (frame_at (Rebuilt r x) at older)
    IsReadAs (Chained i l) at older = (l.frame.type_id ≡ 1) × (Holds b (length b) at (bytes (Chained i l) at older) → ChainedRead i l at older)

    abbrev pub IsRead : Written → Type 0
    IsRead w = IsReadAs w.output_record w.at w.newest

    -- So each that is written.
    abbrev pub AllRead : ℕ → Option ℕ → List OutputRecord → Type 0
    AllRead at older ss = AllByRecursion IsRead (written_by bytes at older ss)

    -- The records cover what is written.
    pub tiles_made : (ss : List OutputRecord) (at : ℕ) (older : Option ℕ) → AllRead at older ss → Holds b (length b) at (bytes_from at older ss)
        → Tiles b at (map frame_of (written_by bytes at older ss)) (at + length (bytes_from at older ss))
    tiles_made [] at older s h = omega arith
    tiles_made (Whole r ∷ ss) at older s h =
        let n : ℕ = length (bytes (Whole r) at older) in
        let p = holds_parts b (length b) at (bytes (Whole r) at older) (bytes_from (at + n) older ss) h in
        let i = tiles_made ss (at + n) older s.1 p.1 in
        (refl, s.0 p.0, subst (Tiles b (at + n) (map frame_of (written_by bytes (at + n) older ss))) (more_length (Whole r) ss at older) i)
    tiles_made (Rebuilt r x ∷ ss) at older s h =
        let n : ℕ = length (bytes (Rebuilt r x) at older) in
        let p = holds_parts b (length b) at (bytes (Rebuilt r x) at older) (bytes_from (at + n) older ss) h in
        let i = tiles_made ss (at + n) older s.1 p.1 in
        (refl, s.0 p.0, subst (Tiles b (at + n) (map frame_of (written_by bytes (at + n) older ss))) (more_length (Rebuilt r x) ss at older) i)
    tiles_made (Chained j l ∷ ss) at older s h =
        let n : ℕ = length (bytes (Chained j l) at older) in
        let p = holds_parts b (length b) at (bytes (Chained j l) at older) (bytes_from (at + n) (Some at) ss) h in
        let i = tiles_made ss (at + n) (Some at) s.1 p.1 in
        let m = s.0.1 p.0 in
        (refl, m.is_record, subst (Tiles b (at + n) (map frame_of (written_by bytes (at + n) (Some at) ss))) (more_length (Chained j l) ss at older) i)

    -- The checkpoints are linked.
    pub chain_made : (rs : List Framed) → length b < 2 ^ 63 → (ss : List OutputRecord) (done : List Framed) (at : ℕ) (older : Option ℕ) → AllRead at older ss → Before older at
        → Holds b (length b) at (bytes_from at older ss) → rs ≡ done ++ map frame_of (written_by bytes at older ss) → Linked b rs older (chain_from at older ss)
    chain_made rs small [] done at older s o h e = tt
    chain_made rs small (Whole r ∷ ss) done at older s o h e =
        let n : ℕ = length (bytes (Whole r) at older) in
        let p = holds_parts b (length b) at (bytes (Whole r) at older) (bytes_from (at + n) older ss) h in
        let f : Framed = frame_at (Whole r) at older in
        let rest : List Framed = map frame_of (written_by bytes (at + n) older ss) in
        chain_made rs small ss (done ++ (f ∷ [])) (at + n) older s.1 (before_more older at n o) p.1 (e ∙ sym (append_assoc done (f ∷ []) rest))
    chain_made rs small (Rebuilt r x ∷ ss) done at older s o h e =
        let n : ℕ = length (bytes (Rebuilt r x) at older) in
        let p = holds_parts b (length b) at (bytes (Rebuilt r x) at older) (bytes_from (at + n) older ss) h in
        let f : Framed = frame_at (Rebuilt r x) at older in
        let rest : List Framed = map frame_of (written_by bytes (at + n) older ss) in
        chain_made rs small ss (done ++ (f ∷ [])) (at + n) older s.1 (before_more older at n o) p.1 (e ∙ sym (append_assoc done (f ∷ []) rest))
    chain_made rs small (Chained j l ∷ ss) done at older s o h e =
        let n : ℕ = length (bytes (Chained j l) at older) in
        let p = holds_parts b (length b) at (bytes (Chained j l) at older) (bytes_from (at + n) (Some at) ss) h in
        let m = s.0.1 p.0 in
        let f : Framed = frame_at (Chained j l) at older in
        let rest : List Framed = map frame_of (written_by bytes (at + n) (Some at) ss) in
        let some : at < at + n = some_bytes b f m.is_record in
        let in_b : at + n ≤ length b = p.0.within in
        let i = chain_made rs small ss (done ++ (f ∷ [])) (at + n) (Some at) s.1 some p.1 (e ∙ sym (append_assoc done (f ∷ []) rest)) in
        (record { framed = contains_middle done f rest rs e; checkpoint = s.0.0; head = m.head }, steps older o (omega arith), i)
      where
        steps : (older : Option ℕ) → Before older at → at < 2 ^ 63 → LeadsTo older (checkpoint_at at older j l)
        steps None o i = refl
        steps (Some z) o i = step_delta at z o i

    -- The entries are read.
    pub entries_made : (ss : List OutputRecord) (j at : ℕ) (older : Option ℕ) → AllRead at older ss → Holds b (length b) at (bytes_from at older ss)
        → AreEntries b k j (chain_from at older ss) (entries_at j at older ss)
    entries_made [] j at older s h = refl
    entries_made (Whole r ∷ ss) j at older s h =
        let n : ℕ = length (bytes (Whole r) at older) in
        let p = holds_parts b (length b) at (bytes (Whole r) at older) (bytes_from (at + n) older ss) h in
        entries_made ss j (at + n) older s.1 p.1
    entries_made (Rebuilt r x ∷ ss) j at older s h =
        let n : ℕ = length (bytes (Rebuilt r x) at older) in
        let p = holds_parts b (length b) at (bytes (Rebuilt r x) at older) (bytes_from (at + n) older ss) h in
        entries_made ss j (at + n) older s.1 p.1
    entries_made (Chained i l ∷ ss) j at older s h =
        let n : ℕ = length (bytes (Chained i l) at older) in
        let p = holds_parts b (length b) at (bytes (Chained i l) at older) (bytes_from (at + n) (Some at) ss) h in
        let m = s.0.1 p.0 in
        (pools at older i l, m.are_pools, entries_at (j + 1) (at + n) (Some at) ss, refl, entries_made ss (j + 1) (at + n) (Some at) s.1 p.1)

    -- The record is at an offset in the output, to which its old offset leads.
    pub record Found (f : Framed) (w : Option (List ℕ)) (at : ℕ) (ws : List Written) : Type 0 where
      pub offset : ℕ
      pub newest : Option ℕ
      pub from : at ≤ offset
      pub held : Holds b (length b) offset (bytes (shown w f) offset newest)
      pub leads : moved ws f.at ≡ offset
      pub listed : In (map frame_of ws) (frame_at (shown w f) offset newest)

    module _ (c : List ℕ) (all : List Numbered) (whole : Framed → Bool) (new : Framed → Option (List ℕ)) (f : Framed) (f_is : IsRecord c f) (no_link : numbered_at all f.at ≡ None) (chosen : whole f ≡ true) where
      abbrev RecordsAfter : List Framed → List OutputRecord
      RecordsAfter rs = output_records_in all whole new rs

      leads_here : (w : Option (List ℕ)) (rest : List Written) (at : ℕ) (older : Option ℕ) → moved (record { output_record = shown w f; at = at; newest = older } ∷ rest) f.at ≡ at
      leads_here None rest at older = rw (is_eq f.at f.at refl) refl
      leads_here (Some x) rest at older = rw (is_eq f.at f.at refl) refl

      found_here : (w : Option (List ℕ)) (rest : List OutputRecord) (at : ℕ) (older : Option ℕ) → Holds b (length b) at (bytes_from at older (shown w f ∷ rest))
          → Found f w at (written_by bytes at older (shown w f ∷ rest))
      found_here w rest at older h =
          let n : ℕ = length (bytes (shown w f) at older) in
          let p = holds_parts b (length b) at (bytes (shown w f) at older) (bytes_from (at + n) (newest_after (shown w f) at older) rest) h in
          record { offset = at; newest = older; from = omega arith; held = p.0; leads = leads_here w (written_by bytes (at + n) (newest_after (shown w f) at older) rest) at older; listed = inl refl }

      found_later : (w : Option (List ℕ)) (x : OutputRecord) (ws : List Written) (at n : ℕ) (older : Option ℕ) → ((record_of x).at == f.at) ≡ false → Found f w (at + n) ws
          → Found f w at (record { output_record = x; at = at; newest = older } ∷ ws)
      found_later w x ws at n older t i =
          let z : at + n ≤ i.offset = i.from in
          record { offset = i.offset; newest = i.newest; from = omega arith; held = i.held; leads = rw t i.leads; listed = inr i.listed }

      pub found_made : (rs : List Framed) (at : ℕ) (older : Option ℕ) → AllByRecursion (IsRecord c) rs → In rs f → Holds b (length b) at (bytes_from at older (RecordsAfter rs))
          → Found f (new f) at (written_by bytes at older (RecordsAfter rs))
      found_made [] at older a i h = absurd i
      found_made (r ∷ rs) at older a i h = by_place (r.at == f.at) refl i (λ at older i h. found_made rs at older a.1 i h) (output_record_in all whole new r) refl h
        where
          Later : Type 0
          Later = (at : ℕ) (older : Option ℕ) → In rs f → Holds b (length b) at (bytes_from at older (RecordsAfter rs)) → Found f (new f) at (written_by bytes at older (RecordsAfter rs))

          by_place : (t : Bool) → (r.at == f.at) ≡ t → In (r ∷ rs) f → Later → (o : Option OutputRecord) → output_record_in all whole new r ≡ o
              → Holds b (length b) at (bytes_from at older (cons_option o (RecordsAfter rs))) → Found f (new f) at (written_by bytes at older (cons_option o (RecordsAfter rs)))
          by_place true t i later o q h =
              let p : r.at ≡ f.at = grind (arith, nat_tests) in
              let rf : r ≡ f = record_one c r f a.0 f_is p in
              let w : output_record_in all whole new f ≡ Some (shown (new f) f) = shown_is f (numbered_at all f.at) (whole f) (new f) no_link chosen in
              let e : o ≡ Some (shown (new f) f) = sym q ∙ (ap (output_record_in all whole new) rf ∙ w) in
              subst (λ z. Found f (new f) at (written_by bytes at older (cons_option z (RecordsAfter rs)))) (sym e)
              (found_here (new f) (RecordsAfter rs) at older (subst (λ z. Holds b (length b) at (bytes_from at older (cons_option z (RecordsAfter rs)))) e h))
          by_place false t i later None q h = later at older (after_first r f rs t i) h
          by_place false t i later (Some (Whole x)) q h =
              let n : ℕ = length (bytes (Whole x) at older) in
              let p = holds_parts b (length b) at (bytes (Whole x) at older) (bytes_from (at + n) older (RecordsAfter rs)) h in
              found_later (new f) (Whole x) (written_by bytes (at + n) older (RecordsAfter rs)) at n older (same_test r.at f.at x.at t (output_record_place all whole new r (Whole x) q))
              (later (at + n) older (after_first r f rs t i) p.1)
          by_place false t i later (Some (Rebuilt x y)) q h =
              let n : ℕ = length (bytes (Rebuilt x y) at older) in
              let p = holds_parts b (length b) at (bytes (Rebuilt x y) at older) (bytes_from (at + n) older (RecordsAfter rs)) h in
              found_later (new f) (Rebuilt x y) (written_by bytes (at + n) older (RecordsAfter rs)) at n older (same_test r.at f.at x.at t (output_record_place all whole new r (Rebuilt x y) q))
              (later (at + n) older (after_first r f rs t i) p.1)
          by_place false t i later (Some (Chained j l)) q h =
              let n : ℕ = length (bytes (Chained j l) at older) in
              let p = holds_parts b (length b) at (bytes (Chained j l) at older) (bytes_from (at + n) (Some at) (RecordsAfter rs)) h in
              found_later (new f) (Chained j l) (written_by bytes (at + n) (Some at) (RecordsAfter rs)) at n older
              (same_test r.at f.at l.frame.at t (output_record_place all whole new r (Chained j l) q)) (later (at + n) (Some at) (after_first r f rs t i) p.1)
