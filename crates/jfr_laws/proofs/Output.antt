-- What is written from left to right has its records, its chain and its entries.
use Rattle.std.specs.Prelude.{◌≡◌, ℕ, ◌+◌, ◌^◌, ◌<◌, ◌≤◌, ◌==◌, List, [], ◌∷◌, ◌++◌, length, map, filter, Option, Some, None, is_some, Contains, ⊤}
use Rattle.std.specs.List.{flat_map, AllByRecursion, enumerate_from}
use Rattle.std.proofs.Common.{ap, arith, refl, sym, ◌∙◌, subst, inl, append_assoc}
use Rattle.jfr_base.proofs.HoldLaws.{Holds, holds_parts}
use Rattle.jfr_base.proofs.AlikeLaws.{Each}
use Rattle.jfr_layout.specs.Classes.{Classes}
use Rattle.jfr_frame.specs.declared.framed.Framed.{Framed}
use Rattle.jfr_frame.specs.Records.{Tiles, record_bytes, record_end}
use Rattle.jfr_frame.proofs.RecordLaws.{some_bytes}
use Rattle.jfr_pool.specs.declared.link.Link.{Link}
use Rattle.jfr_pool.specs.declared.entry.EntryAt.{EntryAt}
use Rattle.jfr_pool.specs.Entries.{AreEntries, entries_from}
use Rattle.jfr_chunk.specs.Written.{Group}
use Rattle.jfr_laws.proofs.Anew.{anew_stands}
use Rattle.jfr_chunk.specs.Scrub.{OutputRecord, Whole, Chained, Rebuilt, written, groups_of}
use Rattle.jfr_worklist.proofs.Members.{in_contains, in_right}
use Rattle.jfr_laws.proofs.ReadBack.{moved_frame}
use Rattle.jfr_laws.proofs.Groups.{groups_hold}
use Rattle.jfr_laws.proofs.Checkpoints.{have_number}
use Rattle.jfr_laws.proofs.Chains.{LeadsTo, Linked, step_delta}
use Rattle.jfr_laws.proofs.Entries.{IsCopy, each_append, groups_same}
use Rattle.jfr_laws.proofs.Order.{Numbered, chained_of}
use Rattle.jfr_laws.proofs.Copied.{copied_to, record_copied}
use Rattle.jfr_laws.proofs.OutputRecords.{Deltas, own_frame, rebuilt_length, chained_bytes, bytes_from, new_frame, new_link, new_links, new_place, new_pools, new_entries, IsOutputRecordIn, chained_stands, whole_length, chained_length}

-- The older checkpoint starts before an offset.
abbrev pub Before : Option ℕ → ℕ → Type 0
Before None at = ⊤
Before (Some older) at = older < at

pub before_more : (older : Option ℕ) (at n : ℕ) → Before older at → Before older (at + n)
before_more None at n o = tt
before_more (Some z) at n o = omega arith

pub contains_middle : (done : List Framed) (f : Framed) (rest all : List Framed) → all ≡ done ++ (f ∷ rest) → Contains all f
contains_middle done f rest all e = subst (λ z. Contains z f) (sym e) (in_contains (done ++ (f ∷ rest)) f (in_right done (f ∷ rest) f (inl refl)))

first_equal : (i j : ℕ) (l m : Link) (xs ys : List Numbered) → (i, l) ∷ xs ≡ (j, m) ∷ ys → (i ≡ j) × (xs ≡ ys)
first_equal i j l m xs ys e = (ap (λ (z : Numbered). z.0) (heads (i, l) (j, m) xs ys e), cc)
  where
    heads : (x y : Numbered) (xs ys : List Numbered) → x ∷ xs ≡ y ∷ ys → x ≡ y
    heads x y xs ys e = cc

-- The entries of numbered checkpoints, one checkpoint after another.
abbrev pub entries_by_number : List EntryAt → List Numbered → List EntryAt
entries_by_number remaining ts = flat_map (λ (m : Numbered). filter (λ e. e.checkpoint == m.0) remaining) ts

module _ (c : List ℕ) (remaining : List EntryAt) (k : Classes) (b : List ℕ) where
  -- Its records cover it.
  pub tiles_back : (ss : List OutputRecord) (at : ℕ) (older : Option ℕ) → AllByRecursion (IsOutputRecordIn c remaining k) ss → Deltas (is_some older) ss
      → Holds b (length b) at (bytes_from c remaining at older ss)
      → Tiles b at (map (new_frame c remaining) (written c remaining at older ss)) (at + length (bytes_from c remaining at older ss))
  tiles_back [] at older s d h = omega arith
  tiles_back (Whole r ∷ ss) at older s d h =
      let n : ℕ = length (record_bytes c r) in
      let p = holds_parts b (length b) at (record_bytes c r) (bytes_from c remaining (at + n) older ss) h in
      let i = tiles_back ss (at + n) older s.1 d p.1 in
      (refl, record_copied c b r at s.0 p.0, subst (Tiles b (at + n) (map (new_frame c remaining) (written c remaining (at + n) older ss))) (whole_length c remaining r ss at older) i)
  tiles_back (Rebuilt r x ∷ ss) at older s d h =
      let n : ℕ = length x in
      let p = holds_parts b (length b) at x (bytes_from c remaining (at + n) older ss) h in
      let i = tiles_back ss (at + n) older s.1 d p.1 in
      (refl, anew_stands x b at s.0.1 p.0, subst (Tiles b (at + n) (map (new_frame c remaining) (written c remaining (at + n) older ss))) (rebuilt_length c remaining r x ss at older) i)
  tiles_back (Chained j l ∷ ss) at older s d h =
      let n : ℕ = length (chained_bytes c remaining at older j l) in
      let p = holds_parts b (length b) at (chained_bytes c remaining at older j l) (bytes_from c remaining (at + n) (Some at) ss) h in
      let i = tiles_back ss (at + n) (Some at) s.1 d.1 p.1 in
      let m = chained_stands c remaining k b j l at older s.0 d.0 p.0 in
      (refl, m.record_stands, subst (Tiles b (at + n) (map (new_frame c remaining) (written c remaining (at + n) (Some at) ss))) (chained_length c remaining j l ss at older) i)

  -- Its checkpoints are linked.
  pub linked_back : (rs : List Framed) → length b < 2 ^ 63 → (ss : List OutputRecord) (done : List Framed) (at : ℕ) (older : Option ℕ) → AllByRecursion (IsOutputRecordIn c remaining k) ss
      → Deltas (is_some older) ss → Before older at
      → Holds b (length b) at (bytes_from c remaining at older ss) → rs ≡ done ++ map (new_frame c remaining) (written c remaining at older ss) → Linked b rs older (new_links c remaining at older ss)
  linked_back rs small [] done at older s d o h e = tt
  linked_back rs small (Whole r ∷ ss) done at older s d o h e =
      let n : ℕ = length (record_bytes c r) in
      let p = holds_parts b (length b) at (record_bytes c r) (bytes_from c remaining (at + n) older ss) h in
      let f : Framed = copied_to c at r in
      let rest : List Framed = map (new_frame c remaining) (written c remaining (at + n) older ss) in
      linked_back rs small ss (done ++ (f ∷ [])) (at + n) older s.1 d (before_more older at n o) p.1 (e ∙ sym (append_assoc done (f ∷ []) rest))
  linked_back rs small (Rebuilt r x ∷ ss) done at older s d o h e =
      let n : ℕ = length x in
      let p = holds_parts b (length b) at x (bytes_from c remaining (at + n) older ss) h in
      let f : Framed = moved_frame at (own_frame x) n in
      let rest : List Framed = map (new_frame c remaining) (written c remaining (at + n) older ss) in
      linked_back rs small ss (done ++ (f ∷ [])) (at + n) older s.1 d (before_more older at n o) p.1 (e ∙ sym (append_assoc done (f ∷ []) rest))
  linked_back rs small (Chained j l ∷ ss) done at older s d o h e =
      let n : ℕ = length (chained_bytes c remaining at older j l) in
      let p = holds_parts b (length b) at (chained_bytes c remaining at older j l) (bytes_from c remaining (at + n) (Some at) ss) h in
      let m = chained_stands c remaining k b j l at older s.0 d.0 p.0 in
      let f : Framed = moved_frame at l.frame n in
      let rest : List Framed = map (new_frame c remaining) (written c remaining (at + n) (Some at) ss) in
      let some : at < at + n = some_bytes b f m.record_stands in
      let in_b : at + n ≤ length b = p.0.within in
      let i = linked_back rs small ss (done ++ (f ∷ [])) (at + n) (Some at) s.1 d.1 some p.1 (e ∙ sym (append_assoc done (f ∷ []) rest)) in
      (record { framed = contains_middle done f rest rs e; checkpoint = s.0.0.is_checkpoint; head = m.head }, steps older o (omega arith), i)
    where
      steps : (older : Option ℕ) → Before older at → at < 2 ^ 63 → LeadsTo older (new_link c remaining at older j l)
      steps None o i = refl
      steps (Some z) o i = step_delta at z o i

  -- Its entries are read.
  pub entries_back : (ss : List OutputRecord) (j at : ℕ) (older : Option ℕ) → AllByRecursion (IsOutputRecordIn c remaining k) ss → Deltas (is_some older) ss
      → Holds b (length b) at (bytes_from c remaining at older ss)
      → AreEntries b k j (new_links c remaining at older ss) (new_entries c remaining k j at older ss)
  entries_back [] j at older s d h = refl
  entries_back (Whole r ∷ ss) j at older s d h =
      let n : ℕ = length (record_bytes c r) in
      let p = holds_parts b (length b) at (record_bytes c r) (bytes_from c remaining (at + n) older ss) h in
      entries_back ss j (at + n) older s.1 d p.1
  entries_back (Rebuilt r x ∷ ss) j at older s d h =
      let n : ℕ = length x in
      let p = holds_parts b (length b) at x (bytes_from c remaining (at + n) older ss) h in
      entries_back ss j (at + n) older s.1 d p.1
  entries_back (Chained i l ∷ ss) j at older s d h =
      let n : ℕ = length (chained_bytes c remaining at older i l) in
      let p = holds_parts b (length b) at (chained_bytes c remaining at older i l) (bytes_from c remaining (at + n) (Some at) ss) h in
      let m = chained_stands c remaining k b i l at older s.0 d.0 p.0 in
      (new_pools c remaining k at older i l, m.pools_stand, new_entries c remaining k (j + 1) (at + n) (Some at) ss, refl, entries_back ss (j + 1) (at + n) (Some at) s.1 d.1 p.1)

  -- They are those that are left, checkpoint by checkpoint.
  pub entries_same_back : (ss : List OutputRecord) (ls : List Link) (j at : ℕ) (older : Option ℕ) → AllByRecursion (IsOutputRecordIn c remaining k) ss → Deltas (is_some older) ss
      → Holds b (length b) at (bytes_from c remaining at older ss)
      → chained_of ss ≡ enumerate_from j ls → Each (IsCopy c b) (entries_by_number remaining (chained_of ss)) (new_entries c remaining k j at older ss)
  entries_same_back [] ls j at older s d h o = tt
  entries_same_back (Whole r ∷ ss) ls j at older s d h o =
      let n : ℕ = length (record_bytes c r) in
      let p = holds_parts b (length b) at (record_bytes c r) (bytes_from c remaining (at + n) older ss) h in
      entries_same_back ss ls j (at + n) older s.1 d p.1 o
  entries_same_back (Rebuilt r x ∷ ss) ls j at older s d h o =
      let n : ℕ = length x in
      let p = holds_parts b (length b) at x (bytes_from c remaining (at + n) older ss) h in
      entries_same_back ss ls j (at + n) older s.1 d p.1 o
  entries_same_back (Chained i l ∷ ss) [] j at older s d h o = absurd (none_left i l (chained_of ss) o)
    where
      none_left : (i : ℕ) (l : Link) (xs : List Numbered) → (i, l) ∷ xs ≡ [] → ⊥
      none_left i l xs e = cc
  entries_same_back (Chained i l ∷ ss) (m ∷ ls) j at older s d h o =
      let n : ℕ = length (chained_bytes c remaining at older i l) in
      let p = holds_parts b (length b) at (chained_bytes c remaining at older i l) (bytes_from c remaining (at + n) (Some at) ss) h in
      let st = chained_stands c remaining k b i l at older s.0 d.0 p.0 in
      let q = first_equal i j l m (chained_of ss) (enumerate_from (j + 1) ls) o in
      let gs : List Group = groups_of remaining i in
      let these : List EntryAt = filter (λ e. e.checkpoint == i) remaining in
      let nums : AllByRecursion (λ e. e.checkpoint ≡ j) (flat_map (λ g. g.entries) gs) =
      subst (AllByRecursion (λ e. e.checkpoint ≡ j)) (sym (groups_hold these)) (subst (λ z. AllByRecursion (λ e. e.checkpoint ≡ z) these) q.0 (have_number i remaining)) in
      let g = groups_same c k b (record_end (new_link c remaining at older i l).frame) j gs 0 (new_place c remaining at older i l) s.0.1 nums st.held in
      each_append (IsCopy c b) these (entries_from j 0 (new_pools c remaining k at older i l)) (entries_by_number remaining (chained_of ss)) (new_entries c remaining k (j + 1) (at + n) (Some at) ss)
      (subst (λ z. Each (IsCopy c b) z (entries_from j 0 (new_pools c remaining k at older i l))) (groups_hold these) g) (entries_same_back ss ls (j + 1) (at + n) (Some at) s.1 d.1 p.1 q.1)
