-- The lines of a receipt: each is valid, and each reached entry has one.
use Rattle.std.specs.Prelude.{◌≡◌, ◌⊎◌, ℕ, zero, suc, ◌+◌, ◌<◌, Bool, true, false, List, [], ◌∷◌, ◌++◌, length, map, slice_get, slice_set, Some, Contains}
use Rattle.std.specs.Option.{option_map_or}
use Rattle.std.proofs.Common.{ap, arith, refl, sym, ◌∙◌, subst, inl, inr}
use Rattle.std.proofs.lemmas.List.{append-nil, append_assoc, length-append, length-replicate, length-set}
use Rattle.jfr_base.specs.Formats.{Exactly}
use Rattle.jfr_value.specs.Nodes.{NodeAt, targets}
use Rattle.jfr_pool.specs.declared.entry.EntryAt.{EntryAt}
use Rattle.jfr_pool.specs.Entries.{number_in_force, entry_node}
use Rattle.jfr_pool.specs.Laws.{IsLast}
use Rattle.jfr_pool.proofs.OneLaws.{last_is}
use Rattle.jfr_chunk.specs.Parts.{Parts, EventAt, events_of}
use Rattle.jfr_worklist.specs.Marks.{is_marked, IsMarked, marked_at, those}
use Rattle.jfr_chunk.specs.Reach.{all_targets, nodes_of, roots, node_entries, next_entries}
use Rattle.jfr_pool.proofs.ForceLaws.{force_within}
use Rattle.jfr_worklist.specs.Members.{In}
use Rattle.jfr_worklist.proofs.Members.{contains_in, in_contains, in_left, in_right, in_those, those_append}
use Rattle.jfr_worklist.proofs.MarkLaws.{all_size, set_here, set_stays, set_only, all_stay, all_here, all_append, set_old, none_marked}
use Rattle.jfr_worklist.proofs.SweepLaws.{Reach, root, more}
use Rattle.jfr_verify.specs.declared.line.Parent.{Parent}
use Rattle.jfr_verify.specs.declared.line.Line.{Line}
use Rattle.jfr_verify.specs.declared.line.Parent.TheVariants.{OfEvent, OfEntry}
use Rattle.jfr_worklist.specs.Worklists.{marked_count}
use Rattle.jfr_verify.specs.Receipts.{IsParent, line_if, IsValidLine, AreValidLines, IsReceiptOf, receipt_format, new_lines, event_lines, lines_from, no_marks, lines_of, receipt_of}
use Rattle.jfr_worklist.proofs.Counts.{count_set, count_le, count_none, count_all}
use Rattle.jfr_verify.proofs.ParentLaws.{after, in_after}

-- The entries of lines.
abbrev pub entries : List Line → List ℕ
entries ls = map (λ l. l.entry) ls

after_append : (before : List ℕ) (xs ys : List Line) → after before (xs ++ ys) ≡ after (after before xs) ys
after_append before [] ys = refl
after_append before (l ∷ xs) ys = after_append (l.entry ∷ before) xs ys

entries_append : (xs ys : List Line) → entries (xs ++ ys) ≡ entries xs ++ entries ys
entries_append [] ys = refl
entries_append (l ∷ xs) ys = ap (λ z. l.entry ∷ z) (entries_append xs ys)

module _ (p : Parts) where
  valid_append : (before : List ℕ) (xs ys : List Line) → AreValidLines p before xs → AreValidLines p (after before xs) ys → AreValidLines p before (xs ++ ys)
  valid_append before [] ys h k = k
  valid_append before (l ∷ xs) ys h k = (h.0, valid_append (l.entry ∷ before) xs ys h.1 k)

  -- This is the node of the parent, also if more entries have lines.
  abbrev IsParented : List ℕ → Parent → NodeAt → Type 0
  IsParented before parent n = (more : List ℕ) → ((i : ℕ) → In before i → In more i) → IsParent p more parent n

  -- New lines are valid.
  new_valid : (before : List ℕ) (marks : List Bool) (parent : Parent) (n : NodeAt) (is : List ℕ) → IsParented before parent n → ((i : ℕ) → In is i → In (node_entries p.entries p.classes p.bytes n) i)
      → ((i : ℕ) → In is i → i < length marks) → ((i : ℕ) → In before i → IsMarked marks i) → AreValidLines p before (new_lines marks parent is)
  new_valid before marks parent n [] r f u b = tt
  new_valid before marks parent n (i ∷ is) r f u b = by_mark (is_marked marks i) refl
      (new_valid before (slice_set marks i true) parent n is r (λ j k. f j (inr k)) below (λ j k. set_stays marks i j (b j k)))
      (new_valid (i ∷ before) (slice_set marks i true) parent n is (λ more g. r more (λ j k. g j (inr k))) (λ j k. f j (inr k)) below (λ j k. by_new j k))
    where
      Rest : List ℕ → Type 0
      Rest b = AreValidLines p b (new_lines (slice_set marks i true) parent is)

      below : (j : ℕ) → In is j → j < length (slice_set marks i true)
      below j k = let l : length (slice_set marks i true) ≡ length marks = length-set marks i true in let h : j < length marks = u j (inr k) in omega arith

      by_new : (j : ℕ) → In (i ∷ before) j → IsMarked (slice_set marks i true) j
      by_new j (inl e) = subst (IsMarked (slice_set marks i true)) e (set_here marks i (u i (inl refl)))
      by_new j (inr k) = set_stays marks i j (b j k)

      clash : (t : Bool) → t ≡ true → t ≡ false → ⊥
      clash t p q = cc

      line : is_marked marks i ≡ false → IsValidLine p before (record { entry = i; parent = parent })
      line e =
          let t = in_those (number_in_force p.entries) (targets p.classes p.bytes n) i (f i (inl refl)) in
          let l : IsLast p.entries t.0 i = (last_is p.entries t.0 i).0 t.2 in
          record {
            fresh = λ k. clash (is_marked marks i) (b i (contains_in before i k)) e;
            entry = l.entry;
            there = l.holds;
            node = n;
            parent = r before (λ j k. k);
            refers = subst
                (Contains (targets p.classes p.bytes n)) (sym l.has) (in_contains (targets p.classes p.bytes n) t.0 t.1);
          }

      by_mark : (b : Bool) → is_marked marks i ≡ b → Rest before → Rest (i ∷ before) → AreValidLines p before (new_lines marks parent (i ∷ is))
      by_mark true e x y = rw e x
      by_mark false e x y = rw e (line e, y)

  -- What has a line is marked.
  new_after : (before : List ℕ) (marks : List Bool) (parent : Parent) (is : List ℕ) → ((i : ℕ) → In is i → i < length marks) → ((i : ℕ) → In before i → IsMarked marks i) → (i : ℕ)
      → In (after before (new_lines marks parent is)) i → IsMarked (marked_at marks is) i
  new_after before marks parent [] u b i k = b i k
  new_after before marks parent (j ∷ is) u b i k = by_mark (is_marked marks j) refl k
      (new_after before (slice_set marks j true) parent is below (λ i k. set_stays marks j i (b i k)) i)
      (new_after (j ∷ before) (slice_set marks j true) parent is below by_new i)
    where
      below : (i : ℕ) → In is i → i < length (slice_set marks j true)
      below i k = let l : length (slice_set marks j true) ≡ length marks = length-set marks j true in let h : i < length marks = u i (inr k) in omega arith

      by_new : (i : ℕ) → In (j ∷ before) i → IsMarked (slice_set marks j true) i
      by_new i (inl e) = subst (IsMarked (slice_set marks j true)) e (set_here marks j (u j (inl refl)))
      by_new i (inr k) = set_stays marks j i (b i k)

      Then : List ℕ → Type 0
      Then b = In (after b (new_lines (slice_set marks j true) parent is)) i → IsMarked (marked_at (slice_set marks j true) is) i

      by_mark : (t : Bool) → is_marked marks j ≡ t → In (after before (new_lines marks parent (j ∷ is))) i → Then before → Then (j ∷ before) → IsMarked (marked_at (slice_set marks j true) is) i
      by_mark true e k x y = x (subst (λ t. In (after before (line_if t (record { entry = j; parent = parent }) (new_lines (slice_set marks j true) parent is))) i) e k)
      by_mark false e k x y = y (subst (λ t. In (after before (line_if t (record { entry = j; parent = parent }) (new_lines (slice_set marks j true) parent is))) i) e k)

  -- They are the lines of the newly marked entries, and their number is the number of new marks.
  new_marked : (marks : List Bool) (parent : Parent) (is : List ℕ) (i : ℕ) → IsMarked (marked_at marks is) i → IsMarked marks i ⊎ In (entries (new_lines marks parent is)) i
  new_marked marks parent [] i m = inl m
  new_marked marks parent (j ∷ is) i m = by_mark (is_marked marks j) refl (new_marked (slice_set marks j true) parent is i m)
    where
      by_set : IsMarked marks i ⊎ (j ≡ i) → is_marked marks j ≡ true → IsMarked marks i
      by_set (inl k) e = k
      by_set (inr k) e = subst (IsMarked marks) k e

      by_new : IsMarked marks i ⊎ (j ≡ i) → IsMarked marks i ⊎ In (j ∷ entries (new_lines (slice_set marks j true) parent is)) i
      by_new (inl k) = inl k
      by_new (inr k) = inr (inl k)

      by_mark : (b : Bool) → is_marked marks j ≡ b → IsMarked (slice_set marks j true) i ⊎ In (entries (new_lines (slice_set marks j true) parent is)) i
          → IsMarked marks i ⊎ In (entries (new_lines marks parent (j ∷ is))) i
      by_mark true e (inl k) = inl (by_set (set_only marks j i k) e)
      by_mark true e (inr k) = rw e (inr k)
      by_mark false e (inl k) = rw e (by_new (set_only marks j i k))
      by_mark false e (inr k) = rw e (inr (inr k))

  new_count : (marks : List Bool) (parent : Parent) (is : List ℕ) → ((i : ℕ) → In is i → i < length marks) → marked_count (marked_at marks is) ≡ marked_count marks + length (new_lines marks parent is)
  new_count marks parent [] f = omega arith
  new_count marks parent (j ∷ is) f = by_mark (is_marked marks j) refl
      (new_count (slice_set marks j true) parent is
      (λ i k. (let l : length (slice_set marks j true) ≡ length marks = length-set marks j true in let h : i < length marks = f i (inr k) in omega arith)))
    where
      rest : ℕ
      rest = length (new_lines (slice_set marks j true) parent is)

      by_mark : (b : Bool) → is_marked marks j ≡ b → marked_count (marked_at (slice_set marks j true) is) ≡ marked_count (slice_set marks j true) + rest
          → marked_count (marked_at (slice_set marks j true) is) ≡ marked_count marks + length (new_lines marks parent (j ∷ is))
      by_mark true e k = rw e (k ∙ ap (λ z. marked_count z + rest) (set_old marks j e))
      by_mark false e k = let c : marked_count (slice_set marks j true) ≡ marked_count marks + 1 = count_set marks j (f j (inl refl)) e in rw e (omega (arith, k, c))

  -- What holds while lines are made, after lines for some entries: the marks, and the lines whose entries are still to be looked at.
  record Making (before : List ℕ) (marks : List Bool) (ls : List Line) : Type 0 where
    size : length marks ≡ length p.entries
    counted : marked_count marks ≡ length before + length ls
    listed : (i : ℕ) → IsMarked marks i → In before i ⊎ In (entries ls) i
    all_marked : (i : ℕ) → In (after before ls) i → IsMarked marks i
    valid : AreValidLines p before ls

  -- More lines.
  making_more : (before : List ℕ) (marks : List Bool) (ls : List Line) (parent : Parent) (n : NodeAt) → IsParented (after before ls) parent n → Making before marks ls
      → Making before (marked_at marks (node_entries p.entries p.classes p.bytes n)) (ls ++ new_lines marks parent (node_entries p.entries p.classes p.bytes n))
  making_more before marks ls parent n r m =
      let is : List ℕ = node_entries p.entries p.classes p.bytes n in
      let new : List Line = new_lines marks parent is in
      let b : (i : ℕ) → In is i → i < length marks =
      λ i k. (let t = in_those (number_in_force p.entries) (targets p.classes p.bytes n) i k in let w = force_within p.entries t.0 i t.2 in omega (arith, m.size)) in
      let c = new_count marks parent is b in
      record {
        size = all_size marks is ∙ m.size;
        counted = (let l = length-append ls new in let d = m.counted in omega arith);
        listed = λ i k. by_case i (new_marked marks parent is i k);
        all_marked = λ i k. new_after (after before ls) marks parent is b m.all_marked i (subst (λ z. In z i) (after_append before ls new) k);
        valid = valid_append before ls new m.valid (new_valid (after before ls) marks parent n is r (λ i k. k) b m.all_marked);
      }
    where
      by_case : (i : ℕ) → IsMarked marks i ⊎ In (entries (new_lines marks parent (node_entries p.entries p.classes p.bytes n))) i
          → In before i ⊎ In (entries (ls ++ new_lines marks parent (node_entries p.entries p.classes p.bytes n))) i
      by_case i (inl k) = by_old (m.listed i k)
        where
          by_old : In before i ⊎ In (entries ls) i → In before i ⊎ In (entries (ls ++ new_lines marks parent (node_entries p.entries p.classes p.bytes n))) i
          by_old (inl j) = inl j
          by_old (inr j) = inr (subst (λ z. In z i) (sym (entries_append ls (new_lines marks parent (node_entries p.entries p.classes p.bytes n))))
              (in_left (entries ls) (entries (new_lines marks parent (node_entries p.entries p.classes p.bytes n))) i j))
      by_case i (inr k) = inr (subst (λ z. In z i) (sym (entries_append ls (new_lines marks parent (node_entries p.entries p.classes p.bytes n))))
          (in_right (entries ls) (entries (new_lines marks parent (node_entries p.entries p.classes p.bytes n))) i k))

  -- The lines for events.
  making_events : (marks : List Bool) (ls : List Line) (number : ℕ) (es : List EventAt) → ((i : ℕ) (e : EventAt) → slice_get es i ≡ Some e → slice_get (events_of p) (number + i) ≡ Some e)
      → Making [] marks ls
      → Making [] (marked_at marks (roots p es)) (ls ++ event_lines p marks number es)
  making_events marks ls number [] f m = subst (Making [] marks) (sym (append-nil ls)) m
  making_events marks ls number (e ∷ es) f m =
      let is : List ℕ = node_entries p.entries p.classes p.bytes e.node in
      let new : List Line = new_lines marks (OfEvent number) is in
      let k = making_more [] marks ls (OfEvent number) e.node (λ more g. (e, (let q : number + 0 ≡ number = omega arith in ap (slice_get (events_of p)) (sym q) ∙ f 0 e refl), refl)) m in
      let j = making_events (marked_at marks is) (ls ++ new) (suc number) es (λ i x q. (let w : number + suc i ≡ suc number + i = omega arith in ap (slice_get (events_of p)) (sym w) ∙ f (suc i) x q))
      k in
      let r : roots p (e ∷ es) ≡ is ++ roots p es = those_append (number_in_force p.entries) (targets p.classes p.bytes e.node) (all_targets p (nodes_of es)) in
      let s : marked_at marks (roots p (e ∷ es)) ≡ marked_at (marked_at marks is) (roots p es) = ap (marked_at marks) r ∙ all_append marks is (roots p es) in
      subst (λ z. Making [] z (ls ++ event_lines p marks number (e ∷ es))) (sym s)
      (subst (Making [] (marked_at (marked_at marks is) (roots p es))) (append_assoc ls new (event_lines p (marked_at marks is) (suc number) es)) j)

  -- The entry of the first line is looked at.
  making_next : (before : List ℕ) (marks : List Bool) (l : Line) (ls : List Line) → Making before marks (l ∷ ls) → Making (l.entry ∷ before) marks ls
  making_next before marks l ls m = record {
    size = m.size;
    counted = omega (arith, m.counted);
    listed = λ i k. by_case i (m.listed i k);
    all_marked = m.all_marked;
    valid = m.valid.1;
  }
    where
      by_case : (i : ℕ) → In before i ⊎ In (l.entry ∷ entries ls) i → In (l.entry ∷ before) i ⊎ In (entries ls) i
      by_case i (inl k) = inl (inr k)
      by_case i (inr (inl e)) = inl (inl e)
      by_case i (inr (inr k)) = inr k

  -- What is marked also has what the earlier entries and the events refer to.
  record Going (before : List ℕ) (marks : List Bool) (ls : List Line) : Type 0 where
    making : Making before marks ls
    rooted : (i : ℕ) → In (roots p (events_of p)) i → IsMarked marks i
    closed : (j : ℕ) → In before j → (i : ℕ) → In (next_entries p j) i → IsMarked marks i

  targets_below : (ts : List (ℕ × ℕ)) (i : ℕ) → In (those (number_in_force p.entries) ts) i → i < length p.entries
  targets_below ts i k = let t = in_those (number_in_force p.entries) ts i k in force_within p.entries t.0 i t.2

  started : Going [] (marked_at (no_marks p) (roots p (events_of p))) (event_lines p (no_marks p) 0 (events_of p))
  started =
      let n : ℕ = length p.entries in
      let size : length (no_marks p) ≡ n = length-replicate n false in
      record {
        making = making_events (no_marks p) [] 0 (events_of p) (λ i e q. (let z : 0 + i ≡ i = omega arith in ap (slice_get (events_of p)) z ∙ q))
            (record { size = size; counted = count_none n; listed = λ i k. absurd (none_marked n i k); all_marked = λ i k. absurd k; valid = tt });
        rooted = λ i k. all_here (no_marks p) (roots p (events_of p)) i (let b = targets_below (all_targets p (nodes_of (events_of p))) i k in omega arith) k;
        closed = λ j k. absurd k;
      }

  -- The entry of one more line was looked at: its targets are those of its node.
  going_next : (before : List ℕ) (marks : List Bool) (l : Line) (ls : List Line) → Going before marks (l ∷ ls)
      → Going (l.entry ∷ before) (marked_at marks (next_entries p l.entry)) (ls ++ new_lines marks (OfEntry l.entry) (next_entries p l.entry))
  going_next before marks l ls g =
      let h : IsValidLine p before l = g.making.valid.0 in
      let e : EntryAt = h.entry in
      let q : next_entries p l.entry ≡ node_entries p.entries p.classes p.bytes (entry_node e) =
      ap (λ o. those (number_in_force p.entries) (option_map_or (λ e. targets p.classes p.bytes (entry_node e)) o [])) h.there in
      let m = making_more (l.entry ∷ before) marks ls (OfEntry l.entry) (entry_node e)
      (λ more f. (e, in_contains more l.entry (f l.entry (in_after (l.entry ∷ before) ls l.entry (inl refl))), h.there, refl)) (making_next before marks l ls g.making) in
      record {
        making = subst (λ z. Making (l.entry ∷ before) (marked_at marks z) (ls ++ new_lines marks (OfEntry l.entry) z)) (sym q) m;
        rooted = λ i k. all_stay marks (next_entries p l.entry) i (g.rooted i k);
        closed = λ j k i u. by_case j k i u;
      }
    where
      by_case : (j : ℕ) → In (l.entry ∷ before) j → (i : ℕ) → In (next_entries p j) i → IsMarked (marked_at marks (next_entries p l.entry)) i
      by_case j (inl e) i u =
          let v : In (next_entries p l.entry) i = subst (λ z. In (next_entries p z) i) (sym e) u in
          let b = targets_below (option_map_or (λ e. targets p.classes p.bytes (entry_node e)) (slice_get p.entries l.entry) []) i v in
          all_here marks (next_entries p l.entry) i (omega (arith, g.making.size)) v
      by_case j (inr k) i u = all_stay marks (next_entries p l.entry) i (g.closed j k i u)

  -- What is known of all the lines.
  record Made (before : List ℕ) (ls : List Line) : Type 0 where
    valid : AreValidLines p before ls
    every : (i : ℕ) → i < length p.entries → In before i ⊎ In (entries ls) i
    counted : length before + length ls ≡ length p.entries

  module _ (all : (i : ℕ) → i < length p.entries → Reach (next_entries p) (roots p (events_of p)) i) where
    -- If no line is left, all that is reached is marked.
    is_marked_all : (before : List ℕ) (marks : List Bool) → Going before marks [] → {i : ℕ} → Reach (next_entries p) (roots p (events_of p)) i → IsMarked marks i
    is_marked_all before marks g {i} (root k) = g.rooted i k
    is_marked_all before marks g {i} (more {j = j} r k) = by_case (g.making.listed j (is_marked_all before marks g r))
      where
        by_case : In before j ⊎ In [] j → IsMarked marks i
        by_case (inl u) = g.closed j u i k
        by_case (inr u) = absurd u

    made_none : (before : List ℕ) (marks : List Bool) → Going before marks [] → Made before []
    made_none before marks g =
        let f : (i : ℕ) → i < length p.entries → IsMarked marks i = λ i h. is_marked_all before marks g (all i h) in
        let c : marked_count marks ≡ length marks = count_all marks (λ i h. f i (omega (arith, g.making.size))) in
        record { valid = tt; every = λ i h. g.making.listed i (f i h); counted = omega (arith, c, g.making.size, g.making.counted) }

    made_more : (before : List ℕ) (l : Line) (ls : List Line) → IsValidLine p before l → Made (l.entry ∷ before) ls → Made before (l ∷ ls)
    made_more before l ls h m = record {
      valid = (h, m.valid);
      every = λ i k. by_case i (m.every i k);
      counted = omega (arith, m.counted);
    }
      where
        by_case : (i : ℕ) → In (l.entry ∷ before) i ⊎ In (entries ls) i → In before i ⊎ In (l.entry ∷ entries ls) i
        by_case i (inl (inl e)) = inr (inl e)
        by_case i (inl (inr k)) = inl k
        by_case i (inr k) = inr (inr k)

    made : (n : ℕ) (before : List ℕ) (marks : List Bool) (ls : List Line) → n + length before ≡ length p.entries → Going before marks ls → Made before (lines_from n p marks ls)
    made zero before marks [] e g = made_none before marks g
    made zero before marks (l ∷ ls) e g = let c = count_le marks in absurd (omega (arith, g.making.counted, g.making.size))
    made (suc n) before marks [] e g = made_none before marks g
    made (suc n) before marks (l ∷ ls) e g =
        made_more before l (lines_from n p (marked_at marks (next_entries p l.entry)) (ls ++ new_lines marks (OfEntry l.entry) (next_entries p l.entry))) g.making.valid.0
        (made n (l.entry ∷ before) (marked_at marks (next_entries p l.entry)) (ls ++ new_lines marks (OfEntry l.entry) (next_entries p l.entry)) (omega arith) (going_next before marks l ls g))

    -- All the lines, and what is known of them.
    made_lines : Made [] (lines_of p)
    unfolding lines_of
    made_lines = made (length p.entries) [] (marked_at (no_marks p) (roots p (events_of p))) (event_lines p (no_marks p) 0 (events_of p)) (omega arith) started

    -- Each entry has a line.
    pub each_has_line : (i : ℕ) → i < length p.entries → In (entries (lines_of p)) i
    each_has_line i h = by_case (made_lines.every i h)
      where
        by_case : In [] i ⊎ In (entries (lines_of p)) i → In (entries (lines_of p)) i
        by_case (inl k) = absurd k
        by_case (inr k) = k

    pub receipt_of_is_receipt : Exactly receipt_format (receipt_of p) (lines_of p) → IsReceiptOf (receipt_of p) p
    receipt_of_is_receipt e = record {
      lines = lines_of p;
      spelled = e;
      count = omega (arith, made_lines.counted);
      each = λ i h. in_contains (entries (lines_of p)) i (each_has_line i h);
      valid = made_lines.valid;
    }
