-- The loops over events and over lines.
use Rattle.std.specs.Prelude.{◌≡◌, ◌<◌, ◌≤◌, ◌+◌, ℕ, zero, suc, Bool, List, [], ◌∷◌, ◌++◌, take, drop, length, slice_get, Option, Some, None, option_map}
use Rattle.std.specs.List.{AllByRecursion, flat_map}
use Rattle.jfr_base.specs.Integer.{spell}
use Rattle.std.proofs.Common.{ap, arith, refl, sym, ◌∙◌, subst}
use Rattle.std.proofs.lemmas.List.{append_assoc, append-nil, length-replicate}
use Rattle.jfr_value.specs.Nodes.{targets}
use Rattle.jfr_pool.specs.declared.entry.EntryAt.{EntryAt}
use Rattle.jfr_pool.specs.Entries.{number_in_force}
use Rattle.jfr_chunk.specs.Parts.{Parts, EventAt, events_of}
use Rattle.jfr_worklist.specs.Marks.{marked_at, add, those}
use Rattle.jfr_chunk.specs.Reach.{all_targets, nodes_of, roots, node_entries, next_entries}
use Rattle.jfr_pool.proofs.ForceLaws.{force_within}
use Rattle.jfr_worklist.proofs.Members.{those_append}
use Rattle.jfr_worklist.proofs.MarkLaws.{all_size, all_append}
use Rattle.jfr_verify.specs.declared.line.Line.{Line}
use Rattle.jfr_verify.specs.declared.line.Parent.TheVariants.{OfEvent, OfEntry}
use Rattle.jfr_verify.specs.Receipts.{new_lines, event_lines, lines_from, lines_of, no_marks, line_bytes, receipt_of}
use Rattle.jfr_layout.proofs.Lists.{take_next}
use Rattle.jfr_chunk.proofs.RootLaws.{roots_one}

-- Numbers in force are below the number of entries.
pub those_below : (es : List EntryAt) (ts : List (ℕ × ℕ)) → AllByRecursion (λ n. n < length es) (those (number_in_force es) ts)
those_below es [] = tt
those_below es (t ∷ ts) = by_number (number_in_force es t) refl (those_below es ts)
  where
    by_number : (o : Option ℕ) → number_in_force es t ≡ o → AllByRecursion (λ n. n < length es) (those (number_in_force es) ts)
        → AllByRecursion (λ n. n < length es) (add o (those (number_in_force es) ts))
    by_number None q a = a
    by_number (Some i) q a = (force_within es t i q, a)

module _ (p : Parts) where
  abbrev refers : EventAt → List ℕ
  refers e = node_entries p.entries p.classes p.bytes e.node

  -- The references of an event.
  pub given_below : (x : List ℕ) (o : Option EventAt) → Some x ≡ option_map refers o → AllByRecursion (λ n. n < length p.entries) x
  given_below x None e = cc
  given_below x (Some e) q = let h : refers e ≡ x = cc in subst (AllByRecursion (λ n. n < length p.entries)) h (those_below p.entries (targets p.classes p.bytes e.node))

  pub given_is : (x : List ℕ) (o : Option EventAt) (e : EventAt) → Some x ≡ option_map refers o → o ≡ Some e → x ≡ refers e
  given_is x o e q h = let z : Some x ≡ Some (refers e) = q ∙ ap (option_map refers) h in cc

  pub roots_cons : (x : EventAt) (xs : List EventAt) → roots p (x ∷ xs) ≡ refers x ++ roots p xs
  roots_cons x xs = those_append (number_in_force p.entries) (targets p.classes p.bytes x.node) (all_targets p (nodes_of xs))

  event_lines_one : (marks : List Bool) (n : ℕ) (xs : List EventAt) (e : EventAt)
      → event_lines p marks n (xs ++ e ∷ []) ≡ event_lines p marks n xs ++ new_lines (marked_at marks (roots p xs)) (OfEvent (n + length xs)) (refers e)
  event_lines_one marks n [] e = append-nil (new_lines marks (OfEvent n) (refers e)) ∙ (let q : n + 0 ≡ n = omega arith in ap (λ z. new_lines marks (OfEvent z) (refers e)) (sym q))
  event_lines_one marks n (x ∷ xs) e =
      let q : n + suc (length xs) ≡ suc n + length xs = omega arith in
      ap (λ z. new_lines marks (OfEvent n) (refers x) ++ z) (event_lines_one (marked_at marks (refers x)) (suc n) xs e)
      ∙ (sym (append_assoc (new_lines marks (OfEvent n) (refers x)) (event_lines p (marked_at marks (refers x)) (suc n) xs)
      (new_lines (marked_at (marked_at marks (refers x)) (roots p xs)) (OfEvent (suc n + length xs)) (refers e)))
      ∙ ap (λ z. event_lines p marks n (x ∷ xs) ++ z)
      (ap (λ z. new_lines z (OfEvent (suc n + length xs)) (refers e)) (sym (ap (marked_at marks) (roots_cons x xs) ∙ all_append marks (refers x) (roots p xs)))
      ∙ ap (λ z. new_lines (marked_at marks (roots p (x ∷ xs))) (OfEvent z) (refers e)) (sym q)))

  -- The lines for the first events.
  pub record InEvents (n : ℕ) (flags : List Bool) (items : List Line) : Type 0 where
    pub marks : flags ≡ marked_at (no_marks p) (roots p (take n (events_of p)))
    pub lines : items ≡ event_lines p (no_marks p) 0 (take n (events_of p))

  pub in_events_size : (n : ℕ) (flags : List Bool) (items : List Line) → InEvents n flags items → length flags ≡ length p.entries
  in_events_size n flags items h = ap length h.marks ∙ (all_size (no_marks p) (roots p (take n (events_of p))) ∙ length-replicate (length p.entries) _)

  get_length : {X : Type 0} (xs : List X) (n : ℕ) (x : X) → slice_get xs n ≡ Some x → length (take n xs) ≡ n
  get_length [] n x e = cc
  get_length (y ∷ ys) zero x e = refl
  get_length (y ∷ ys) (suc n) x e = ap (λ z. suc z) (get_length ys n x e)

  pub in_events_next : (n : ℕ) (e : EventAt) (flags more : List Bool) (items now : List Line) → slice_get (events_of p) n ≡ Some e → InEvents n flags items → more ≡ marked_at flags (refers e)
      → now ≡ items ++ new_lines flags (OfEvent n) (refers e) → InEvents (n + 1) more now
  in_events_next n e flags more items now g h a b =
      let es : List EventAt = take n (events_of p) in
      let t : take (n + 1) (events_of p) ≡ es ++ e ∷ [] = take_next (events_of p) n e g in
      let l : 0 + length es ≡ n = (let z = get_length (events_of p) n e g in omega arith) in
      record {
        marks = a ∙ (ap (λ z. marked_at z (refers e)) h.marks ∙ (sym (all_append (no_marks p) (roots p es) (refers e)) ∙ ap (marked_at (no_marks p)) (sym (ap (roots p) t ∙ roots_one p es e))));
        lines = b ∙ (ap (λ z. z ++ new_lines flags (OfEvent n) (refers e)) h.lines ∙ (ap (λ z. event_lines p (no_marks p) 0 es ++ new_lines z (OfEvent n) (refers e)) h.marks
            ∙ (ap (λ z. event_lines p (no_marks p) 0 es ++ new_lines (marked_at (no_marks p) (roots p es)) (OfEvent z) (refers e)) (sym l)
            ∙ sym (ap (event_lines p (no_marks p) 0) t ∙ event_lines_one (no_marks p) 0 es e))));
      }

  -- The lines so far, with those that the entries of the rest still add, are all the lines.
  pub record InLines (old : List Bool) (first : List Line) (flags : List Bool) (items : List Line) (next : ℕ) : Type 0 where
    pub size : length flags ≡ length p.entries
    pub turns : ℕ
    pub sum : turns + next ≡ length p.entries
    pub same : lines_from (length p.entries) p old first ≡ take next items ++ lines_from turns p flags (drop next items)

  pub in_lines_starts : (old : List Bool) (first : List Line) → length old ≡ length p.entries → InLines old first old first 0
  in_lines_starts old first s = record { size = s; turns = length p.entries; sum = omega arith; same = refl }

  pub drop_get : {X : Type 0} (xs : List X) (n : ℕ) (x : X) → slice_get xs n ≡ Some x → drop n xs ≡ x ∷ drop (suc n) xs
  drop_get [] n x e = cc
  drop_get (y ∷ ys) zero x e = let h : y ≡ x = cc in ap (λ z. z ∷ ys) h
  drop_get (y ∷ ys) (suc n) x e = drop_get ys n x e

  take_front : {X : Type 0} (xs ys : List X) (n : ℕ) → n ≤ length xs → take n (xs ++ ys) ≡ take n xs
  take_front xs ys zero h = refl
  take_front [] ys (suc n) h = absurd (omega arith)
  take_front (x ∷ xs) ys (suc n) h = ap (λ z. x ∷ z) (take_front xs ys n (omega arith))

  drop_front : {X : Type 0} (xs ys : List X) (n : ℕ) → n ≤ length xs → drop n (xs ++ ys) ≡ drop n xs ++ ys
  drop_front xs ys zero h = refl
  drop_front [] ys (suc n) h = absurd (omega arith)
  drop_front (x ∷ xs) ys (suc n) h = drop_front xs ys n (omega arith)

  get_within : {X : Type 0} (xs : List X) (n : ℕ) (x : X) → slice_get xs n ≡ Some x → suc n ≤ length xs
  get_within [] n x e = cc
  get_within (y ∷ ys) zero x e = omega arith
  get_within (y ∷ ys) (suc n) x e = omega (arith, get_within ys n x e)

  pub in_lines_next : (old flags more : List Bool) (first items now : List Line) (next : ℕ) (l : Line) → slice_get items next ≡ Some l → next < length p.entries → InLines old first flags items next
      → more ≡ marked_at flags (next_entries p l.entry) → now ≡ items ++ new_lines flags (OfEntry l.entry) (next_entries p l.entry) → InLines old first more now (next + 1)
  in_lines_next old flags more first items now next l g w h a b = by_turns h.turns h.sum h.same
    where
      new : List Line
      new = new_lines flags (OfEntry l.entry) (next_entries p l.entry)

      by_turns : (n : ℕ) → n + next ≡ length p.entries → lines_from (length p.entries) p old first ≡ take next items ++ lines_from n p flags (drop next items) → InLines old first more now (next + 1)
      by_turns zero s e = absurd (omega arith)
      by_turns (suc n) s e =
          let within : suc next ≤ length items = get_within items next l g in
          let d : drop next items ≡ l ∷ drop (suc next) items = drop_get items next l g in
          let q : next + 1 ≡ suc next = omega arith in
          let t : take (next + 1) now ≡ take next items ++ l ∷ [] =
          ap (λ z. take z now) q ∙ (ap (take (suc next)) b ∙ (take_front items new (suc next) within ∙ (sym (ap (λ z. take z items) q) ∙ take_next items next l g))) in
          let u : drop (next + 1) now ≡ drop (suc next) items ++ new = ap (λ z. drop z now) q ∙ (ap (drop (suc next)) b ∙ drop_front items new (suc next) within) in
          let v : lines_from n p (marked_at flags (next_entries p l.entry)) (drop (suc next) items ++ new) ≡ lines_from n p more (drop (next + 1) now) =
          ap (λ z. lines_from n p z (drop (suc next) items ++ new)) (sym a) ∙ ap (lines_from n p more) (sym u) in
          record {
            size = ap length a ∙ (all_size flags (next_entries p l.entry) ∙ h.size);
            turns = n;
            sum = omega arith;
            same = e ∙ (ap (λ z. take next items ++ lines_from (suc n) p flags z) d
                ∙ (sym (append_assoc (take next items) (l ∷ []) (lines_from n p (marked_at flags (next_entries p l.entry)) (drop (suc next) items ++ new)))
                ∙ (ap (λ z. z ++ lines_from n p (marked_at flags (next_entries p l.entry)) (drop (suc next) items ++ new)) (sym t) ∙ ap (λ z. take (next + 1) now ++ z) v)));
          }

  all_taken : {X : Type 0} (xs : List X) (n : ℕ) → length xs ≤ n → (take n xs ≡ xs) × (drop n xs ≡ [])
  all_taken [] zero h = (refl, refl)
  all_taken [] (suc n) h = (refl, refl)
  all_taken (x ∷ xs) zero h = absurd (omega arith)
  all_taken (x ∷ xs) (suc n) h = let i = all_taken xs n (omega arith) in (ap (λ z. x ∷ z) i.0, i.1)

  pub none_left : (n : ℕ) (flags : List Bool) → lines_from n p flags [] ≡ []
  none_left zero flags = refl
  none_left (suc n) flags = refl

  pub in_lines_ends : (old flags : List Bool) (first items : List Line) (next : ℕ) → length items ≤ next → InLines old first flags items next → items ≡ lines_from (length p.entries) p old first
  in_lines_ends old flags first items next h i =
      let a = all_taken items next h in
      sym (i.same ∙ (ap (λ z. z ++ lines_from i.turns p flags (drop next items)) a.0
      ∙ (ap (λ z. items ++ lines_from i.turns p flags z) a.1 ∙ (ap (λ z. items ++ z) (none_left i.turns flags) ∙ append-nil items))))

  pub no_marks_size : (flags : List Bool) (is : List ℕ) → flags ≡ marked_at (no_marks p) is → length flags ≡ length p.entries
  no_marks_size flags is e = ap length e ∙ (all_size (no_marks p) is ∙ length-replicate (length p.entries) _)

  -- All the lines.
  pub lines_end : (flags : List Bool) (first items : List Line) → flags ≡ marked_at (no_marks p) (roots p (events_of p)) → first ≡ event_lines p (no_marks p) 0 (events_of p)
      → items ≡ lines_from (length p.entries) p flags first → items ≡ lines_of p
  unfolding lines_of
  lines_end flags first items a b e = e ∙ (ap (λ z. lines_from (length p.entries) p z first) a ∙ ap (lines_from (length p.entries) p (marked_at (no_marks p) (roots p (events_of p)))) b)

  -- The bytes of the lines.
  pub receipt_is : (items : List Line) (head all : List ℕ) → items ≡ lines_of p → head ≡ spell (length items) → all ≡ head ++ flat_map line_bytes items → all ≡ receipt_of p
  unfolding receipt_of
  receipt_is items head all e a b = b ∙ (ap (λ z. z ++ flat_map line_bytes items) a ∙ ap (λ z. spell (length z) ++ flat_map line_bytes z) e)
