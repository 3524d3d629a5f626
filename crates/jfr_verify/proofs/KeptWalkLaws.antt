-- The loop over the kept events.
use Rattle.std.specs.Prelude.{◌≡◌, ◌<◌, ◌≤◌, ◌+◌, ℕ, zero, suc, Bool, true, false, List, [], ◌∷◌, ◌++◌, drop, length, slice_get, Option, Some, None, option_map, unwrap_or, if◌then◌else◌}
use Rattle.std.proofs.Common.{ap, arith, refl, sym, ◌∙◌, subst}
use Rattle.std.proofs.lemmas.List.{append_assoc, append-nil, length-replicate}
use Rattle.std.proofs.lemmas.Option.{slice_get_within}
use Rattle.jfr_chunk.specs.Parts.{Parts, EventAt, events_of}
use Rattle.jfr_worklist.specs.Marks.{marked_at}
use Rattle.jfr_chunk.specs.Reach.{kept_by, marked, node_entries, roots}
use Rattle.jfr_worklist.proofs.MarkLaws.{all_size, all_append}
use Rattle.jfr_verify.specs.declared.line.Line.{Line}
use Rattle.jfr_verify.specs.declared.line.Parent.TheVariants.{OfEvent}
use Rattle.jfr_verify.specs.Ranks.{kept_at, kept_lines}
use Rattle.jfr_verify.specs.Receipts.{event_lines, lines_from, new_lines, no_marks}
use Rattle.jfr_verify.proofs.WalkLaws.{roots_cons}

no_events : (keep : List Bool) → marked {X = EventAt} keep [] ≡ []
no_events [] = refl
no_events (k ∷ keep) = refl

abbrev nothing : List EventAt
nothing = []

none_there : (n : ℕ) (o : Option Bool) (e : EventAt) → (if unwrap_or o false then slice_get nothing (suc n) else None) ≡ Some e → ⊥
none_there n None e h = cc
none_there n (Some true) e h = cc
none_there n (Some false) e h = cc

-- The kept events from a number on, if the event with this number is kept and if it isn't.
keeps_one : (keep : List Bool) (es : List EventAt) (n : ℕ) (e : EventAt) → kept_at keep es n ≡ Some e → marked (drop n keep) (drop n es) ≡ e ∷ marked (drop (suc n) keep) (drop (suc n) es)
keeps_one [] es n e h = cc
keeps_one (true ∷ keep) [] zero e h = cc
keeps_one (false ∷ keep) [] zero e h = cc
keeps_one (true ∷ keep) (x ∷ es) zero e h = let q : x ≡ e = cc in ap (λ z. z ∷ marked keep es) q
keeps_one (false ∷ keep) (x ∷ es) zero e h = cc
keeps_one (k ∷ keep) [] (suc n) e h = absurd (none_there n (slice_get keep n) e h)
keeps_one (k ∷ keep) (x ∷ es) (suc n) e h = keeps_one keep es n e h

keeps_none : (keep : List Bool) (es : List EventAt) (n : ℕ) → kept_at keep es n ≡ None → marked (drop n keep) (drop n es) ≡ marked (drop (suc n) keep) (drop (suc n) es)
keeps_none [] es zero h = refl
keeps_none [] es (suc n) h = refl
keeps_none (true ∷ keep) [] zero h = sym (no_events keep)
keeps_none (false ∷ keep) [] zero h = sym (no_events keep)
keeps_none (true ∷ keep) (x ∷ es) zero h = cc
keeps_none (false ∷ keep) (x ∷ es) zero h = refl
keeps_none (k ∷ keep) [] (suc n) h = no_events (drop n keep) ∙ sym (no_events (drop (suc n) keep))
keeps_none (k ∷ keep) (x ∷ es) (suc n) h = keeps_none keep es n h

none_from : (keep : List Bool) (es : List EventAt) (n : ℕ) → length keep ≤ n → marked (drop n keep) (drop n es) ≡ []
none_from [] es zero h = refl
none_from [] es (suc n) h = refl
none_from (k ∷ keep) es zero h = absurd (omega arith)
none_from (k ∷ keep) [] (suc n) h = no_events (drop n keep)
none_from (k ∷ keep) (x ∷ es) (suc n) h = none_from keep es n (omega arith)

module _ (p : Parts) (keep : List Bool) where
  abbrev refers : EventAt → List ℕ
  refers e = node_entries p.entries p.classes p.bytes e.node

  abbrev from : ℕ → List EventAt
  from n = marked (drop n keep) (drop n (events_of p))

  -- The marks and the lines so far, with those that the kept events from number n on still add, are all.
  pub record InKept (n rank : ℕ) (flags : List Bool) (items : List Line) : Type 0 where
    pub size : length flags ≡ length p.entries
    pub order : rank ≤ n
    pub marks : marked_at flags (roots p (from n)) ≡ marked_at (no_marks p) (roots p (kept_by p keep))
    pub lines : items ++ event_lines p flags rank (from n) ≡ event_lines p (no_marks p) 0 (kept_by p keep)

  pub in_kept_starts : (flags : List Bool) (items : List Line) → flags ≡ no_marks p → items ≡ [] → InKept 0 0 flags items
  in_kept_starts flags items e h = record {
    size = ap length e ∙ length-replicate (length p.entries) false;
    order = omega arith;
    marks = ap (λ z. marked_at z (roots p (kept_by p keep))) e;
    lines = ap (λ z. z ++ event_lines p flags 0 (kept_by p keep)) h ∙ ap (λ z. event_lines p z 0 (kept_by p keep)) e;
  }

  -- The event with number n is kept.
  in_kept_one : (n rank next : ℕ) (e : EventAt) (flags more : List Bool) (items now : List Line) → kept_at keep (events_of p) n ≡ Some e → InKept n rank flags items
      → more ≡ marked_at flags (refers e) → now ≡ items ++ new_lines flags (OfEvent rank) (refers e) → next ≡ suc rank → InKept (suc n) next more now
  in_kept_one n rank next e flags more items now g h a b c =
      let rest : List EventAt = from (suc n) in
      let new : List Line = new_lines flags (OfEvent rank) (refers e) in
      let k : from n ≡ e ∷ rest = keeps_one keep (events_of p) n e g in
      let o : rank ≤ n = h.order in
      record {
        size = ap length a ∙ (all_size flags (refers e) ∙ h.size);
        order = omega arith;
        marks = ap (λ z. marked_at z (roots p rest)) a ∙ (sym (all_append flags (refers e) (roots p rest)) ∙ (ap (marked_at flags) (sym (ap (roots p) k ∙ roots_cons p e rest)) ∙ h.marks));
        lines = ap (λ z. now ++ event_lines p more z rest) c ∙ (ap (λ z. now ++ event_lines p z (suc rank) rest) a ∙ (ap (λ z. z ++ event_lines p (marked_at flags (refers e)) (suc rank) rest) b
            ∙ (append_assoc items new (event_lines p (marked_at flags (refers e)) (suc rank) rest) ∙ (ap (λ z. items ++ event_lines p flags rank z) (sym k) ∙ h.lines))));
      }

  -- It isn't.
  in_kept_none : (n rank : ℕ) (flags : List Bool) (items : List Line) → kept_at keep (events_of p) n ≡ None → InKept n rank flags items → InKept (suc n) rank flags items
  in_kept_none n rank flags items g h =
      let k : from n ≡ from (suc n) = keeps_none keep (events_of p) n g in
      let o : rank ≤ n = h.order in
      record {
        size = h.size;
        order = omega arith;
        marks = ap (λ z. marked_at flags (roots p z)) (sym k) ∙ h.marks;
        lines = ap (λ z. items ++ event_lines p flags rank z) (sym k) ∙ h.lines;
      }

  pub in_kept_ends : (n rank : ℕ) (flags : List Bool) (items : List Line) → length keep ≤ n → InKept n rank flags items
      → (flags ≡ marked_at (no_marks p) (roots p (kept_by p keep))) × (items ≡ event_lines p (no_marks p) 0 (kept_by p keep))
  in_kept_ends n rank flags items l h =
      let k : from n ≡ [] = none_from keep (events_of p) n l in
      (ap (λ z. marked_at flags (roots p z)) (sym k) ∙ h.marks, sym (append-nil items) ∙ (ap (λ z. items ++ event_lines p flags rank z) (sym k) ∙ h.lines))

  -- One event more.
  pub in_kept_next : (n rank next : ℕ) (flags more : List Bool) (items now : List Line) → InKept n rank flags items
      → ((e : EventAt) → kept_at keep (events_of p) n ≡ Some e → (more ≡ marked_at flags (refers e)) × (now ≡ items ++ new_lines flags (OfEvent rank) (refers e)) × (next ≡ rank + 1))
      → (kept_at keep (events_of p) n ≡ None → (more ≡ flags) × (now ≡ items) × (next ≡ rank)) → InKept (n + 1) next more now
  in_kept_next n rank next flags more items now h f g =
      let q : suc n ≡ n + 1 = omega arith in
      subst (λ z. InKept z next more now) q (by_event (kept_at keep (events_of p) n) refl)
    where
      by_event : (o : Option EventAt) → kept_at keep (events_of p) n ≡ o → InKept (suc n) next more now
      by_event (Some e) k =
          let u = f e k in
          let s : next ≡ suc rank = omega (arith, u.2) in
          in_kept_one n rank next e flags more items now k h u.0 u.1 s
      by_event None k =
          let u = g k in
          subst (λ z. InKept (suc n) z more now) (sym u.2) (subst (λ z. InKept (suc n) rank z now) (sym u.0) (subst (InKept (suc n) rank flags) (sym u.1) (in_kept_none n rank flags items k h)))

-- A kept event is there.
kept_within : (keep : List Bool) (es : List EventAt) (n : ℕ) (e : EventAt) → kept_at keep es n ≡ Some e → n < length es
kept_within keep es n e h = by_flag (slice_get keep n) h
  where
    by_flag : (o : Option Bool) → (if unwrap_or o false then slice_get es n else None) ≡ Some e → n < length es
    by_flag None h = cc
    by_flag (Some true) h = slice_get_within es n e h
    by_flag (Some false) h = cc

pub refers_within : {A : Type 0} (f : EventAt → A) (keep : List Bool) (es : List EventAt) (n : ℕ) (x : A) → Some x ≡ option_map f (kept_at keep es n) → n < length es
refers_within {A = A} f keep es n x h = by_event (kept_at keep es n) refl h
  where
    by_event : (o : Option EventAt) → kept_at keep es n ≡ o → Some x ≡ option_map f o → n < length es
    by_event None k h = cc
    by_event (Some e) k h = kept_within keep es n e k

-- All the lines of the kept events.
pub kept_lines_end : (p : Parts) (kept : List EventAt) (flags : List Bool) (first items : List Line) → flags ≡ marked_at (no_marks p) (roots p kept) → first ≡ event_lines p (no_marks p) 0 kept
    → items ≡ lines_from (length p.entries) p flags first → items ≡ kept_lines p kept
unfolding kept_lines
kept_lines_end p kept flags first items a b e = e ∙ (ap (λ z. lines_from (length p.entries) p z first) a ∙ ap (lines_from (length p.entries) p (marked_at (no_marks p) (roots p kept))) b)
