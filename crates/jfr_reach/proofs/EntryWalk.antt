-- The loop over the marked entries.
use Rattle.std.specs.Prelude.{◌≡◌, ◌↔◌, ℕ, ◌+◌, ◌<◌, ◌≤◌, Bool, true, false, List, [], ◌∷◌, length, replicate, slice_index}
use Rattle.std.proofs.Common.{ap, arith, sym, ◌∙◌, inl, inr, subst}
use Rattle.std.proofs.lemmas.List.{length-replicate}
use Rattle.jfr_pool.specs.Entries.{number_in_force}
use Rattle.jfr_chunk.specs.Parts.{Parts, EventAt, AreParts, events_of}
use Rattle.jfr_worklist.specs.Marks.{IsMarked, marked_at, swept}
use Rattle.jfr_chunk.specs.Reach.{Reached, all_targets, nodes_of, roots, next_entries, marked, kept_by, reached_marks}
use Rattle.jfr_pool.proofs.ForceLaws.{force_within}
use Rattle.jfr_worklist.specs.Members.{In}
use Rattle.jfr_worklist.proofs.Members.{in_those}
use Rattle.jfr_chunk.proofs.ReachedLaws.{reached_marked}
use Rattle.jfr_chunk.proofs.HasNodesLaws.{has_nodes, event_is}
use Rattle.jfr_worklist.proofs.SweepLaws.{AllBelow, marks_reach}
use Rattle.jfr_worklist.specs.Worklists.{ordered_all}
use Rattle.jfr_reach.specs.Walks.{event_leaves, entry_leaves}
use Rattle.jfr_reach.proofs.BoundLaws.{leaves_bound}
use Rattle.jfr_worklist.proofs.WalkLaws.{Walking, walking_ends, started, went_on}
use Rattle.jfr_worklist.proofs.MarkLaws.{all_size, same_flags, swept_size}

module _ (p : Parts) where
  next_below : (j : ℕ) → AllBelow (length p.entries) (next_entries p j)
  next_below j i k = let t = in_those (number_in_force p.entries) _ i k in force_within p.entries t.0 i t.2

  pub roots_below : (kept : List EventAt) → AllBelow (length p.entries) (roots p kept)
  roots_below kept i k = let t = in_those (number_in_force p.entries) (all_targets p (nodes_of kept)) i k in force_within p.entries t.0 i t.2

  -- There is a mark for each entry.
  pub marks_size : (kept : List EventAt) → length (reached_marks p kept) ≡ length p.entries
  unfolding reached_marks
  marks_size kept =
      let a = swept_size (next_entries p) (length p.entries) (marked_at (replicate (length p.entries) false) (roots p kept)) in
      let b = all_size (replicate (length p.entries) false) (roots p kept) in
      a ∙ (b ∙ length-replicate (length p.entries) false)

  module _ (keep : List Bool) where
    -- What holds before each round of the loop over marked entries, after the events.
    abbrev pub Going : ℕ → List Bool → List ℕ → ℕ → ℕ → Type 0
    Going steps f o at s = Walking (length p.entries) (next_entries p) (roots p (kept_by p keep)) (entry_leaves p) (steps + event_leaves p (kept_by p keep)) f o at s

    pub going_starts : (steps : ℕ) (f g : List Bool) (o q : List ℕ) (s : ℕ) → f ≡ replicate (length p.entries) false → o ≡ [] → g ≡ marked_at f (roots p (kept_by p keep))
        → q ≡ ordered_all f o (roots p (kept_by p keep))
        → s ≤ steps + event_leaves p (kept_by p keep) → Going steps g q 0 s
    going_starts steps f g o q s a b x y few =
        started (length p.entries) (next_entries p) (roots p (kept_by p keep)) (entry_leaves p) (roots_below (kept_by p keep)) next_below (steps + event_leaves p (kept_by p keep)) s g q
        (x ∙ ap (λ v. marked_at v (roots p (kept_by p keep))) a)
        (y ∙ (ap (λ v. ordered_all v o (roots p (kept_by p keep))) a ∙ ap (λ v. ordered_all (replicate (length p.entries) false) v (roots p (kept_by p keep))) b)) few

    pub going_on : (steps : ℕ) (f g : List Bool) (o q : List ℕ) (at s t j : ℕ) → at < length o → Going steps f o at s → j ≡ slice_index o at → g ≡ marked_at f (next_entries p j)
        → q ≡ ordered_all f o (next_entries p j) → t ≡ s + entry_leaves p j
        → Going steps g q (at + 1) t
    going_on steps f g o q at s t j h w e x y z =
        went_on (length p.entries) (next_entries p) (roots p (kept_by p keep)) (entry_leaves p) (roots_below (kept_by p keep)) next_below
        (steps + event_leaves p (kept_by p keep)) f g o q at s t j h w e x y z

    pub going_ends : (steps : ℕ) (f : List Bool) (o : List ℕ) (at s : ℕ) → length o ≤ at → Going steps f o at s → f ≡ reached_marks p (kept_by p keep)
    unfolding reached_marks
    going_ends steps f o at s h w =
        let e = walking_ends (length p.entries) (next_entries p) (roots p (kept_by p keep)) (entry_leaves p) (steps + event_leaves p (kept_by p keep)) f o at s h w in
        let m = marks_reach (length p.entries) (next_entries p) (roots p (kept_by p keep)) (roots_below (kept_by p keep)) next_below in
        same_flags f (swept (length p.entries) (next_entries p) (marked_at (replicate (length p.entries) false) (roots p (kept_by p keep)))) (e.size ∙ sym (marks_size (kept_by p keep)))
        (λ i. ((λ k. (m i).1 ((e.exact i).0 k)), (λ k. (e.exact i).1 ((m i).0 k))))

    pub going_cost : AreParts p → (steps : ℕ) (f : List Bool) (o : List ℕ) (at s : ℕ) → length o ≤ at → Going steps f o at s → s ≤ steps + length p.bytes
    going_cost parts steps f o at s h w =
        let e = (walking_ends (length p.entries) (next_entries p) (roots p (kept_by p keep)) (entry_leaves p) (steps + event_leaves p (kept_by p keep)) f o at s h w).cost in
        let b = leaves_bound p parts keep in
        omega arith

    in_marked : (flags : List Bool) (es : List EventAt) (e : EventAt) → In (marked flags es) e → In es e
    in_marked [] es e i = absurd i
    in_marked (b ∷ flags) [] e i = absurd i
    in_marked (true ∷ flags) (x ∷ es) e (inl h) = inl h
    in_marked (true ∷ flags) (x ∷ es) e (inr i) = inr (in_marked flags es e i)
    in_marked (false ∷ flags) (x ∷ es) e i = inr (in_marked flags es e i)

    -- The marked entries are exactly those that paths reach.
    pub marked_reached : AreParts p → (f : List Bool) → f ≡ reached_marks p (kept_by p keep) → (i : ℕ) → IsMarked f i ↔ Reached p (kept_by p keep) i
    marked_reached parts f e i =
        let r = reached_marked p (has_nodes p parts) (kept_by p keep) (λ x k. (let v = event_is p parts x (in_marked keep (events_of p) x k) in (v.value, v.node))) i in
        (λ k. r.1 (subst (λ z. IsMarked z i) e k), λ k. subst (λ z. IsMarked z i) (sym e) (r.0 k))
