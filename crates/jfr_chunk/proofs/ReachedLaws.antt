-- Paths from the kept events reach what the sweeps mark.
use Rattle.std.specs.Prelude.{◌≡◌, ◌↔◌, ℕ, List, [], ◌∷◌, ◌++◌, length, slice_get, Contains, Some, ◌⊎◌}
use Rattle.std.specs.Option.{option_map_or}
use Rattle.std.proofs.Common.{refl, sym, inl, inr, subst}
use Rattle.jfr_value.specs.declared.node.Step.TheVariants as steps
use Rattle.jfr_value.specs.Values.{Value}
use Rattle.jfr_value.specs.Nodes.{IsNode, targets}
use Rattle.jfr_pool.specs.declared.entry.EntryAt.{EntryAt}
use Rattle.jfr_pool.specs.Entries.{number_in_force, in_force, entry_node}
use Rattle.jfr_chunk.specs.Parts.{Parts, EventAt}
use Rattle.jfr_chunk.specs.Reach.{Reached, all_targets, nodes_of, roots, next_entries, reached_marks}
use Rattle.jfr_worklist.specs.Marks.{those, IsMarked}
use Rattle.jfr_worklist.specs.Members.{In}
use Rattle.jfr_worklist.proofs.Members.{contains_in, in_contains, in_left, in_right, in_cases, those_in, in_those}
use Rattle.jfr_pool.proofs.ForceLaws.{forced, numbered}
use Rattle.jfr_chunk.proofs.PathLaws.{HasNodes}
use Rattle.jfr_chunk.proofs.ReachLaws.{leads_on, target_path, reach_least}
use Rattle.jfr_worklist.proofs.SweepLaws.{Reach, root, more, AllBelow, marks_reach}

abbrev entry_targets : Parts → ℕ → List (ℕ × ℕ)
entry_targets p i = option_map_or (λ e. targets p.classes p.bytes (entry_node e)) (slice_get p.entries i) []

module _ (p : Parts) where
  event_in : (es : List EventAt) (e : EventAt) (t : ℕ × ℕ) → In es e → In (targets p.classes p.bytes e.node) t → In (all_targets p (nodes_of es)) t
  event_in [] e t i j = absurd i
  event_in (f ∷ es) e t (inl q) j = in_left (targets p.classes p.bytes f.node) (all_targets p (nodes_of es)) t (subst (λ (z : EventAt). In (targets p.classes p.bytes z.node) t) (sym q) j)
  event_in (f ∷ es) e t (inr i) j = in_right (targets p.classes p.bytes f.node) (all_targets p (nodes_of es)) t (event_in es e t i j)

  in_events : (es : List EventAt) (t : ℕ × ℕ) → In (all_targets p (nodes_of es)) t → (e : EventAt) × In es e × In (targets p.classes p.bytes e.node) t
  in_events [] t i = absurd i
  in_events (f ∷ es) t i = by_case (in_cases (targets p.classes p.bytes f.node) (all_targets p (nodes_of es)) t i) (λ j. in_events es t j)
    where
      by_case : In (targets p.classes p.bytes f.node) t ⊎ In (all_targets p (nodes_of es)) t → (In (all_targets p (nodes_of es)) t → (e : EventAt) × In es e × In (targets p.classes p.bytes e.node) t)
          → (e : EventAt) × In (f ∷ es) e × In (targets p.classes p.bytes e.node) t
      by_case (inl j) g = (f, inl refl, j)
      by_case (inr j) g = let r = g j in (r.0, inr r.1, r.2)

  those_below : (ts : List (ℕ × ℕ)) → AllBelow (length p.entries) (those (number_in_force p.entries) ts)
  those_below ts i j = let t = in_those (number_in_force p.entries) ts i j in (forced p.entries t.0 i t.2).within

  module _ (s : HasNodes p) (kept : List EventAt) (nodes : (e : EventAt) → In kept e → (v : Value) × IsNode p.classes p.bytes e.node v) where
    abbrev Found : ℕ → Type 0
    Found i = Reach (next_entries p) (roots p kept) i

    -- What the numbers reach is at the end of a path.
    pub reach_path : {i : ℕ} → Found i → Reached p kept i
    reach_path {i} (root j) =
        let t = in_those (number_in_force p.entries) (all_targets p (nodes_of kept)) i j in
        let e = in_events kept t.0 t.1 in
        let v = nodes e.0 e.1 in
        let a = target_path p s e.0.node v.0 t.0 v.1 (in_contains (targets p.classes p.bytes e.0.node) t.0 e.2) in
        record { event = e.0; is_kept = in_contains kept e.0 e.1; path = a.0; node = a.1; leads_there = a.2; key = t.0; refers = a.3; in_force = t.2 }
    reach_path {i} (more {j = j} r k) =
        let h : Reached p kept j = reach_path r in
        let f = forced p.entries h.key j h.in_force in
        let v = s.entries h.key f.entry f.is in
        let t = in_those (number_in_force p.entries) (entry_targets p j) i k in
        let m : In (targets p.classes p.bytes (entry_node f.entry)) t.0 = subst (λ o. In (option_map_or (λ e. targets p.classes p.bytes (entry_node e)) o []) t.0) f.there t.1 in
        let a = target_path p s (entry_node f.entry) v.0 t.0 v.1 (in_contains (targets p.classes p.bytes (entry_node f.entry)) t.0 m) in
        record {
          event = h.event;
          is_kept = h.is_kept;
          path = h.path ++ (steps.Follow ∷ a.0);
          node = a.1;
          leads_there = leads_on p s h.event.node h.node a.1 h.key f.entry h.path a.0 h.leads_there h.refers f.is a.2;
          key = t.0;
          refers = a.3;
          in_force = t.2;
        }

    abbrev AllFound : ℕ × ℕ → Type 0
    AllFound t = (i : ℕ) → number_in_force p.entries t ≡ Some i → Found i

    closed : (t u : ℕ × ℕ) (e : EntryAt) → AllFound t → in_force p.entries t ≡ Some e → Contains (targets p.classes p.bytes (entry_node e)) u → AllFound u
    closed t u e a q c i r =
        let n = numbered p.entries t e q in
        let m : In (entry_targets p n.number) u =
        subst (λ o. In (option_map_or (λ e. targets p.classes p.bytes (entry_node e)) o []) u) (sym n.there) (contains_in (targets p.classes p.bytes (entry_node e)) u c) in
        more (a n.number n.forced) (those_in (number_in_force p.entries) (entry_targets p n.number) u i m r)

    -- And back.
    pub path_reach : (i : ℕ) → Reached p kept i → Found i
    path_reach i r =
        let k = contains_in kept r.event r.is_kept in
        let v = nodes r.event k in
        reach_least p s AllFound closed r.path r.event.node r.node v.0 r.key v.1
        (λ t c j e. root (those_in (number_in_force p.entries) (all_targets p (nodes_of kept)) t j (event_in kept r.event t k (contains_in (targets p.classes p.bytes r.event.node) t c)) e))
        r.leads_there r.refers i r.in_force

    pub reached_marked : (i : ℕ) → Reached p kept i ↔ IsMarked (reached_marks p kept) i
    unfolding reached_marks
    reached_marked i =
        let m = marks_reach (length p.entries) (next_entries p) (roots p kept) (those_below (all_targets p (nodes_of kept))) (λ j. those_below (entry_targets p j)) i in
        (λ r. m.1 (path_reach i r), λ k. reach_path (m.0 k))
