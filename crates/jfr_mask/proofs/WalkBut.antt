-- The walk over the entries that the kept events reach by paths that go no further where Follow stops.
use Rattle.std.specs.Prelude.{◌≡◌, ℕ, ◌+◌, ◌<◌, ◌≤◌, All, Bool, false, List, [], ◌∷◌, ◌++◌, drop, length, replicate, slice_get, slice_index, option_map, Option, None, Some, option_to_list}
use Rattle.std.specs.List.{AllByRecursion, flat_map}
use Rattle.std.specs.Option.{option_map_or}
use Rattle.std.proofs.Common.{ap, append-nil, arith, inl, inr, refl, sym, subst, ◌∙◌}
use Rattle.std.proofs.lemmas.Grind.{flat_map-append}
use Rattle.std.proofs.lemmas.List.{length-replicate}
use Rattle.std.proofs.lemmas.List.Elements.{All-from_recursion}
use Rattle.jfr_worklist.specs.Marks.{marked_at, swept, those}
use Rattle.jfr_worklist.specs.Members.{In}
use Rattle.jfr_worklist.specs.Putting.{Puts}
use Rattle.jfr_worklist.specs.Worklists.{ordered_all}
use Rattle.jfr_worklist.specs.declared.worklist.Worklist.{Worklist}
use Rattle.jfr_worklist.proofs.MarkLaws.{all_size, same_flags, swept_size}
use Rattle.jfr_worklist.proofs.Members.{in_those, those_append}
use Rattle.jfr_worklist.proofs.SweepLaws.{AllBelow, marks_reach}
use Rattle.jfr_worklist.proofs.WalkLaws.{Walking, started, walking_ends, went_on}
use Rattle.jfr_pool.specs.declared.entry.EntryAt.{EntryAt}
use Rattle.jfr_pool.specs.Entries.{entry_node, number_in_force}
use Rattle.jfr_pool.proofs.ForceLaws.{force_within}
use Rattle.jfr_chunk.specs.Parts.{Parts, EventAt, events_of}
use Rattle.jfr_value.specs.Nodes.{targets}
use Rattle.jfr_chunk.specs.Reach.{kept_by, marked, node_entries}
use Rattle.jfr_rewrite.specs.Paths.{Stops}
use Rattle.jfr_mask.specs.ReachBut.{marks_but, next_but, node_targets_but, remain_but, roots_but}
use Rattle.jfr_mask.specs.Reaching.{marked_get}
use Rattle.jfr_mask.proofs.MarkedRest.{marked_next}
use Rattle.jfr_mask.proofs.PuttingRest.{Rests, rests_after}

module _ (stops : Stops) (p : Parts) where
  abbrev event_targets : EventAt → List (ℕ × ℕ)
  event_targets e = node_targets_but stops p e.node

  -- What lists of events refer to, one after another.
  roots_append : (xs ys : List EventAt) → roots_but stops p (xs ++ ys) ≡ roots_but stops p xs ++ roots_but stops p ys
  roots_append xs ys = ap (those (number_in_force p.entries)) (flat_map-append event_targets xs ys) ∙ those_append (number_in_force p.entries) (flat_map event_targets xs) (flat_map event_targets ys)

  -- What the events from a place on refer to is left.
  abbrev pub EventsRest : List Bool → ℕ → Worklist → Worklist → Type 0
  EventsRest keep i a b = Rests (roots_but stops p (kept_by p keep)) (roots_but stops p (marked (drop i keep) (drop i (events_of p)))) a b

  pub events_next : (keep : List Bool) (i : ℕ) (a b c : Worklist) → i < length keep → EventsRest keep i a b → Puts (roots_but stops p (option_to_list (marked_get keep (events_of p) i))) b c
      → EventsRest keep (i + 1) a c
  events_next keep i a b c h r q =
      let here : List EventAt = option_to_list (marked_get keep (events_of p) i) in
      let later : List EventAt = marked (drop (i + 1) keep) (drop (i + 1) (events_of p)) in
      rests_after (roots_but stops p (kept_by p keep)) (roots_but stops p here) (roots_but stops p later) (roots_but stops p (marked (drop i keep) (drop i (events_of p)))) a b c r
      (ap (roots_but stops p) (marked_next keep (events_of p) i h) ∙ roots_append here later) q

  -- Numbers in force are those of entries.
  below : (ts : List (ℕ × ℕ)) → AllBelow (length p.entries) (those (number_in_force p.entries) ts)
  below ts i j = let t = in_those (number_in_force p.entries) ts i j in force_within p.entries t.0 i t.2

  -- So are those to which a node refers.
  pub numbers_below : (ts : List (ℕ × ℕ)) (xs : List ℕ) (n : ℕ) → xs ≡ those (number_in_force p.entries) ts → n ≡ length p.entries → All (λ x. x < n) xs
  numbers_below ts xs n e l = All-from_recursion (λ x. x < n) xs (each xs (λ i j. (let b = below ts i (subst (λ z. In z i) e j) in omega (arith, b, l))))
    where
      each : (xs : List ℕ) → AllBelow n xs → AllByRecursion (λ x. x < n) xs
      each [] b = tt
      each (x ∷ xs) b = (b x (inl refl), each xs (λ i j. b i (inr j)))

  -- The numbers that are noted for an event.
  pub event_numbers : (o : Option EventAt) (xs : List ℕ) → Some xs ≡ option_map (λ e. node_entries p.entries p.classes p.bytes e.node) o
      → xs ≡ those (number_in_force p.entries) (flat_map (λ e. targets p.classes p.bytes e.node) (option_to_list o))
  event_numbers None xs q = cc
  event_numbers (Some e) xs q =
      let all : List (ℕ × ℕ) = targets p.classes p.bytes e.node in
      let y : xs ≡ those (number_in_force p.entries) all = cc in
      y ∙ ap (those (number_in_force p.entries)) (sym (append-nil all))

  -- The entries to which an event refers are those to which a list with this event does.
  pub event_roots : (o : Option EventAt) (e : EventAt) → Some e ≡ o → those (number_in_force p.entries) (node_targets_but stops p e.node) ≡ roots_but stops p (option_to_list o)
  event_roots o e q = sym (ap (those (number_in_force p.entries)) (append-nil (event_targets e))) ∙ ap (λ o. roots_but stops p (option_to_list o)) q

  next_below : (j : ℕ) → AllBelow (length p.entries) (next_but stops p j)
  next_below j = below (option_map_or (λ e. node_targets_but stops p (entry_node e)) (slice_get p.entries j) [])

  module _ (kept : List EventAt) where
    roots_below : AllBelow (length p.entries) (roots_but stops p kept)
    roots_below = below (flat_map event_targets kept)

    -- There is a mark for each entry.
    pub marks_size : length (marks_but stops p kept) ≡ length p.entries
    unfolding marks_but
    marks_size =
        swept_size (next_but stops p) (length p.entries) (marked_at (replicate (length p.entries) false) (roots_but stops p kept))
        ∙ (all_size (replicate (length p.entries) false) (roots_but stops p kept) ∙ length-replicate (length p.entries) false)

    -- What holds before each round of the loop over marked entries, after the events. No steps are counted.
    abbrev pub Going : List Bool → List ℕ → ℕ → Type 0
    Going f o at = Walking (length p.entries) (next_but stops p) (roots_but stops p kept) (λ i. 0) 0 f o at 0

    pub going_starts : (a b : Worklist) → a.flags.items ≡ replicate (length p.entries) false → a.order.items ≡ [] → Puts (roots_but stops p kept) a b → Going b.flags.items b.order.items 0
    going_starts a b f o q =
        started (length p.entries) (next_but stops p) (roots_but stops p kept) (λ i. 0) roots_below next_below 0 0 b.flags.items b.order.items
        (q.marks ∙ ap (λ v. marked_at v (roots_but stops p kept)) f)
        (q.order ∙ (ap (λ v. ordered_all v a.order.items (roots_but stops p kept)) f ∙ ap (λ v. ordered_all (replicate (length p.entries) false) v (roots_but stops p kept)) o)) (omega arith)

    pub going_on : (a b : Worklist) (at j : ℕ) → at < length a.order.items → Going a.flags.items a.order.items at → j ≡ slice_index a.order.items at → Puts (next_but stops p j) a b
        → Going b.flags.items b.order.items (at + 1)
    going_on a b at j h w e q =
        went_on (length p.entries) (next_but stops p) (roots_but stops p kept) (λ i. 0) roots_below next_below 0 a.flags.items b.flags.items a.order.items b.order.items at 0 0 j h w e q.marks q.order
        (omega arith)

    pub going_ends : (a : Worklist) (at : ℕ) → length a.order.items ≤ at → Going a.flags.items a.order.items at → a.flags.items ≡ marks_but stops p kept
    unfolding marks_but
    going_ends a at h w =
        let e = walking_ends (length p.entries) (next_but stops p) (roots_but stops p kept) (λ i. 0) 0 a.flags.items a.order.items at 0 h w in
        let m = marks_reach (length p.entries) (next_but stops p) (roots_but stops p kept) roots_below next_below in
        same_flags a.flags.items (swept (length p.entries) (next_but stops p) (marked_at (replicate (length p.entries) false) (roots_but stops p kept))) (e.size ∙ sym marks_size)
        (λ i. ((λ k. (m i).1 ((e.exact i).0 k)), (λ k. (e.exact i).1 ((m i).0 k))))

    -- The entries that are marked are those that are left.
    pub left_are : (flags : List Bool) (es left : List EntryAt) → flags ≡ marks_but stops p kept → es ≡ p.entries → left ≡ marked flags es → left ≡ remain_but stops p kept
    unfolding remain_but
    left_are flags es left f e l = l ∙ (ap (λ z. marked z es) f ∙ ap (marked (marks_but stops p kept)) e)
