-- The loop over the events.
use Rattle.std.specs.Prelude.{◌≡◌, ℕ, zero, suc, ◌+◌, ◌<◌, ◌≤◌, Bool, true, false, List, [], ◌∷◌, ◌++◌, length, drop, slice_get, Option, Some, None, option_map, option_to_list, if◌then◌else◌}
use Rattle.std.specs.List.{AllByRecursion, list_all}
use Rattle.std.proofs.Common.{ap, arith, refl, sym, ◌∙◌, inl, inr, subst}
use Rattle.std.proofs.lemmas.List.{append-nil, length-append}
use Rattle.jfr_value.specs.Nodes.{targets}
use Rattle.jfr_pool.specs.Entries.{number_in_force}
use Rattle.jfr_chunk.specs.Parts.{Parts, EventAt, AreParts, events_of}
use Rattle.jfr_worklist.specs.Marks.{those, marked_at}
use Rattle.jfr_chunk.specs.Reach.{node_entries, all_targets, nodes_of, roots, marked, kept_by}
use Rattle.jfr_chunk.proofs.CountLaws.{references_few}
use Rattle.jfr_worklist.specs.Members.{In}
use Rattle.jfr_worklist.proofs.Members.{those_append, get_in}
use Rattle.jfr_worklist.proofs.MarkLaws.{all_append, all_size}
use Rattle.jfr_worklist.proofs.PuttingLaws.{ordered_append}
use Rattle.jfr_chunk.proofs.HasNodesLaws.{event_is, has_nodes}
use Rattle.jfr_worklist.proofs.SweepLaws.{AllBelow}
use Rattle.jfr_worklist.specs.Worklists.{ordered_all}
use Rattle.jfr_reach.specs.Walks.{event_leaves, node_leaves}
use Rattle.jfr_reach.proofs.EntryWalk.{roots_below}
use Rattle.jfr_chunk.proofs.RootLaws.{roots_append}

entries_few : (p : Parts) → AreParts p → (e : EventAt) → In (events_of p) e → length (node_entries p.entries p.classes p.bytes e.node) ≤ node_leaves p e.node
entries_few p parts e i = let v = event_is p parts e i in references_few p.classes (has_nodes p parts).sound p.bytes p.entries e.node v.value v.node

-- The entries to which the event with this number refers.
pub record EventEntries (p : Parts) (i : ℕ) (numbers : List ℕ) : Type 0 where
  pub roots_are : numbers ≡ roots p (option_to_list (slice_get (events_of p) i))
  pub below : AllByRecursion (λ n. n < length p.entries) numbers
  pub few : length numbers ≤ event_leaves p (option_to_list (slice_get (events_of p) i))

below_all : (n : ℕ) (xs : List ℕ) → AllBelow n xs → AllByRecursion (λ x. x < n) xs
below_all n [] h = tt
below_all n (x ∷ xs) h = (h x (inl refl), below_all n xs (λ i k. h i (inr k)))

pub event_entries : (p : Parts) → AreParts p → (i : ℕ) (numbers : List ℕ) → Some numbers ≡ option_map (λ (e : EventAt). node_entries p.entries p.classes p.bytes e.node) (slice_get (events_of p) i)
    → EventEntries p i numbers
event_entries p parts i numbers h = by_event (slice_get (events_of p) i) refl h
  where
    by_event : (o : Option EventAt) → slice_get (events_of p) i ≡ o → Some numbers ≡ option_map (λ (e : EventAt). node_entries p.entries p.classes p.bytes e.node) o → EventEntries p i numbers
    by_event None q h = cc
    by_event (Some e) q h =
        let x : numbers ≡ node_entries p.entries p.classes p.bytes e.node = cc in
        let r : numbers ≡ roots p (e ∷ []) = x ∙ ap (those (number_in_force p.entries)) (sym (append-nil (targets p.classes p.bytes e.node))) in
        let a = entries_few p parts e (get_in (events_of p) i e q) in
        let l = ap length x in
        let m = ap (λ o. event_leaves p (option_to_list o)) q in
        record {
          roots_are = r ∙ ap (λ o. roots p (option_to_list o)) (sym q);
          below = below_all (length p.entries) numbers (subst (AllBelow (length p.entries)) (sym r) (roots_below p (e ∷ [])));
          few = omega arith;
        }

pub no_event : (p : Parts) (i : ℕ) → None ≡ option_map (λ (e : EventAt). node_entries p.entries p.classes p.bytes e.node) (slice_get (events_of p) i) → slice_get (events_of p) i ≡ None
no_event p i h = by_event (slice_get (events_of p) i) h
  where
    by_event : (o : Option EventAt) → None ≡ option_map (λ (e : EventAt). node_entries p.entries p.classes p.bytes e.node) o → o ≡ None
    by_event None h = refl
    by_event (Some e) h = cc

no_events : (keep : List Bool) → marked {X = EventAt} keep [] ≡ []
no_events [] = refl
no_events (k ∷ keep) = refl

-- The event with a number, if it is kept.
abbrev one_kept : Bool → List EventAt → ℕ → List EventAt
one_kept keep es i = if keep then option_to_list (slice_get es i) else []

-- Events from a place on.
from_place : (keep : List Bool) (es : List EventAt) (i : ℕ) (k : Bool) → slice_get keep i ≡ Some k → marked (drop i keep) (drop i es) ≡ one_kept k es i ++ marked (drop (suc i) keep) (drop (suc i) es)
from_place [] es i k h = cc
from_place (b ∷ keep) [] zero true h = sym (no_events keep)
from_place (b ∷ keep) [] zero false h = sym (no_events keep)
from_place (true ∷ keep) (e ∷ es) zero true h = refl
from_place (false ∷ keep) (e ∷ es) zero false h = refl
from_place (true ∷ keep) (e ∷ es) zero false h = cc
from_place (false ∷ keep) (e ∷ es) zero true h = cc
from_place (b ∷ keep) [] (suc i) true h = no_events (drop i keep) ∙ sym (no_events (drop (suc i) keep))
from_place (b ∷ keep) [] (suc i) false h = no_events (drop i keep) ∙ sym (no_events (drop (suc i) keep))
from_place (b ∷ keep) (e ∷ es) (suc i) k h = from_place keep es i k h

none_from : (keep : List Bool) (es : List EventAt) (i : ℕ) → length keep ≤ i → marked (drop i keep) (drop i es) ≡ []
none_from [] es zero h = refl
none_from [] es (suc i) h = refl
none_from (k ∷ keep) es zero h = absurd (omega arith)
none_from (k ∷ keep) [] (suc i) h = no_events (drop i keep)
none_from (k ∷ keep) (e ∷ es) (suc i) h = none_from keep es i (omega arith)

leaves_append : (p : Parts) (xs ys : List EventAt) → event_leaves p (xs ++ ys) ≡ event_leaves p xs + event_leaves p ys
leaves_append p [] ys = omega arith
leaves_append p (x ∷ xs) ys = let i = leaves_append p xs ys in omega arith

-- The events that are left make of flags and order what all events make of those before.
pub record EventsLeft (p : Parts) (keep flags : List Bool) (order : List ℕ) (steps : ℕ) (f : List Bool) (o : List ℕ) (i s : ℕ) : Type 0 where
  pub size : length f ≡ length p.entries
  pub flags_left : marked_at f (roots p (marked (drop i keep) (drop i (events_of p)))) ≡ marked_at flags (roots p (kept_by p keep))
  pub order_left : ordered_all f o (roots p (marked (drop i keep) (drop i (events_of p)))) ≡ ordered_all flags order (roots p (kept_by p keep))
  pub cost : s + event_leaves p (marked (drop i keep) (drop i (events_of p))) ≤ steps + event_leaves p (kept_by p keep)

module _ (p : Parts) (keep flags : List Bool) (order : List ℕ) (steps : ℕ) where
  pub events_next : (f g : List Bool) (o q : List ℕ) (i s t : ℕ) (k : Bool) → slice_get keep i ≡ Some k → EventsLeft p keep flags order steps f o i s
      → g ≡ marked_at f (roots p (one_kept k (events_of p) i)) → q ≡ ordered_all f o (roots p (one_kept k (events_of p) i))
      → t ≤ s + event_leaves p (one_kept k (events_of p) i) → EventsLeft p keep flags order steps g q (i + 1) t
  events_next f g o q i s t k h w x y z =
      let here : List EventAt = one_kept k (events_of p) i in
      let later : List EventAt = marked (drop (suc i) keep) (drop (suc i) (events_of p)) in
      let e : marked (drop i keep) (drop i (events_of p)) ≡ one_kept k (events_of p) i ++ marked (drop (suc i) keep) (drop (suc i) (events_of p)) = from_place keep (events_of p) i k h in
      let u : roots p (marked (drop i keep) (drop i (events_of p))) ≡ roots p here ++ roots p later = ap (roots p) e ∙ roots_append p here later in
      let l : event_leaves p (marked (drop i keep) (drop i (events_of p))) ≡ event_leaves p here + event_leaves p later = ap (event_leaves p) e ∙ leaves_append p here later in
      let c = w.cost in
      let n : suc i ≡ i + 1 = omega arith in
      subst (λ m. EventsLeft p keep flags order steps g q m t) n (record {
        size = ap length x ∙ (all_size f (roots p here) ∙ w.size);
        flags_left = ap (λ v. marked_at v (roots p later)) x ∙ (sym (ap (marked_at f) u ∙ all_append f (roots p here) (roots p later)) ∙ w.flags_left);
        order_left = ap (λ v. ordered_all g v (roots p later)) y
            ∙ (ap (λ v. ordered_all v (ordered_all f o (roots p here)) (roots p later)) x ∙ (sym (ap (ordered_all f o) u ∙ ordered_append f o (roots p here) (roots p later)) ∙ w.order_left));
        cost = omega arith;
      })

-- Where all are kept, the kept events are all.
all_marked : {X : Type 0} (keep : List Bool) (xs : List X) → list_all (λ k. k) keep ≡ true → length keep ≡ length xs → marked keep xs ≡ xs
all_marked [] [] a l = refl
all_marked [] (x ∷ xs) a l = cc
all_marked (k ∷ keep) [] a l = cc
all_marked (true ∷ keep) (x ∷ xs) a l = ap (λ z. x ∷ z) (all_marked keep xs a (omega (arith, l)))
all_marked (false ∷ keep) (x ∷ xs) a l = cc

all_few : (p : Parts) → AreParts p → (es : List EventAt) → ((e : EventAt) → In es e → In (events_of p) e) → length (roots p es) ≤ event_leaves p es
all_few p parts [] i = omega arith
all_few p parts (e ∷ es) i =
    let h = entries_few p parts e (i e (inl refl)) in
    let t = all_few p parts es (λ x k. i x (inr k)) in
    let l = ap length (those_append (number_in_force p.entries) (targets p.classes p.bytes e.node) (all_targets p (nodes_of es))) in
    let m = length-append (node_entries p.entries p.classes p.bytes e.node) (roots p es) in
    omega arith

-- The entries to which the events refer, if all are kept.
pub record AllEntries (p : Parts) (keep : List Bool) (numbers : List ℕ) : Type 0 where
  pub roots_are : numbers ≡ roots p (kept_by p keep)
  pub below : AllByRecursion (λ n. n < length p.entries) numbers
  pub few : length numbers ≤ event_leaves p (kept_by p keep)

pub all_entries : (p : Parts) → AreParts p → (keep : List Bool) (numbers : List ℕ) → list_all (λ k. k) keep ≡ true → length keep ≡ length (events_of p) → numbers ≡ roots p (events_of p)
    → AllEntries p keep numbers
all_entries p parts keep numbers a l e =
    let k : kept_by p keep ≡ events_of p = all_marked keep (events_of p) a l in
    let f = all_few p parts (events_of p) (λ e i. i) in
    let m = ap length e in
    record {
      roots_are = e ∙ ap (roots p) (sym k);
      below = below_all (length p.entries) numbers (subst (AllBelow (length p.entries)) (sym e) (roots_below p (events_of p)));
      few = subst (λ es. length numbers ≤ event_leaves p es) (sym k) (omega arith);
    }
