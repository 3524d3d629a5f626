-- The keys that are used are those of the computed list, and the new keys are what they should be.
use Rattle.std.specs.Prelude.{◌≡◌, ◌↔◌, ◌⊎◌, ℕ, zero, suc, Bool, true, false, List, [], ◌∷◌, ◌++◌, map, slice_get, Some}
use Rattle.std.proofs.Common.{ap, refl, sym, ◌∙◌, subst, inl, inr}
use Rattle.jfr_value.specs.declared.node.Step.TheVariants as steps
use Rattle.jfr_value.specs.Values.{Value}
use Rattle.jfr_value.specs.Nodes.{NodeAt, IsNode, targets}
use Rattle.jfr_pool.specs.declared.entry.EntryAt.{EntryAt}
use Rattle.jfr_pool.specs.Entries.{in_force, entry_node}
use Rattle.jfr_pool.specs.Laws.{IsLast}
use Rattle.jfr_pool.proofs.OneLaws.{last_is}
use Rattle.jfr_chunk.specs.Parts.{Parts, EventAt}
use Rattle.jfr_worklist.specs.Marks.{IsMarked}
use Rattle.jfr_chunk.specs.Reach.{Reached, Used, all_targets, nodes_of, reached_marks, marked, remain}
use Rattle.jfr_worklist.specs.Members.{In}
use Rattle.jfr_worklist.proofs.Members.{contains_in, in_contains, in_left, in_right, in_cases}
use Rattle.jfr_pool.proofs.ForceLaws.{Forced, forced, numbered}
use Rattle.jfr_chunk.proofs.PathLaws.{HasNodes}
use Rattle.jfr_chunk.proofs.ReachLaws.{leads_on, target_path, reach_least}
use Rattle.jfr_chunk.proofs.ReachedLaws.{reached_marked}
use Rattle.jfr_laws.proofs.Listed.{in_map, map_in}
use Rattle.jfr_renumber.specs.Renumber.{used_keys, together, new_key, pair_of}
use Rattle.jfr_renumber.specs.Meaning.{AreNewKeys, IsInOrder}
use Rattle.jfr_renumber.proofs.KeyLaws.{number_most, number_same, number_apart, number_dense, number_order}
use Rattle.jfr_renumber.proofs.TogetherLaws.{together_is}

-- A marked member is a member that is marked.
pub record Marked {X : Type 0} (ms : List Bool) (xs : List X) (x : X) : Type 0 where
  pub place : ℕ
  pub is_so : IsMarked ms place
  pub holds : slice_get xs place ≡ Some x

pub in_marked : {X : Type 0} (ms : List Bool) (xs : List X) (x : X) → In (marked ms xs) x → Marked ms xs x
in_marked [] xs x i = absurd i
in_marked (m ∷ ms) [] x i = absurd i
in_marked (true ∷ ms) (y ∷ xs) x (inl e) = record { place = 0; is_so = refl; holds = ap (λ z. Some z) e }
in_marked (true ∷ ms) (y ∷ xs) x (inr i) = let r = in_marked ms xs x i in record { place = suc r.place; is_so = r.is_so; holds = r.holds }
in_marked (false ∷ ms) (y ∷ xs) x i = let r = in_marked ms xs x i in record { place = suc r.place; is_so = r.is_so; holds = r.holds }

pub marked_in : {X : Type 0} (ms : List Bool) (xs : List X) (x : X) (i : ℕ) → IsMarked ms i → slice_get xs i ≡ Some x → In (marked ms xs) x
marked_in [] xs x i m e = let z : false ≡ true = m in cc
marked_in (m ∷ ms) [] x i k e = cc
marked_in (true ∷ ms) (y ∷ xs) x zero k e = inl (let h : Some y ≡ Some x = e in cc)
marked_in (false ∷ ms) (y ∷ xs) x zero k e = let z : false ≡ true = k in cc
marked_in (true ∷ ms) (y ∷ xs) x (suc i) k e = inr (marked_in ms xs x i k e)
marked_in (false ∷ ms) (y ∷ xs) x (suc i) k e = marked_in ms xs x i k e

-- Nodes refer to exactly the targets that one of them refers to.
module _ (p : Parts) where
  pub node_in : (ns : List NodeAt) (n : NodeAt) (t : ℕ × ℕ) → In ns n → In (targets p.classes p.bytes n) t → In (all_targets p ns) t
  node_in [] n t i j = absurd i
  node_in (m ∷ ns) n t (inl q) j = in_left (targets p.classes p.bytes m) (all_targets p ns) t (subst (λ z. In (targets p.classes p.bytes z) t) (sym q) j)
  node_in (m ∷ ns) n t (inr i) j = in_right (targets p.classes p.bytes m) (all_targets p ns) t (node_in ns n t i j)

  pub in_nodes : (ns : List NodeAt) (t : ℕ × ℕ) → In (all_targets p ns) t → (n : NodeAt) × In ns n × In (targets p.classes p.bytes n) t
  in_nodes [] t i = absurd i
  in_nodes (m ∷ ns) t i = by_case (in_cases (targets p.classes p.bytes m) (all_targets p ns) t i) (λ j. in_nodes ns t j)
    where
      by_case : In (targets p.classes p.bytes m) t ⊎ In (all_targets p ns) t → (In (all_targets p ns) t → (n : NodeAt) × In ns n × In (targets p.classes p.bytes n) t)
          → (n : NodeAt) × In (m ∷ ns) n × In (targets p.classes p.bytes n) t
      by_case (inl j) g = (m, inl refl, j)
      by_case (inr j) g = let r = g j in (r.0, inr r.1, r.2)

pub in_events : (es : List EventAt) (n : NodeAt) → In (nodes_of es) n → (e : EventAt) × In es e × (e.node ≡ n)
in_events [] n i = absurd i
in_events (e ∷ es) n (inl q) = (e, inl refl, q)
in_events (e ∷ es) n (inr i) = let r = in_events es n i in (r.0, inr r.1, r.2)

pub event_in : (es : List EventAt) (e : EventAt) → In es e → In (nodes_of es) e.node
event_in [] e i = absurd i
event_in (f ∷ es) e (inl q) = inl (ap (λ (z : EventAt). z.node) q)
event_in (f ∷ es) e (inr i) = inr (event_in es e i)

module _ (p : Parts) (s : HasNodes p) (kept : List EventAt) (nodes : (e : EventAt) → In kept e → (v : Value) × IsNode p.classes p.bytes e.node v) where
  reached_is : (i : ℕ) → Reached p kept i ↔ IsMarked (reached_marks p kept) i
  reached_is = reached_marked p s kept nodes

  -- What is used and has an entry in force remains.
  pub used_remains : (t : ℕ × ℕ) (e : EntryAt) → Used p kept t → in_force p.entries t ≡ Some e → In (remain p kept) e
  unfolding remain
  used_remains t e u q =
      let n = numbered p.entries t e q in
      let r : Reached p kept n.number = record { event = u.event; is_kept = u.is_kept; path = u.path; node = u.node; leads_there = u.leads_there; key = t; refers = u.refers; in_force = n.forced } in
      marked_in (reached_marks p kept) p.entries e n.number ((reached_is n.number).0 r) n.there

  -- And what remains is used and in force.
  pub record Remaining (e : EntryAt) : Type 0 where
    pub used : Used p kept (pair_of e)
    pub is_forced : in_force p.entries (pair_of e) ≡ Some e
    pub value : Value
    pub node : IsNode p.classes p.bytes (entry_node e) value

  remaining : (e : EntryAt) (i : ℕ) → slice_get p.entries i ≡ Some e → Reached p kept i → Remaining e
  remaining e i g r = by_last ((last_is p.entries r.key i).0 r.in_force) (forced p.entries r.key i r.in_force)
    where
      by_last : IsLast p.entries r.key i → Forced p.entries r.key i → Remaining e
      by_last l f =
          let h : l.entry ≡ e = (let x : slice_get p.entries i ≡ Some l.entry = l.holds in cc) in
          let k : f.entry ≡ e = (let x : slice_get p.entries i ≡ Some f.entry = f.there in cc) in
          let q : r.key ≡ pair_of e = sym l.has ∙ ap pair_of h in
          let d : in_force p.entries r.key ≡ Some e = f.is ∙ ap (λ z. Some z) k in
          let v = s.entries r.key e d in
          record {
            used = subst (Used p kept) q (record { event = r.event; is_kept = r.is_kept; path = r.path; node = r.node; leads_there = r.leads_there; refers = r.refers });
            is_forced = subst (λ z. in_force p.entries z ≡ Some e) q d;
            value = v.0;
            node = v.1;
          }

  pub remains_used : (e : EntryAt) → In (remain p kept) e → Remaining e
  unfolding remain
  remains_used e i = let m = in_marked (reached_marks p kept) p.entries e i in remaining e m.place m.holds ((reached_is m.place).1 m.is_so)

  -- The list has what is used, and nothing else.
  pub in_used : (t : ℕ × ℕ) → In (used_keys p kept) t → Used p kept t
  unfolding used_keys
  in_used t i = by_node (in_nodes p (nodes_of kept ++ map entry_node (remain p kept)) t i)
    where
      by_event : (n : NodeAt) → In (targets p.classes p.bytes n) t → (e : EventAt) × In kept e × (e.node ≡ n) → Used p kept t
      by_event n j (e, k, q) =
          let v = nodes e k in
          let a = target_path p s e.node v.0 t v.1 (in_contains (targets p.classes p.bytes e.node) t (subst (λ z. In (targets p.classes p.bytes z) t) (sym q) j)) in
          record { event = e; is_kept = in_contains kept e k; path = a.0; node = a.1; leads_there = a.2; refers = a.3 }

      beyond : (e : EntryAt) → Remaining e → In (targets p.classes p.bytes (entry_node e)) t → Used p kept t
      beyond e r j =
          let u = r.used in
          let a = target_path p s (entry_node e) r.value t r.node (in_contains (targets p.classes p.bytes (entry_node e)) t j) in
          record {
            event = u.event;
            is_kept = u.is_kept;
            path = u.path ++ (steps.Follow ∷ a.0);
            node = a.1;
            leads_there = leads_on p s u.event.node u.node a.1 (pair_of e) e u.path a.0 u.leads_there u.refers r.is_forced a.2;
            refers = a.3;
          }

      by_entry : (n : NodeAt) → In (targets p.classes p.bytes n) t → (e : EntryAt) × In (remain p kept) e × (entry_node e ≡ n) → Used p kept t
      by_entry n j (e, k, q) = beyond e (remains_used e k) (subst (λ z. In (targets p.classes p.bytes z) t) (sym q) j)

      by_case : (n : NodeAt) → In (targets p.classes p.bytes n) t → In (nodes_of kept) n ⊎ In (map entry_node (remain p kept)) n → Used p kept t
      by_case n j (inl k) = by_event n j (in_events kept n k)
      by_case n j (inr k) = by_entry n j (map_in entry_node (remain p kept) n k)

      by_node : (n : NodeAt) × In (nodes_of kept ++ map entry_node (remain p kept)) n × In (targets p.classes p.bytes n) t → Used p kept t
      by_node (n, k, j) = by_case n j (in_cases (nodes_of kept) (map entry_node (remain p kept)) n k)

  pub event_used : (e : EventAt) (t : ℕ × ℕ) → In kept e → In (targets p.classes p.bytes e.node) t → In (used_keys p kept) t
  unfolding used_keys
  event_used e t i j = node_in p (nodes_of kept ++ map entry_node (remain p kept)) e.node t (in_left (nodes_of kept) (map entry_node (remain p kept)) e.node (event_in kept e i)) j

  pub entry_used : (e : EntryAt) (t : ℕ × ℕ) → In (remain p kept) e → In (targets p.classes p.bytes (entry_node e)) t → In (used_keys p kept) t
  unfolding used_keys
  entry_used e t i j =
      node_in p (nodes_of kept ++ map entry_node (remain p kept)) (entry_node e) t (in_right (nodes_of kept) (map entry_node (remain p kept)) (entry_node e) (in_map entry_node (remain p kept) e i)) j

  pub used_in : (t : ℕ × ℕ) → Used p kept t → In (used_keys p kept) t
  used_in t u =
      let k = contains_in kept u.event u.is_kept in
      let v = nodes u.event k in
      reach_least p s (In (used_keys p kept))
      (λ t w e a q c. entry_used e w (used_remains t e (in_used t a) q) (contains_in (targets p.classes p.bytes (entry_node e)) w c))
      u.path u.event.node u.node v.0 t v.1
      (λ w c. event_used u.event w k (contains_in (targets p.classes p.bytes u.event.node) w c))
      u.leads_there u.refers

  -- The new keys are below the old ones, equal exactly within a group, and dense.
  pub new_keys : AreNewKeys p kept (new_key p kept)
  unfolding new_key
  new_keys = record {
    most = number_most (together p) (together_is p) (used_keys p kept);
    groups = λ t u i j c. (
      λ e. number_apart (together p) (together_is p) (used_keys p kept) t u (used_in t i) (used_in u j) c e,
      λ e. number_same (together p) (together_is p) (used_keys p kept) t u
          (used_in t i) (used_in u j) e,
    );
    dense = λ t n i h. (let d = number_dense (together p) (together_is p) (used_keys p kept) t n h in (d.0, in_used d.0 d.1, d.2, d.3));
  }

  -- They are in the order of the smallest keys of the groups.
  pub keys_rise : IsInOrder p kept (new_key p kept)
  unfolding new_key
  keys_rise = λ t u i j c below. number_order (together p) (together_is p) (used_keys p kept) t u (used_in t i) (used_in u j) c (λ v k e. below v (in_used v k) e)
