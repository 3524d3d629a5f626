-- The computed marks have exactly the entries that paths reach that go no further where Follow stops.
use Rattle.std.specs.Prelude.{◌≡◌, ◌↔◌, ℕ, Bool, true, false, List, [], ◌∷◌, ◌++◌, length, slice_get, Contains, Option, Some, None, option_and_then, if◌then◌else◌, ◌⊎◌}
use Rattle.std.specs.List.{flat_map}
use Rattle.std.specs.Option.{option_map, option_map_or}
use Rattle.std.proofs.Common.{ap, refl, sym, ◌∙◌, subst, inl, inr}
use Rattle.jfr_value.specs.declared.leaf.Holder.{Holder}
use Rattle.jfr_value.specs.declared.node.Step.{Step}
use Rattle.jfr_value.specs.declared.node.Step.TheVariants as steps
use Rattle.jfr_value.specs.Values.{Value, Single, Group, own_target, shape_of, targets_of}
use Rattle.jfr_value.specs.Nodes.{NodeAt, IsNode, Both, child, target, value_of}
use Rattle.jfr_value.proofs.NodeLaws.{part, child_is, target_is, value_is}
use Rattle.jfr_value.proofs.TargetLaws.{within, within_in, in_within}
use Rattle.jfr_pool.specs.declared.entry.EntryAt.{EntryAt}
use Rattle.jfr_pool.specs.Entries.{number_in_force, in_force, entry_node}
use Rattle.jfr_pool.proofs.ForceLaws.{forced, numbered}
use Rattle.jfr_worklist.specs.Marks.{those, IsMarked}
use Rattle.jfr_worklist.specs.Members.{In}
use Rattle.jfr_worklist.proofs.Members.{contains_in, in_contains, in_cases, in_left, in_right, those_in, in_those}
use Rattle.jfr_worklist.proofs.SweepLaws.{Reach, root, more, AllBelow, marks_reach}
use Rattle.jfr_chunk.specs.Parts.{Parts, EventAt}
use Rattle.jfr_chunk.specs.Paths.{leads, step}
use Rattle.jfr_chunk.specs.Reach.{Reached}
use Rattle.jfr_chunk.proofs.PathLaws.{HasNodes}
use Rattle.jfr_rewrite.specs.Changed.{changed, plain, single_of}
use Rattle.jfr_rewrite.specs.Paths as paths
use Rattle.jfr_rewrite.specs.Paths.{Held, MarksMet, MarksOnlyMet, Met, Stops, held_after, leads_but, node_after, target_but}
use Rattle.jfr_rewrite.proofs.ChangeLaws.{stepped, changed_part}
use Rattle.jfr_mask.specs.ReachBut.{unkeyed, targets_but, node_targets_but, roots_but, next_but, marks_but}

some_to : {A B : Type 0} (R : A → B → Type 0) (x : Option A) (y : Option B) (a : A) → Both R x y → x ≡ Some a → (b : B) × (y ≡ Some b) × R a b
some_to R None None a r e = cc
some_to R (Some c) (Some b) a r e = let h : c ≡ a = cc in (b, refl, subst (λ z. R z b) h r)
some_to R None (Some c) a r e = absurd r
some_to R (Some c) None a r e = absurd r

some_from : {A B : Type 0} (R : A → B → Type 0) (x : Option A) (y : Option B) (b : B) → Both R x y → y ≡ Some b → (a : A) × (x ≡ Some a) × R a b
some_from R None None b r e = cc
some_from R (Some a) (Some c) b r e = let h : c ≡ b = cc in (a, refl, subst (R a) h r)
some_from R None (Some c) b r e = absurd r
some_from R (Some a) None b r e = absurd r

in_flat : {A B : Type 0} (f : A → List B) (xs : List A) (t : B) → In (flat_map f xs) t → (x : A) × In xs x × In (f x) t
in_flat f [] t i = absurd i
in_flat {A = A} {B = B} f (y ∷ xs) t i = by_case (in_cases (f y) (flat_map f xs) t i) (in_flat f xs t)
  where
    by_case : In (f y) t ⊎ In (flat_map f xs) t → (In (flat_map f xs) t → (x : A) × In xs x × In (f x) t) → (x : A) × In (y ∷ xs) x × In (f x) t
    by_case (inl j) g = (y, inl refl, j)
    by_case (inr j) g = let r = g j in (r.0, inr r.1, r.2)

flat_in : {A B : Type 0} (f : A → List B) (xs : List A) (x : A) (t : B) → In xs x → In (f x) t → In (flat_map f xs) t
flat_in f [] x t i j = absurd i
flat_in f (y ∷ xs) x t (inl q) j = in_left (f y) (flat_map f xs) t (subst (λ z. In (f z) t) (sym q) j)
flat_in f (y ∷ xs) x t (inr i) j = in_right (f y) (flat_map f xs) t (flat_in f xs x t i j)

-- What an unkeyed value itself refers to.
own_unkeyed : (stops : Stops) (h : Option Holder) (v : Value) → own_target (changed (unkeyed stops) h v) ≡ (if stops h v then None else own_target v)
own_unkeyed stops h (Single s kind b key) = by_stop (stops h (Single s kind b key))
  where
    by_stop : (t : Bool) → own_target (single_of s (if t then plain kind b None else plain kind b key)) ≡ (if t then None else option_map (λ k. (s.class, k)) key)
    by_stop true = refl
    by_stop false = refl
own_unkeyed stops h (Group s head vs) = by_stop (stops h (Group s head vs))
  where
    none : Option (ℕ × ℕ)
    none = None

    by_stop : (t : Bool) → none ≡ (if t then none else none)
    by_stop true = refl
    by_stop false = refl

-- An entry with this number is in force for a class and a key that are met.
record ReachedBut (stops : Stops) (p : Parts) (kept : List EventAt) (number : ℕ) : Type 0 where
  key : ℕ × ℕ
  met : Met stops p kept key
  in_force : number_in_force p.entries key ≡ Some number

module _ (stops : Stops) (p : Parts) where
  -- A path that goes no further where Follow stops is a path.
  target_too : (n : Held) (t : ℕ × ℕ) → target_but stops p n ≡ Some t → target p.classes p.bytes n.node ≡ Some t
  target_too n t e = by_stop (option_map_or (stops n.holder) (value_of p.classes p.bytes n.node) false) e
    where
      by_stop : (b : Bool) → (if b then None else target p.classes p.bytes n.node) ≡ Some t → target p.classes p.bytes n.node ≡ Some t
      by_stop true e = cc
      by_stop false e = e

  -- What follows a node, where Follow doesn't stop.
  record Followed (n : Held) (m : NodeAt) : Type 0 where
    key : ℕ × ℕ
    entry : EntryAt
    refers : target_but stops p n ≡ Some key
    force : in_force p.entries key ≡ Some entry
    is : entry_node entry ≡ m

  followed : (n : Held) (m : NodeAt) → node_after stops p n steps.Follow ≡ Some m → Followed n m
  followed n m e = by_target (target_but stops p n) refl e
    where
      by_entry : (t : ℕ × ℕ) (o : Option EntryAt) → target_but stops p n ≡ Some t → in_force p.entries t ≡ o → option_map entry_node o ≡ Some m → Followed n m
      by_entry t None q r e = cc
      by_entry t (Some f) q r e = record { key = t; entry = f; refers = q; force = r; is = (let h : entry_node f ≡ m = cc in h) }

      by_target : (o : Option (ℕ × ℕ)) → target_but stops p n ≡ o → option_and_then (λ t. option_map entry_node (in_force p.entries t)) o ≡ Some m → Followed n m
      by_target None q e = cc
      by_target (Some t) q e = by_entry t (in_force p.entries t) q refl e

  after_target : (n : Held) (t : ℕ × ℕ) (e : EntryAt) → target_but stops p n ≡ Some t → in_force p.entries t ≡ Some e → node_after stops p n steps.Follow ≡ Some (entry_node e)
  after_target n t e q f = ap (option_and_then (λ t. option_map entry_node (in_force p.entries t))) q ∙ ap (option_map entry_node) f

  step_too : (n : Held) (st : Step) (m : NodeAt) → node_after stops p n st ≡ Some m → step p n.node st ≡ Some m
  step_too n (steps.Field i) m e = e
  step_too n (steps.Item i) m e = e
  step_too n steps.Follow m e =
      let f : Followed n m = followed n m e in
      ap (option_and_then (λ t. option_map entry_node (in_force p.entries t))) (target_too n f.key f.refers) ∙ (ap (option_map entry_node) f.force ∙ ap Some f.is)

  leads_too : (path : List Step) (n m : Held) → leads_but stops p n path ≡ Some m → leads p n.node path ≡ Some m.node
  leads_too [] n m e = let h : n ≡ m = cc in ap (λ (z : Held). Some z.node) h
  leads_too (st ∷ path) n m e = by_step (node_after stops p n st) refl e (λ k l. leads_too path k m l)
    where
      by_step : (o : Option NodeAt) → node_after stops p n st ≡ o → option_and_then (λ k. leads_but stops p (held_after n st k) path) o ≡ Some m
          → ((k : Held) → leads_but stops p k path ≡ Some m → leads p k.node path ≡ Some m.node) → option_and_then (λ k. leads p k path) (step p n.node st) ≡ Some m.node
      by_step None q l f = cc
      by_step (Some k) q l f = ap (option_and_then (λ k. leads p k path)) (step_too n st k q) ∙ f (held_after n st k) l

  but_append : (a b : List Step) (n : Held) → leads_but stops p n (a ++ b) ≡ option_and_then (λ m. leads_but stops p m b) (leads_but stops p n a)
  but_append [] b n = refl
  but_append (st ∷ a) b n = by_step (node_after stops p n st) (but_append a b)
    where
      by_step : (o : Option NodeAt) → ((m : Held) → leads_but stops p m (a ++ b) ≡ option_and_then (λ m. leads_but stops p m b) (leads_but stops p m a))
          → option_and_then (λ m. leads_but stops p (held_after n st m) (a ++ b)) o ≡ option_and_then (λ m. leads_but stops p m b) (option_and_then (λ m. leads_but stops p (held_after n st m) a) o)
      by_step None h = refl
      by_step (Some m) h = h (held_after n st m)

  -- What is reached so is reached.
  reached_too : (kept : List EventAt) (n : ℕ) → ReachedBut stops p kept n → Reached p kept n
  reached_too kept n r = record {
    event = r.met.event;
    is_kept = r.met.is_kept;
    path = r.met.path;
    node = r.met.node.node;
    leads_there = leads_too r.met.path (paths.root r.met.event.node) r.met.node r.met.leads_there;
    key = r.key;
    refers = target_too r.met.node r.key r.met.refers;
    in_force = r.in_force;
  }

  module _ (s : HasNodes p) (kept : List EventAt) where
    abbrev Found : ℕ → Type 0
    Found i = Reach (next_but stops p) (roots_but stops p kept) i

    abbrev AllFound : ℕ × ℕ → Type 0
    AllFound t = (i : ℕ) → number_in_force p.entries t ≡ Some i → Found i

    abbrev less : Option Holder → Value → Value
    less = changed (unkeyed stops)

    -- What a node refers to, and its unkeyed value does.
    target_less : (n : Held) (v : Value) → IsNode p.classes p.bytes n.node v → target_but stops p n ≡ own_target (less n.holder v)
    target_less n v i =
        ap (λ z. if option_map_or (stops n.holder) z false then None else target p.classes p.bytes n.node) (value_is p.classes p.bytes n.node v s.sound i)
        ∙ (ap (λ z. if stops n.holder v then None else z) (target_is p.classes p.bytes n.node v s.sound i) ∙ sym (own_unkeyed stops n.holder v))

    node_targets : (n : NodeAt) (v : Value) → IsNode p.classes p.bytes n v → node_targets_but stops p n ≡ targets_but stops None v
    node_targets n v i = ap (λ z. option_map_or (targets_but stops None) z []) (value_is p.classes p.bytes n v s.sound i)

    abbrev entry_targets : ℕ → List (ℕ × ℕ)
    entry_targets i = option_map_or (λ e. node_targets_but stops p (entry_node e)) (slice_get p.entries i) []

    closed : (t u : ℕ × ℕ) (e : EntryAt) → AllFound t → in_force p.entries t ≡ Some e → Contains (node_targets_but stops p (entry_node e)) u → AllFound u
    closed t u e a q c i r =
        let n = numbered p.entries t e q in
        let m : In (entry_targets n.number) u = subst (λ o. In (option_map_or (λ e. node_targets_but stops p (entry_node e)) o []) u) (sym n.there)
        (contains_in (node_targets_but stops p (entry_node e)) u c) in
        more (a n.number n.forced) (those_in (number_in_force p.entries) (entry_targets n.number) u i m r)

    -- What a part refers to, the value does.
    part_in : (v u : Value) (st : Step) (t : ℕ × ℕ) → part v st ≡ Some u → Contains (targets_of u) t → Contains (targets_of v) t
    part_in v u st t e c = let r = in_within u t c in within_in (st ∷ r.path) v r.value t (ap (option_and_then _) e ∙ r.leads) r.refers

    less_part : (n : Held) (v u : Value) (st : Step) → IsNode p.classes p.bytes n.node v → part v st ≡ Some u
        → part (less n.holder v) st ≡ Some (less (stepped (unkeyed stops) n.holder n.node.shape st) u)
    less_part n v u st i e =
        changed_part (unkeyed stops) n.holder v st ∙ (ap (λ z. option_map (less (stepped (unkeyed stops) n.holder z st)) (part v st)) (sym i.shape)
        ∙ ap (option_map (less (stepped (unkeyed stops) n.holder n.node.shape st))) e)

    -- All that an unkeyed value refers to is found.
    abbrev AllOf : Option Holder → Value → Type 0
    AllOf h v = (t : ℕ × ℕ) → Contains (targets_but stops h v) t → AllFound t

    own_found : (n : Held) (v : Value) (t : ℕ × ℕ) → IsNode p.classes p.bytes n.node v → AllOf n.holder v → target_but stops p n ≡ Some t → AllFound t
    own_found n v t i all r = all t (within_in [] (less n.holder v) (less n.holder v) t refl (sym (target_less n v i) ∙ r))

    met_from : (path : List Step) (n m : Held) (v : Value) (t : ℕ × ℕ) → IsNode p.classes p.bytes n.node v → AllOf n.holder v → leads_but stops p n path ≡ Some m
        → target_but stops p m ≡ Some t → AllFound t
    met_from [] n m v t i all e r = let h : n ≡ m = cc in own_found n v t i all (subst (λ z. target_but stops p z ≡ Some t) (sym h) r)
    met_from (st ∷ path) n m v t i all e r = by_step st (node_after stops p n st) refl e (λ k b j g l. met_from path k m b t j g l r)
      where
        After : Type 0
        After = (k : Held) (b : Value) → IsNode p.classes p.bytes k.node b → AllOf k.holder b → leads_but stops p k path ≡ Some m → AllFound t

        by_child : (st : Step) (h : Option Holder) (k : NodeAt) → h ≡ stepped (unkeyed stops) n.holder n.node.shape st → child p.classes p.bytes n.node st ≡ Some k
            → leads_but stops p (record { holder = h; node = k }) path ≡ Some m → After → AllFound t
        by_child st h k w c l f =
            let b = some_to (IsNode p.classes p.bytes) (child p.classes p.bytes n.node st) (part v st) k (child_is p.classes p.bytes n.node v s.sound i st) c in
            let q : part (less n.holder v) st ≡ Some (less h b.0) = subst (λ z. part (less n.holder v) st ≡ Some (less z b.0)) (sym w) (less_part n v b.0 st i b.1) in
            f (record { holder = h; node = k }) b.0 b.2 (λ t c. all t (part_in (less n.holder v) (less h b.0) st t q c)) l

        by_follow : (k : NodeAt) → node_after stops p n steps.Follow ≡ Some k → leads_but stops p (paths.root k) path ≡ Some m → After → AllFound t
        by_follow k c l f =
            let d : Followed n k = followed n k c in
            let there : AllFound d.key = own_found n v d.key i all d.refers in
            let b = s.entries d.key d.entry d.force in
            let j : IsNode p.classes p.bytes k b.0 = subst (λ z. IsNode p.classes p.bytes z b.0) d.is b.1 in
            let on : AllOf None b.0 =
            λ y g. closed d.key y d.entry there d.force (subst (λ z. Contains (node_targets_but stops p z) y) (sym d.is) (subst (λ z. Contains z y) (sym (node_targets k b.0 j)) g)) in
            f (paths.root k) b.0 j on l

        by_step : (st : Step) (o : Option NodeAt) → node_after stops p n st ≡ o → option_and_then (λ k. leads_but stops p (held_after n st k) path) o ≡ Some m → After → AllFound t
        by_step st None c l f = cc
        by_step (steps.Field j) (Some k) c l f = by_child (steps.Field j) (stepped (unkeyed stops) n.holder n.node.shape (steps.Field j)) k refl c l f
        by_step (steps.Item j) (Some k) c l f = by_child (steps.Item j) (stepped (unkeyed stops) n.holder n.node.shape (steps.Item j)) k refl c l f
        by_step steps.Follow (Some k) c l f = by_follow k c l f

    -- A path inside an unkeyed value is one in the chunk.
    record Inside (n : Held) (path : List Step) (u : Value) : Type 0 where
      node : Held
      leads_there : leads_but stops p n path ≡ Some node
      value : Value
      is : IsNode p.classes p.bytes node.node value
      changes : u ≡ less node.holder value

    inside_but : (path : List Step) (n : Held) (v u : Value) → IsNode p.classes p.bytes n.node v → within (less n.holder v) path ≡ Some u → Inside n path u
    inside_but [] n v u i e = record { node = n; leads_there = refl; value = v; is = i; changes = (let h : less n.holder v ≡ u = cc in sym h) }
    inside_but (st ∷ path) n v u i e = by_part (part v st) refl (λ k b j. inside_but path k b u j)
      where
        After : Type 0
        After = (k : Held) (b : Value) → IsNode p.classes p.bytes k.node b → within (less k.holder b) path ≡ Some u → Inside k path u

        onward : (st : Step) (k : NodeAt) (b : Value) → child p.classes p.bytes n.node st ≡ Some k → IsNode p.classes p.bytes k b
            → within (less (stepped (unkeyed stops) n.holder n.node.shape st) b) path ≡ Some u → After
            → Inside n (st ∷ path) u
        onward (steps.Field f) k b c j l g =
            let r = g (held_after n (steps.Field f) k) b j l in
            record {
              node = r.node;
              leads_there = ap (option_and_then (λ m. leads_but stops p (held_after n (steps.Field f) m) path)) c
                  ∙ r.leads_there;
              value = r.value;
              is = r.is;
              changes = r.changes;
            }
        onward (steps.Item f) k b c j l g =
            let r = g (held_after n (steps.Item f) k) b j l in
            record {
              node = r.node;
              leads_there = ap (option_and_then (λ m. leads_but stops p (held_after n (steps.Item f) m) path)) c
                  ∙ r.leads_there;
              value = r.value;
              is = r.is;
              changes = r.changes;
            }
        onward steps.Follow k b c j l g = let h : None ≡ Some k = c in cc

        by_part : (o : Option Value) → part v st ≡ o → After → Inside n (st ∷ path) u
        by_part None q g =
            let h : part (less n.holder v) st ≡ None = changed_part (unkeyed stops) n.holder v st ∙ ap (option_map (less (stepped (unkeyed stops) n.holder (shape_of v) st))) q in
            let z : None ≡ Some u = sym (ap (option_and_then (λ y. within y path)) h) ∙ e in
            cc
        by_part (Some b) q g =
            let k = some_from (IsNode p.classes p.bytes) (child p.classes p.bytes n.node st) (part v st) b (child_is p.classes p.bytes n.node v s.sound i st) q in
            onward st k.0 b k.1 k.2 (sym (ap (option_and_then (λ y. within y path)) (less_part n v b st i q)) ∙ e) g

    -- What an unkeyed value refers to is at the end of a path.
    record At (n : Held) (t : ℕ × ℕ) : Type 0 where
      path : List Step
      node : Held
      leads_there : leads_but stops p n path ≡ Some node
      refers : target_but stops p node ≡ Some t

    at : (n : Held) (v : Value) (t : ℕ × ℕ) → IsNode p.classes p.bytes n.node v → Contains (targets_but stops n.holder v) t → At n t
    at n v t i c =
        let r = in_within (less n.holder v) t c in
        let y = inside_but r.path n v r.value i r.leads in
        record { path = r.path; node = y.node; leads_there = y.leads_there; refers = target_less y.node y.value y.is ∙ (ap own_target (sym y.changes) ∙ r.refers) }

    below : (ts : List (ℕ × ℕ)) → AllBelow (length p.entries) (those (number_in_force p.entries) ts)
    below ts i j = let t = in_those (number_in_force p.entries) ts i j in (forced p.entries t.0 i t.2).within

    module _ (nodes : (e : EventAt) → In kept e → (v : Value) × IsNode p.classes p.bytes e.node v) where
      abbrev event_targets : List (ℕ × ℕ)
      event_targets = flat_map (λ (e : EventAt). node_targets_but stops p e.node) kept

      found : (t : ℕ × ℕ) → Met stops p kept t → AllFound t
      found t m =
          let i : In kept m.event = contains_in kept m.event m.is_kept in
          let v = nodes m.event i in
          met_from m.path (paths.root m.event.node) m.node v.0 t v.1
          (λ u c j g. root (those_in (number_in_force p.entries) event_targets u j (event_in m.event u i (subst (λ z. Contains z u) (sym (node_targets m.event.node v.0 v.1)) c)) g))
          m.leads_there m.refers
        where
          event_in : (e : EventAt) (u : ℕ × ℕ) → In kept e → Contains (node_targets_but stops p e.node) u → In event_targets u
          event_in e u i c = flat_in (λ (e : EventAt). node_targets_but stops p e.node) kept e u i (contains_in (node_targets_but stops p e.node) u c)

      reach_but : {i : ℕ} → Found i → ReachedBut stops p kept i
      reach_but {i} (root j) =
          let t = in_those (number_in_force p.entries) event_targets i j in
          let e = in_flat (λ (e : EventAt). node_targets_but stops p e.node) kept t.0 t.1 in
          let v = nodes e.0 e.1 in
          let a : At (paths.root e.0.node) t.0 = at (paths.root e.0.node) v.0 t.0 v.1
          (subst (λ z. Contains z t.0) (node_targets e.0.node v.0 v.1) (in_contains (node_targets_but stops p e.0.node) t.0 e.2)) in
          record { key = t.0; met = record { event = e.0; is_kept = in_contains kept e.0 e.1; path = a.path; node = a.node; leads_there = a.leads_there; refers = a.refers }; in_force = t.2 }
      reach_but {i} (more {j = j} r k) =
          let h : ReachedBut stops p kept j = reach_but r in
          let f = forced p.entries h.key j h.in_force in
          let v = s.entries h.key f.entry f.is in
          let t = in_those (number_in_force p.entries) (entry_targets j) i k in
          let m : In (node_targets_but stops p (entry_node f.entry)) t.0 = subst (λ o. In (option_map_or (λ e. node_targets_but stops p (entry_node e)) o []) t.0) f.there t.1 in
          let a : At (paths.root (entry_node f.entry)) t.0 =
          at (paths.root (entry_node f.entry)) v.0 t.0 v.1
          (subst (λ z. Contains z t.0) (node_targets (entry_node f.entry) v.0 v.1) (in_contains (node_targets_but stops p (entry_node f.entry)) t.0 m)) in
          let there : leads_but stops p h.met.node (steps.Follow ∷ a.path) ≡ Some a.node =
          ap (option_and_then (λ m. leads_but stops p (paths.root m) a.path)) (after_target h.met.node h.key f.entry h.met.refers f.is) ∙ a.leads_there in
          record {
            key = t.0;
            met = record {
              event = h.met.event;
              is_kept = h.met.is_kept;
              path = h.met.path ++ (steps.Follow ∷ a.path);
              node = a.node;
              leads_there =
                  but_append h.met.path (steps.Follow ∷ a.path) (paths.root h.met.event.node)
                  ∙ (ap (option_and_then (λ (m : Held). leads_but stops p m (steps.Follow ∷ a.path))) h.met.leads_there ∙ there);
              refers = a.refers;
            };
            in_force = t.2;
          }

      marked_exactly : (n : ℕ) → ReachedBut stops p kept n ↔ IsMarked (marks_but stops p kept) n
      unfolding marks_but
      marked_exactly n =
          let marks = marks_reach (length p.entries) (next_but stops p) (roots_but stops p kept) (below event_targets) (λ j. below (entry_targets j)) n in
          ((λ r. marks.1 (found r.key r.met n r.in_force)), (λ m. reach_but (marks.0 m)))

      -- The marked entries are exactly those that are met, so each is reached.
      pub marks_met : MarksMet stops p kept (marks_but stops p kept)
      marks_met t m n f = (marked_exactly n).0 (record { key = t; met = m; in_force = f })

      pub only_met : MarksOnlyMet stops p kept (marks_but stops p kept)
      only_met n m = let r = (marked_exactly n).1 m in (r.key, r.met, r.in_force)

      pub marks_reached : (n : ℕ) → IsMarked (marks_but stops p kept) n → Reached p kept n
      marks_reached n m = reached_too kept n ((marked_exactly n).1 m)
