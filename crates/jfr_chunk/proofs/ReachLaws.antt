-- What paths reach is the least that has the start's targets, and those of each entry in force that it has.
use Rattle.std.specs.Prelude.{◌≡◌, ℕ, List, [], ◌∷◌, ◌++◌, Contains, Option, Some, None, option_and_then}
use Rattle.std.specs.Option.{option_map}
use Rattle.std.proofs.Common.{ap, refl, sym, ◌∙◌, subst}
use Rattle.jfr_value.specs.declared.node.Step.{Step}
use Rattle.jfr_value.specs.declared.node.Step.TheVariants as steps
use Rattle.jfr_value.specs.Values.{Value}
use Rattle.jfr_value.specs.Nodes.{NodeAt, IsNode, child, inside, target, targets, Both}
use Rattle.jfr_value.proofs.NodeLaws.{part, child_is}
use Rattle.jfr_value.proofs.TargetLaws.{inside_in, in_inside}
use Rattle.jfr_pool.specs.declared.entry.EntryAt.{EntryAt}
use Rattle.jfr_pool.specs.Entries.{in_force, entry_node}
use Rattle.jfr_chunk.specs.Parts.{Parts}
use Rattle.jfr_chunk.specs.Paths.{follow, step, leads}
use Rattle.jfr_chunk.proofs.PathLaws.{HasNodes}

some_right : {A B : Type 0} (R : A → B → Type 0) (x : Option A) (y : Option B) (a : A) → Both R x y → x ≡ Some a → (b : B) × R a b
some_right R None None a r e = cc
some_right R (Some c) (Some b) a r e = let h : c ≡ a = cc in (b, subst (λ z. R z b) h r)
some_right R None (Some c) a r e = absurd r
some_right R (Some c) None a r e = absurd r

-- Follow leads to the entry in force.
pub record Followed (p : Parts) (n m : NodeAt) : Type 0 where
  pub key : ℕ × ℕ
  pub entry : EntryAt
  pub refers : target p.classes p.bytes n ≡ Some key
  pub force : in_force p.entries key ≡ Some entry
  pub is : entry_node entry ≡ m

followed : (p : Parts) (n m : NodeAt) → follow p n ≡ Some m → Followed p n m
followed p n m e = by_target (target p.classes p.bytes n) refl e
  where
    by_entry : (t : ℕ × ℕ) (o : Option EntryAt) → target p.classes p.bytes n ≡ Some t → in_force p.entries t ≡ o → option_map entry_node o ≡ Some m → Followed p n m
    by_entry t None q r e = cc
    by_entry t (Some f) q r e = record { key = t; entry = f; refers = q; force = r; is = (let h : entry_node f ≡ m = cc in h) }

    by_target : (o : Option (ℕ × ℕ)) → target p.classes p.bytes n ≡ o → option_and_then (λ t. option_map entry_node (in_force p.entries t)) o ≡ Some m → Followed p n m
    by_target None q e = cc
    by_target (Some t) q e = by_entry t (in_force p.entries t) q refl e

pub leads_append : (p : Parts) (a b : List Step) (n : NodeAt) → leads p n (a ++ b) ≡ option_and_then (λ m. leads p m b) (leads p n a)
leads_append p [] b n = refl
leads_append p (s ∷ a) b n = by_step (step p n s) (λ m. leads_append p a b m)
  where
    by_step : (o : Option NodeAt) → ((m : NodeAt) → leads p m (a ++ b) ≡ option_and_then (λ m. leads p m b) (leads p m a))
        → option_and_then (λ m. leads p m (a ++ b)) o ≡ option_and_then (λ m. leads p m b) (option_and_then (λ m. leads p m a) o)
    by_step None h = refl
    by_step (Some m) h = h m

-- A path of fields and items is a path.
pub inside_leads : (p : Parts) (path : List Step) (n m : NodeAt) → inside p.classes p.bytes n path ≡ Some m → leads p n path ≡ Some m
inside_leads p [] n m e = e
inside_leads p (st ∷ path) n m e = by_step st (child p.classes p.bytes n st) refl e (λ u. inside_leads p path u m)
  where
    by_step : (st : Step) (x : Option NodeAt) → child p.classes p.bytes n st ≡ x → option_and_then (λ u. inside p.classes p.bytes u path) x ≡ Some m
        → ((u : NodeAt) → inside p.classes p.bytes u path ≡ Some m → leads p u path ≡ Some m) → leads p n (st ∷ path) ≡ Some m
    by_step st None q r f = cc
    by_step (steps.Field i) (Some u) q r f = ap (option_and_then (λ u. leads p u path)) q ∙ f u r
    by_step (steps.Item i) (Some u) q r f = ap (option_and_then (λ u. leads p u path)) q ∙ f u r
    by_step steps.Follow (Some u) q r f = let z : None ≡ Some u = q in cc

module _ (p : Parts) (s : HasNodes p) where
  child_node : (n u : NodeAt) (v : Value) (st : Step) → IsNode p.classes p.bytes n v → child p.classes p.bytes n st ≡ Some u → (w : Value) × IsNode p.classes p.bytes u w
  child_node n u v st i e = some_right (IsNode p.classes p.bytes) (child p.classes p.bytes n st) (part v st) u (child_is p.classes p.bytes n v s.sound i st) e

  -- What a field or an item refers to, the node does.
  child_in : (n u : NodeAt) (v : Value) (st : Step) (t : ℕ × ℕ) → IsNode p.classes p.bytes n v → child p.classes p.bytes n st ≡ Some u → Contains (targets p.classes p.bytes u) t
      → Contains (targets p.classes p.bytes n) t
  child_in n u v st t i e c =
      let w = child_node n u v st i e in
      let a = in_inside p.classes s.sound p.bytes u w.0 w.1 t c in
      inside_in p.classes s.sound p.bytes n v i (st ∷ a.0) a.1 t (ap (option_and_then (λ m. inside p.classes p.bytes m a.0)) e ∙ a.2) a.3

  -- A target is what a path leads to.
  pub target_path : (n : NodeAt) (v : Value) (t : ℕ × ℕ) → IsNode p.classes p.bytes n v → Contains (targets p.classes p.bytes n) t
      → (path : List Step) × (m : NodeAt) × (leads p n path ≡ Some m) × (target p.classes p.bytes m ≡ Some t)
  target_path n v t i c = let a = in_inside p.classes s.sound p.bytes n v i t c in (a.0, a.1, inside_leads p a.0 n a.1 a.2, a.3)

  pub follow_is : (n : NodeAt) (t : ℕ × ℕ) (e : EntryAt) → target p.classes p.bytes n ≡ Some t → in_force p.entries t ≡ Some e → follow p n ≡ Some (entry_node e)
  follow_is n t e q r = ap (option_and_then (λ t. option_map entry_node (in_force p.entries t))) q ∙ ap (option_map entry_node) r

  -- A path to a reference, followed by a path from the entry in force for it.
  pub leads_on : (n m o : NodeAt) (t : ℕ × ℕ) (e : EntryAt) (a b : List Step) → leads p n a ≡ Some m → target p.classes p.bytes m ≡ Some t → in_force p.entries t ≡ Some e
      → leads p (entry_node e) b ≡ Some o → leads p n (a ++ (steps.Follow ∷ b)) ≡ Some o
  leads_on n m o t e a b x y z w =
      let l : leads p m (steps.Follow ∷ b) ≡ Some o = ap (option_and_then (λ m. leads p m b)) (follow_is m t e y z) ∙ w in
      leads_append p a (steps.Follow ∷ b) n ∙ (ap (option_and_then (λ m. leads p m (steps.Follow ∷ b))) x ∙ l)

  pub reach_least : (S : ℕ × ℕ → Type 0) → ((t u : ℕ × ℕ) (e : EntryAt) → S t → in_force p.entries t ≡ Some e → Contains (targets p.classes p.bytes (entry_node e)) u → S u)
      → (path : List Step) (n m : NodeAt) (v : Value) (t : ℕ × ℕ) → IsNode p.classes p.bytes n v → ((u : ℕ × ℕ) → Contains (targets p.classes p.bytes n) u → S u)
      → leads p n path ≡ Some m → target p.classes p.bytes m ≡ Some t → S t
  reach_least S closed [] n m v t i root e o =
      let h : n ≡ m = cc in
      root t (inside_in p.classes s.sound p.bytes n v i [] n t refl (ap (target p.classes p.bytes) h ∙ o))
  reach_least S closed (st ∷ path) n m v t i root e o = by_step st (step p n st) refl e (λ u w j f l. reach_least S closed path u m w t j f l o)
    where
      by_child : (st : Step) (u : NodeAt) → child p.classes p.bytes n st ≡ Some u → leads p u path ≡ Some m
          → ((w : Value) → IsNode p.classes p.bytes u w → ((z : ℕ × ℕ) → Contains (targets p.classes p.bytes u) z → S z) → leads p u path ≡ Some m → S t) → S t
      by_child st u q r f = let w = child_node n u v st i q in f w.0 w.1 (λ z c. root z (child_in n u v st z i q c)) r

      by_entry : (u : NodeAt) → Followed p n u → leads p u path ≡ Some m
          → ((w : Value) → IsNode p.classes p.bytes u w → ((z : ℕ × ℕ) → Contains (targets p.classes p.bytes u) z → S z) → leads p u path ≡ Some m → S t) → S t
      by_entry u a r f =
          let w = s.entries a.key a.entry a.force in
          let here : S a.key = root a.key (inside_in p.classes s.sound p.bytes n v i [] n a.key refl a.refers) in
          f w.0 (subst (λ z. IsNode p.classes p.bytes z w.0) a.is w.1) (λ z c. closed a.key z a.entry here a.force (subst (λ y. Contains (targets p.classes p.bytes y) z) (sym a.is) c)) r

      by_step : (st : Step) (x : Option NodeAt) → step p n st ≡ x → option_and_then (λ u. leads p u path) x ≡ Some m
          → ((u : NodeAt) (w : Value) → IsNode p.classes p.bytes u w → ((z : ℕ × ℕ) → Contains (targets p.classes p.bytes u) z → S z) → leads p u path ≡ Some m → S t) → S t
      by_step st None q r f = cc
      by_step (steps.Field j) (Some u) q r f = by_child (steps.Field j) u q r (f u)
      by_step (steps.Item j) (Some u) q r f = by_child (steps.Item j) u q r (f u)
      by_step steps.Follow (Some u) q r f = by_entry u (followed p n u q) r (f u)
