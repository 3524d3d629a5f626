-- Nodes with equal shape and bytes refer to the same, in any chunk.
use Rattle.std.specs.Prelude.{◌≡◌, ℕ, List, [], ◌∷◌, Option, Some, None, option_and_then}
use Rattle.std.specs.Option.{option_map}
use Rattle.std.proofs.Common.{refl, sym, ◌∙◌, subst, inl, inr}
use Rattle.jfr_layout.specs.Classes.{Classes, Sound, Agree}
use Rattle.jfr_value.proofs.ByteLaws.{node_agree}
use Rattle.jfr_laws.proofs.Suits.{Agreed, agreed_class, path_agreed}
use Rattle.jfr_value.specs.declared.node.Step.{Step}
use Rattle.jfr_value.specs.declared.node.Step.TheVariants as steps
use Rattle.jfr_value.specs.Values.{Value}
use Rattle.jfr_value.specs.Nodes.{NodeAt, IsNode, child, target, Both}
use Rattle.jfr_value.specs.Laws.{SameNode}
use Rattle.jfr_value.proofs.NodeLaws.{part, child_is, target_is}
use Rattle.jfr_pool.specs.declared.entry.EntryAt.{EntryAt}
use Rattle.jfr_pool.specs.Entries.{in_force, entry_node}
use Rattle.jfr_chunk.specs.Parts.{Parts, EventAt}
use Rattle.jfr_chunk.specs.Paths.{step, leads}
use Rattle.jfr_chunk.specs.Meaning.{SamePaths, SameEvent, SameMeaning}
use Rattle.jfr_worklist.specs.Members.{In}
use Rattle.jfr_chunk.proofs.PathLaws.{HasNodes}

-- The counterpart of a value.
beside : {A B : Type 0} (R : A → B → Type 0) (x : Option A) (y : Option B) (a : A) → Both R x y → x ≡ Some a → (b : B) × (y ≡ Some b) × R a b
beside R None None a r e = cc
beside R (Some c) (Some b) a r e = let h : c ≡ a = cc in (b, refl, subst (λ z. R z b) h r)
beside R None (Some c) a r e = absurd r
beside R (Some c) None a r e = absurd r

-- Nodes that are the same refer to the same, under classes that agree.
agreed_target : (k m : Classes) (c d : List ℕ) (n o : NodeAt) (v w : Value) → Sound k → Sound m → Agree k m n.shape.class → IsNode k c n v → IsNode m d o w → SameNode c d n o
    → target k c n ≡ target m d o
agreed_target k m c d n o v w s t g i j h = target_is k c n v s i ∙ sym (target_is m d o v t (node_agree k m c d n o v i h.shape h.bytes j.order j.within g))

module _ (p : Parts) (s : HasNodes p) where
  -- What a path leads to is a node.
  pub path_node : (path : List Step) (n m : NodeAt) (v : Value) → IsNode p.classes p.bytes n v → leads p n path ≡ Some m → (w : Value) × IsNode p.classes p.bytes m w
  path_node [] n m v i e = let h : n ≡ m = cc in (v, subst (λ z. IsNode p.classes p.bytes z v) h i)
  path_node (st ∷ path) n m v i e = by_step st (step p n st) refl e (λ u w j l. path_node path u m w j l)
    where
      Node : Type 0
      Node = (w : Value) × IsNode p.classes p.bytes m w

      Rest : Type 0
      Rest = (u : NodeAt) (w : Value) → IsNode p.classes p.bytes u w → leads p u path ≡ Some m → Node

      by_child : (st : Step) (u : NodeAt) → child p.classes p.bytes n st ≡ Some u → leads p u path ≡ Some m → Rest → Node
      by_child st u q l f = let w = beside (IsNode p.classes p.bytes) (child p.classes p.bytes n st) (part v st) u (child_is p.classes p.bytes n v s.sound i st) q in f u w.0 w.2 l

      by_entry : (t : ℕ × ℕ) (o : Option EntryAt) (u : NodeAt) → in_force p.entries t ≡ o → option_map entry_node o ≡ Some u → leads p u path ≡ Some m → Rest → Node
      by_entry t None u q e l f = cc
      by_entry t (Some x) u q e l f =
          let w = s.entries t x q in
          let h : entry_node x ≡ u = cc in
          f u w.0 (subst (λ z. IsNode p.classes p.bytes z w.0) h w.1) l

      by_target : (o : Option (ℕ × ℕ)) (u : NodeAt) → option_and_then (λ t. option_map entry_node (in_force p.entries t)) o ≡ Some u → leads p u path ≡ Some m → Rest → Node
      by_target None u e l f = cc
      by_target (Some t) u e l f = by_entry t (in_force p.entries t) u refl e l f

      by_step : (st : Step) (x : Option NodeAt) → step p n st ≡ x → option_and_then (λ u. leads p u path) x ≡ Some m → Rest → Node
      by_step st None q l f = cc
      by_step (steps.Field j) (Some u) q l f = by_child (steps.Field j) u q l f
      by_step (steps.Item j) (Some u) q l f = by_child (steps.Item j) u q l f
      by_step steps.Follow (Some u) q l f = by_target (target p.classes p.bytes n) u q l f

-- A path that leads to what refers to a class and a key does so from an event that means the same.
pub record RefersToo (q : Parts) (f : EventAt) (path : List Step) (key : ℕ × ℕ) : Type 0 where
  pub node : NodeAt
  pub leads_there : leads q f.node path ≡ Some node
  pub refers : target q.classes q.bytes node ≡ Some key

pub refers_too : (p q : Parts) (s : HasNodes p) (r : HasNodes q) (e f : EventAt) (w : Value) (path : List Step) (n : NodeAt) (key : ℕ × ℕ) → Agreed p q.classes s e.node
    → IsNode q.classes q.bytes f.node w
    → SamePaths p q e.node f.node → leads p e.node path ≡ Some n → target p.classes p.bytes n ≡ Some key → RefersToo q f path key
refers_too p q s r e f w path n key a j same l t =
    let m = beside (SameNode p.bytes q.bytes) (leads p e.node path) (leads q f.node path) n (same path) l in
    let x = path_agreed p q.classes s path e.node n a l in
    let y = path_node q r path f.node m.0 w j m.1 in
    record { node = m.0; leads_there = m.1; refers = sym (agreed_target p.classes q.classes p.bytes q.bytes n m.0 x.value y.0 s.sound r.sound (agreed_class p q.classes s n x) x.node y.1 m.2) ∙ t }

-- The counterpart of an event.
pub event_beside : (p q : Parts) (es fs : List EventAt) (e : EventAt) → SameMeaning p q es fs → In es e → (f : EventAt) × In fs f × SameEvent p q e f
event_beside p q [] fs e m i = absurd i
event_beside p q (x ∷ es) [] e m i = absurd m
event_beside p q (x ∷ es) (f ∷ fs) e m (inl h) = (f, inl refl, subst (λ z. SameEvent p q z f) h m.0)
event_beside p q (x ∷ es) (f ∷ fs) e m (inr i) = let r = event_beside p q es fs e m.1 i in (r.0, inr r.1, r.2)
