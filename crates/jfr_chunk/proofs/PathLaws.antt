-- The law of paths: if the entries in force are the same for all references that are met, paths lead to the
-- same.
use Rattle.std.specs.Prelude.{◌≡◌, ℕ, List, [], ◌∷◌, slice_get, Option, Some, None, Bool, true, false, if◌then◌else◌, option_and_then}
use Rattle.std.specs.Option.{option_map}
use Rattle.std.proofs.Common.{ap, refl, sym, ◌∙◌, subst}
use Rattle.jfr_layout.specs.Classes.{Classes, Agree, Sound}
use Rattle.jfr_layout.specs.declared.shape.Shape.{Shape}
use Rattle.jfr_value.specs.declared.node.Step.{Step}
use Rattle.jfr_value.specs.declared.node.Step.TheVariants as steps
use Rattle.jfr_value.specs.Values.{Value, Single, Group, shape_of, parts_of, own_target, Fits}
use Rattle.jfr_value.specs.Nodes.{NodeAt, node_bytes, IsNode, picked, child, target, Both}
use Rattle.jfr_value.specs.Laws.{SameNode}
use Rattle.jfr_value.proofs.NodeLaws.{part, child_is, target_is}
use Rattle.jfr_value.proofs.InsideLaws.{agree_parts}
use Rattle.jfr_value.proofs.ByteLaws.{node_agree}
use Rattle.jfr_pool.specs.declared.entry.EntryAt.{EntryAt}
use Rattle.jfr_pool.specs.Entries.{in_force, inline, entry_node}
use Rattle.jfr_chunk.specs.Parts.{Parts}
use Rattle.jfr_chunk.specs.Paths.{follow, step, leads}
use Rattle.jfr_chunk.specs.Meaning.{SamePaths, SameEntry}
use Rattle.jfr_chunk.proofs.AllLaws.{all_get}
use Rattle.jfr_pool.proofs.ForceLaws.{numbered}

-- The classes are sound, and every entry in force is a node.
pub record HasNodes (p : Parts) : Type 0 where
  pub sound : Sound p.classes
  pub entries : (t : ℕ × ℕ) (e : EntryAt) → in_force p.entries t ≡ Some e → (v : Value) × IsNode p.classes p.bytes (entry_node e) v

picked_get : {A : Type 0} (s : Shape) (xs : List A) (x : A) (st : Step) → picked s xs st ≡ Some x → (i : ℕ) × (slice_get xs i ≡ Some x)
picked_get s xs x (steps.Field i) e = by_mark s.array e
  where
    by_mark : (t : Bool) → (if t then None else slice_get xs i) ≡ Some x → (i : ℕ) × (slice_get xs i ≡ Some x)
    by_mark true e = cc
    by_mark false e = (i, e)
picked_get s xs x (steps.Item i) e = by_mark s.array e
  where
    by_mark : (t : Bool) → (if t then slice_get xs i else None) ≡ Some x → (i : ℕ) × (slice_get xs i ≡ Some x)
    by_mark true e = (i, e)
    by_mark false e = cc
picked_get s xs x steps.Follow e = cc

-- Lists of classes that agree on a value's class agree on those of its parts.
pub part_agree : (k m : Classes) (v w : Value) (st : Step) → Fits k v → Agree k m (shape_of v).class → part v st ≡ Some w → Agree k m (shape_of w).class
part_agree k m v w st f a e =
    let i = picked_get (shape_of v) (parts_of v) w st e in
    all_get (λ w. Agree k m (shape_of w).class) (parts_of v) i.0 w (agree_parts k m v f a) i.1

-- A reference names the class of its value.
pub own_class : (v : Value) (t : ℕ × ℕ) → own_target v ≡ Some t → (shape_of v).class ≡ t.0
own_class (Single s kind b None) t e = cc
own_class (Single s kind b (Some key)) t e = let h : (s.class, key) ≡ t = cc in ap (λ z. z.0) h
own_class (Group s h vs) t e = cc

module _ (p q : Parts) (s : HasNodes p) (r : HasNodes q) where
  -- Both nodes have the same value, and the class lists agree on its class.
  pub record Pair (n o : NodeAt) : Type 0 where
    pub value : Value
    pub left : IsNode p.classes p.bytes n value
    pub right : IsNode q.classes q.bytes o value
    pub agree : Agree p.classes q.classes (shape_of value).class

  same_node : (n o : NodeAt) → Pair n o → SameNode p.bytes q.bytes n o
  same_node n o x = record { shape = x.left.shape ∙ sym x.right.shape; bytes = x.left.bytes ∙ sym x.right.bytes }

  -- A step within a value.
  parts_pair : (x y : Option NodeAt) (w : Option Value) → ((u : Value) → w ≡ Some u → Agree p.classes q.classes (shape_of u).class)
      → Both (IsNode p.classes p.bytes) x w → Both (IsNode q.classes q.bytes) y w → Both Pair x y
  parts_pair None None None g a b = tt
  parts_pair (Some n) (Some o) (Some u) g a b = record { value = u; left = a; right = b; agree = g u refl }
  parts_pair None (Some o) None g a b = absurd b
  parts_pair None y (Some u) g a b = absurd a
  parts_pair (Some n) y None g a b = absurd a
  parts_pair (Some n) None (Some u) g a b = absurd b

  child_pair : (n o : NodeAt) (st : Step) → Pair n o → Both Pair (child p.classes p.bytes n st) (child q.classes q.bytes o st)
  child_pair n o st x =
      parts_pair (child p.classes p.bytes n st) (child q.classes q.bytes o st) (part x.value st) (λ u e. part_agree p.classes q.classes x.value u st x.left.fits x.agree e)
      (child_is p.classes p.bytes n x.value s.sound x.left st) (child_is q.classes q.bytes o x.value r.sound x.right st)

  -- A step to the entries in force.
  entry_pair : (t : ℕ × ℕ) → Agree p.classes q.classes t.0 → SameEntry p q t → Both Pair (option_map entry_node (in_force p.entries t)) (option_map entry_node (in_force q.entries t))
  entry_pair t g y = by_entry (in_force p.entries t) (in_force q.entries t) refl refl y
    where
      by_entry : (x y : Option EntryAt) → in_force p.entries t ≡ x → in_force q.entries t ≡ y → Both (λ e f. node_bytes p.bytes (entry_node e) ≡ node_bytes q.bytes (entry_node f)) x y
          → Both Pair (option_map entry_node x) (option_map entry_node y)
      by_entry None None a b z = tt
      by_entry None (Some f) a b z = absurd z
      by_entry (Some e) None a b z = absurd z
      by_entry (Some e) (Some f) a b z =
          let v = s.entries t e a in
          let w = r.entries t f b in
          let c : e.class ≡ t.0 = (numbered p.entries t e a).class in
          let d : f.class ≡ t.0 = (numbered q.entries t f b).class in
          let h : Agree p.classes q.classes e.class = subst (Agree p.classes q.classes) (sym c) g in
          let i : e.class ≡ (shape_of v.0).class = ap (λ (y : Shape). y.class) v.1.shape in
          record {
            value = v.0;
            left = v.1;
            right = node_agree p.classes q.classes p.bytes q.bytes (entry_node e) (entry_node f) v.0 v.1 (ap inline (c ∙ sym d)) z w.1.order w.1.within h;
            agree = subst (Agree p.classes q.classes) i h;
          }

  -- Both nodes refer to the same.
  pub pair_target : (n o : NodeAt) → Pair n o → target p.classes p.bytes n ≡ target q.classes q.bytes o
  pair_target n o x = target_is p.classes p.bytes n x.value s.sound x.left ∙ sym (target_is q.classes q.bytes o x.value r.sound x.right)

  pub follow_pair : (n o : NodeAt) → Pair n o → ((t : ℕ × ℕ) → target p.classes p.bytes n ≡ Some t → SameEntry p q t) → Both Pair (follow p n) (follow q o)
  follow_pair n o x h =
      subst (λ z. Both Pair (option_and_then (λ t. option_map entry_node (in_force p.entries t)) z) (follow q o)) (sym a)
      (subst (λ z. Both Pair (option_and_then (λ t. option_map entry_node (in_force p.entries t)) (own_target x.value)) (option_and_then (λ t. option_map entry_node (in_force q.entries t)) z)) (sym b)
      (by_target (own_target x.value) refl))
    where
      a : target p.classes p.bytes n ≡ own_target x.value
      a = target_is p.classes p.bytes n x.value s.sound x.left

      b : target q.classes q.bytes o ≡ own_target x.value
      b = target_is q.classes q.bytes o x.value r.sound x.right

      by_target : (y : Option (ℕ × ℕ)) → own_target x.value ≡ y
          → Both Pair (option_and_then (λ t. option_map entry_node (in_force p.entries t)) y) (option_and_then (λ t. option_map entry_node (in_force q.entries t)) y)
      by_target None e = tt
      by_target (Some t) e = entry_pair t (subst (Agree p.classes q.classes) (own_class x.value t e) x.agree) (h t (a ∙ e))

  -- Both have the same entry in force for all that a path from the node meets.
  abbrev pub MeetsSame : NodeAt → Type 0
  MeetsSame n = (path : List Step) (m : NodeAt) (t : ℕ × ℕ) → leads p n path ≡ Some m → target p.classes p.bytes m ≡ Some t → SameEntry p q t

  step_pair : (n o : NodeAt) (st : Step) → Pair n o → MeetsSame n → Both Pair (step p n st) (step q o st)
  step_pair n o (steps.Field i) x h = child_pair n o (steps.Field i) x
  step_pair n o (steps.Item i) x h = child_pair n o (steps.Item i) x
  step_pair n o steps.Follow x h = follow_pair n o x (λ t e. h [] n t refl e)

  -- A path leads from both nodes to nodes with the same value, or from both nowhere.
  pub paths_pair : (path : List Step) (n o : NodeAt) → Pair n o → MeetsSame n → Both Pair (leads p n path) (leads q o path)
  paths_pair [] n o x h = x
  paths_pair (st ∷ path) n o x h = by_step (step p n st) (step q o st) refl (step_pair n o st x h) (λ m k. paths_pair path m k)
    where
      by_step : (a b : Option NodeAt) → step p n st ≡ a → Both Pair a b → ((m k : NodeAt) → Pair m k → MeetsSame m → Both Pair (leads p m path) (leads q k path))
          → Both Pair (option_and_then (λ m. leads p m path) a) (option_and_then (λ m. leads q m path) b)
      by_step None None e y f = tt
      by_step None (Some k) e y f = absurd y
      by_step (Some m) None e y f = absurd y
      by_step (Some m) (Some k) e y f = f m k y (λ pre u t l z. h (st ∷ pre) u t (ap (option_and_then (λ m. leads p m pre)) e ∙ l) z)

  pub law_of_paths : (n o : NodeAt) → Pair n o → MeetsSame n → SamePaths p q n o
  law_of_paths n o x h path = by_pair (leads p n path) (leads q o path) (paths_pair path n o x h)
    where
      by_pair : (a b : Option NodeAt) → Both Pair a b → Both (SameNode p.bytes q.bytes) a b
      by_pair None None y = tt
      by_pair None (Some k) y = absurd y
      by_pair (Some m) None y = absurd y
      by_pair (Some m) (Some k) y = same_node m k y
