-- The targets of a value are those at the ends of its paths of fields and items.
use Rattle.std.specs.Prelude.{◌≡◌, ℕ, zero, suc, ◌-◌, ◌≤◌, List, [], ◌∷◌, ◌⊎◌, length, Contains, Option, Some, None, Bool, true, false, slice_get, if◌then◌else◌}
use Rattle.std.specs.List.{filter_map}
use Rattle.jfr_base.proofs.Ranges.{range_length}
use Rattle.std.specs.Option.{option_and_then, option_map_or}
use Rattle.std.proofs.Common.{ap, arith, refl, sym, ◌∙◌, inl, inr, subst}
use Rattle.std.proofs.lemmas.List.Elements.{Contains-append_left, Contains-append_right, Contains-append_cases}
use Rattle.jfr_layout.specs.Classes.{Classes, Sound}
use Rattle.jfr_layout.specs.declared.shape.Shape.{Shape}
use Rattle.jfr_value.specs.declared.leaf.Holder.{Holder}
use Rattle.jfr_value.specs.declared.node.Step.{Step}
use Rattle.jfr_value.specs.declared.node.Step.TheVariants as steps
use Rattle.jfr_value.specs.Values.{Value, Values, Single, Group, Nil, Cons, list_of, shape_of, parts_of, bytes_of, own_target, targets_of, targets_of_all}
use Rattle.jfr_value.specs.Nodes.{NodeAt, IsNode, picked, child, target, targets, inside, Both}
use Rattle.jfr_value.specs.Leaves.{leaves, leaves_at, leaves_in, leaf_target}
use Rattle.jfr_value.specs.Laws.{RefersByParts}
use Rattle.jfr_value.proofs.LeafLaws.{leaf_targets, leaves_within}
use Rattle.jfr_value.proofs.NodeLaws.{part, child_is, target_is, value_is}

-- Where a path leads within a value.
abbrev pub within : Value → List Step → Option Value
within v [] = Some v
within v (step ∷ path) = option_and_then (λ w. within w path) (part v step)

picked_get : {A : Type 0} (s : Shape) (xs : List A) (step : Step) (x : A) → picked s xs step ≡ Some x → (i : ℕ) × (slice_get xs i ≡ Some x)
picked_get s xs (steps.Field i) x e = by_mark s.array e
  where
    by_mark : (t : Bool) → (if t then None else slice_get xs i) ≡ Some x → (i : ℕ) × (slice_get xs i ≡ Some x)
    by_mark true e = cc
    by_mark false e = (i, e)
picked_get s xs (steps.Item i) x e = by_mark s.array e
  where
    by_mark : (t : Bool) → (if t then slice_get xs i else None) ≡ Some x → (i : ℕ) × (slice_get xs i ≡ Some x)
    by_mark true e = (i, e)
    by_mark false e = cc
picked_get s xs steps.Follow x e = cc

contains_one : (t u : ℕ × ℕ) → t ≡ u → Contains (t ∷ []) u
contains_one t u e = (0, omega arith, e)

none_contained : (t : ℕ × ℕ) → Contains [] t → ⊥
none_contained t c = omega (arith, c.1)

one_contained : (t u : ℕ × ℕ) → Contains (t ∷ []) u → t ≡ u
one_contained t u (zero, l, e) = e
one_contained t u (suc i, l, e) = absurd (omega (arith, l))

own_in : (v : Value) (t : ℕ × ℕ) → own_target v ≡ Some t → Contains (targets_of v) t
own_in (Single s kind b None) t e = cc
own_in (Single s kind b (Some key)) t e = contains_one (s.class, key) t (cc)
own_in (Group s h vs) t e = cc

member_in : (vs : Values) (i : ℕ) (w : Value) (t : ℕ × ℕ) → slice_get (list_of vs) i ≡ Some w → Contains (targets_of w) t → Contains (targets_of_all vs) t
member_in Nil i w t e j = cc
member_in (Cons v vs) zero w t e j = let h : w ≡ v = cc in Contains-append_left (targets_of v) (targets_of_all vs) t (subst (λ z. Contains (targets_of z) t) h j)
member_in (Cons v vs) (suc i) w t e j = Contains-append_right (targets_of v) (targets_of_all vs) t (member_in vs i w t e j)

part_in : (v : Value) (step : Step) (w : Value) (t : ℕ × ℕ) → part v step ≡ Some w → Contains (targets_of w) t → Contains (targets_of v) t
part_in (Single s kind b key) step w t e j = let g = picked_get s [] step w e in let h : None ≡ Some w = g.1 in cc
part_in (Group s h vs) step w t e j = let g = picked_get s (list_of vs) step w e in member_in vs g.0 w t g.1 j

-- What a part refers to, the value does.
pub within_in : (path : List Step) (v w : Value) (t : ℕ × ℕ) → within v path ≡ Some w → own_target w ≡ Some t → Contains (targets_of v) t
within_in [] v w t e o = let h : w ≡ v = cc in own_in v t (ap own_target (sym h) ∙ o)
within_in (step ∷ path) v w t e o = by_part (part v step) refl e (λ u q. within_in path u w t q o)
  where
    by_part : (x : Option Value) → part v step ≡ x → option_and_then (λ u. within u path) x ≡ Some w → ((u : Value) → within u path ≡ Some w → Contains (targets_of u) t) → Contains (targets_of v) t
    by_part None p q r = cc
    by_part (Some u) p q r = part_in v step u t p (r u q)

-- And back.
pub record RefersWithin (v : Value) (t : ℕ × ℕ) : Type 0 where
  pub path : List Step
  pub value : Value
  pub leads : within v path ≡ Some value
  pub refers : own_target value ≡ Some t

one_more : (v w : Value) (i : ℕ) (t : ℕ × ℕ) → slice_get (parts_of v) i ≡ Some w → RefersWithin w t → RefersWithin v t
one_more v w i t e r = by_mark (shape_of v).array refl
  where
    by_mark : (b : Bool) → (shape_of v).array ≡ b → RefersWithin v t
    by_mark true q =
        let g : part v (steps.Item i) ≡ Some w = ap (λ b. if b then slice_get (parts_of v) i else None) q ∙ e in
        record { path = steps.Item i ∷ r.path; value = r.value; leads = ap (option_and_then (λ u. within u r.path)) g ∙ r.leads; refers = r.refers }
    by_mark false q =
        let g : part v (steps.Field i) ≡ Some w = ap (λ b. if b then None else slice_get (parts_of v) i) q ∙ e in
        record { path = steps.Field i ∷ r.path; value = r.value; leads = ap (option_and_then (λ u. within u r.path)) g ∙ r.leads; refers = r.refers }

mutual
  pub in_within : (v : Value) (t : ℕ × ℕ) → Contains (targets_of v) t → RefersWithin v t
  in_within (Single s kind b None) t i = absurd (none_contained t i)
  in_within (Single s kind b (Some key)) t i = record { path = []; value = Single s kind b (Some key); leads = refl; refers = ap (λ z. Some z) (one_contained (s.class, key) t i) }
  in_within (Group s h vs) t i = let r = in_within_all vs t i in one_more (Group s h vs) r.1 r.0 t r.2 r.3

  in_within_all : (vs : Values) (t : ℕ × ℕ) → Contains (targets_of_all vs) t → (i : ℕ) × (w : Value) × (slice_get (list_of vs) i ≡ Some w) × RefersWithin w t
  in_within_all Nil t i = absurd (none_contained t i)
  in_within_all (Cons v vs) t i = later vs (Contains-append_cases (targets_of v) (targets_of_all vs) t i) (λ j. in_within v t j) (λ j. in_within_all vs t j)
    where
      later : (vs : Values) → Contains (targets_of v) t ⊎ Contains (targets_of_all vs) t → (Contains (targets_of v) t → RefersWithin v t)
          → (Contains (targets_of_all vs) t → (i : ℕ) × (w : Value) × (slice_get (list_of vs) i ≡ Some w) × RefersWithin w t)
          → (i : ℕ) × (w : Value) × (slice_get (v ∷ list_of vs) i ≡ Some w) × RefersWithin w t
      later vs (inl j) f g = (0, v, refl, f j)
      later vs (inr j) f g = let r = g j in (suc r.0, r.1, r.2, r.3)

-- Two options that are there together, taken one step further.
pub both_then : {A B C D : Type 0} (R : A → B → Type 0) (S : C → D → Type 0) (f : A → Option C) (g : B → Option D) (x : Option A) (y : Option B) → Both R x y
    → ((a : A) (b : B) → R a b → Both S (f a) (g b)) → Both S (option_and_then f x) (option_and_then g y)
both_then R S f g None None r h = tt
both_then R S f g (Some a) (Some b) r h = h a b r
both_then R S f g None (Some b) r h = absurd r
both_then R S f g (Some a) None r h = absurd r

pub inside_is : (k : Classes) (c : List ℕ) (path : List Step) (n : NodeAt) (v : Value) → Sound k → IsNode k c n v → Both (IsNode k c) (inside k c n path) (within v path)
inside_is k c [] n v s i = i
inside_is k c (step ∷ path) n v s i = both_then (IsNode k c) (IsNode k c) (λ m. inside k c m path) (λ w. within w path) (child k c n step) (part v step) (child_is k c n v s i step)
    (λ m w j. inside_is k c path m w s j)

both_left : {A B : Type 0} (R : A → B → Type 0) (x : Option A) (y : Option B) (a : A) → Both R x y → x ≡ Some a → (b : B) × (y ≡ Some b) × R a b
both_left R None y a r e = cc
both_left R (Some z) None a r e = absurd r
both_left R (Some z) (Some b) a r e = let h : z ≡ a = cc in (b, refl, subst (λ u. R u b) h r)

both_right : {A B : Type 0} (R : A → B → Type 0) (x : Option A) (y : Option B) (b : B) → Both R x y → y ≡ Some b → (a : A) × (x ≡ Some a) × R a b
both_right R x None b r e = cc
both_right R None (Some z) b r e = absurd r
both_right R (Some a) (Some z) b r e = let h : z ≡ b = cc in (a, refl, subst (λ u. R a u) h r)

module _ (k : Classes) (sound : Sound k) (c : List ℕ) (n : NodeAt) (v : Value) (i : IsNode k c n v) where
  pub targets_are : targets k c n ≡ targets_of v
  targets_are = ap (λ o. option_map_or targets_of o []) (value_is k c n v sound i)

  pub leaves_in_are : (g : Option Holder) → leaves_in g k c n ≡ leaves_at g n.at v
  leaves_in_are g = ap (λ o. option_map_or (leaves_at g n.at) o []) (value_is k c n v sound i)

  pub leaves_are : leaves k c n ≡ leaves_at None n.at v
  leaves_are = leaves_in_are None

  pub inside_in : (path : List Step) (m : NodeAt) (t : ℕ × ℕ) → inside k c n path ≡ Some m → target k c m ≡ Some t → Contains (targets k c n) t
  inside_in path m t e o =
      let r = both_left (IsNode k c) (inside k c n path) (within v path) m (inside_is k c path n v sound i) e in
      subst (λ z. Contains z t) (sym targets_are) (within_in path v r.0 t r.1 (sym (target_is k c m r.0 sound r.2) ∙ o))

  pub in_inside : (t : ℕ × ℕ) → Contains (targets k c n) t → (path : List Step) × (m : NodeAt) × (inside k c n path ≡ Some m) × (target k c m ≡ Some t)
  in_inside t j =
      let r = in_within v t (subst (λ z. Contains z t) targets_are j) in
      let b = both_right (IsNode k c) (inside k c n r.path) (within v r.path) r.value (inside_is k c r.path n v sound i) r.leads in
      (r.path, b.0, b.1, target_is k c b.0 r.value sound b.2 ∙ r.refers)

  pub refers_parts : RefersByParts k c n
  refers_parts = record {
    paths = λ t. (λ j. in_inside t j, λ (path, m, e, o). inside_in path m t e o);
    leaves_too = ap (filter_map leaf_target) leaves_are ∙ (leaf_targets k None n.at v i.fits ∙ sym targets_are);
  }

  pub node_leaves_within : length (leaves k c n) ≤ n.end - n.at
  node_leaves_within =
      let l : length (leaves_at None n.at v) ≤ length (bytes_of v) = leaves_within k None n.at v i.fits in
      let e : length (leaves k c n) ≡ length (leaves_at None n.at v) = ap length leaves_are in
      let b : length (bytes_of v) ≡ n.end - n.at = ap length (sym i.bytes) ∙ range_length c n.at n.end i.within in
      omega arith
