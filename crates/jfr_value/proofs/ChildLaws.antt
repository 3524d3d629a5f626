-- When a node has a field or an item, and which.
use Rattle.std.specs.Prelude.{◌≡◌, ◌≢◌, ℕ, zero, suc, ◌+◌, ◌<◌, ◌≤◌, Bool, true, false, List, [], ◌∷◌, length, map, replicate, slice_get, Option, Some, None, IsSome, IfSome, if◌then◌else◌}
use Rattle.std.proofs.Common.{ap, arith, refl, sym, ◌∙◌, subst, inl, inr}
use Rattle.std.proofs.lemmas.List.{length-map}
use Rattle.jfr_base.specs.declared.integer.Var.{Var}
use Rattle.jfr_base.specs.Formats.{int_at}
use Rattle.jfr_layout.specs.Classes.{AreFieldLayouts, Class, Classes, Field, Sound, find_class, kind_of, item_of}
use Rattle.jfr_layout.specs.declared.kind.Kind.{Kind}
use Rattle.jfr_layout.specs.declared.kind.Kind.TheVariants as kinds
use Rattle.jfr_layout.specs.declared.shape.Shape.{Shape}
use Rattle.jfr_layout.specs.declared.field_layout.FieldLayout.{FieldLayout}
use Rattle.jfr_value.specs.declared.node.Node.{Node}
use Rattle.jfr_value.specs.declared.node.Step.{Step}
use Rattle.jfr_value.specs.declared.node.Step.TheVariants as steps
use Rattle.jfr_value.specs.Values.{Value, Values, Single, Group, Nil, Cons, list_of, shape_of, shapes_of, head_of, parts_of, bytes_of, IsSingle, IsHead, Fits}
use Rattle.jfr_value.specs.Nodes.{NodeAt, IsNode, IsValue, AreValues, Both, node_of, laid, laid_in, children, picked, child}
use Rattle.jfr_value.proofs.PlaceLaws.{get_within, kind_there}
use Rattle.jfr_value.proofs.NodeForms.{array_form, fields_form}
use Rattle.jfr_value.proofs.NodeLaws.{part, child_is, children_are}
use Rattle.jfr_value.proofs.LayoutLaws.{layouts_of}

-- A value that is neither an array nor a constant is of a known class.
pub inline_known : (k : Classes) (v : Value) → (shape_of v).array ≡ false → (shape_of v).constant ≡ false → Fits k v → IsSome (find_class k (shape_of v).class)
inline_known k (Single s kind b key) a o f = by_case f
  where
    by_case : IsSingle k s kind b key → IsSome (find_class k s.class)
    by_case (inl p) = cc
    by_case (inr p) = subst (λ z. IsSome z) (sym p.3) refl
inline_known k (Group s h vs) a o f = by_case f.0
  where
    by_case : IsHead k s h (shapes_of vs) → IsSome (find_class k s.class)
    by_case (inl p) = cc
    by_case (inr p) = subst (λ z. IsSome z) (sym p.3) refl

-- A constant that is no array has no parts, and neither has a value of a base name.
pub constant_alone : (k : Classes) (v : Value) → (shape_of v).array ≡ false → (shape_of v).constant ≡ true → Fits k v → parts_of v ≡ []
constant_alone k (Single s kind b key) a o f = refl
constant_alone k (Group s h vs) a o f = by_case f.0
  where
    by_case : IsHead k s h (shapes_of vs) → list_of vs ≡ []
    by_case (inl p) = cc
    by_case (inr p) = cc

pub base_alone : (k : Classes) (v : Value) (c : Class) → (shape_of v).array ≡ false → find_class k (shape_of v).class ≡ Some c → kind_of c.name ≢ kinds.Composite → Fits k v → parts_of v ≡ []
base_alone k (Single s kind b key) c a q n f = refl
base_alone k (Group s h vs) c a q n f = by_case f.0
  where
    by_case : IsHead k s h (shapes_of vs) → list_of vs ≡ []
    by_case (inl p) = cc
    by_case (inr p) = absurd (n (let e : c ≡ p.2 = (let x = p.3 in cc) in ap (λ (z : Class). kind_of z.name) e ∙ p.4))

-- The values of the fields of a composite node lie one after another, from its start to its end.
pub record FieldsIn (k : Classes) (c : List ℕ) (n : NodeAt) (v : Value) (fs : List Field) : Type 0 where
  pub parts : Values
  pub row : AreValues k c n.at n.end (map (λ f. f.shape) fs) parts
  pub is : laid_in n.at v ≡ laid n.at (list_of parts)

pub fields_in : (k : Classes) (c : List ℕ) (n : NodeAt) (v : Value) (d : Class) → IsNode k c n v → n.shape.array ≡ false → n.shape.constant ≡ false → find_class k n.shape.class ≡ Some d
    → kind_of d.name ≡ kinds.Composite → FieldsIn k c n v d.fields
fields_in k c n v d i a o q m =
    let f = fields_form k c n.at n.end n.shape v d i a o q m in
    let z : n.at + 0 ≡ n.at = omega arith in
    record { parts = f.parts; row = f.row; is = ap (laid_in n.at) f.value ∙ ap (λ y. laid y (list_of f.parts)) z }

-- The items of an array lie one after another, from the end of its count.
pub record ItemsIn (k : Classes) (c : List ℕ) (n : NodeAt) (v : Value) : Type 0 where
  pub count : ℕ
  pub place : ℕ
  pub counted : int_at c n.at n.end ≡ Some (record { value = count; end = place })
  pub within : place ≤ n.end
  pub parts : Values
  pub row : AreValues k c place n.end (replicate count (item_of n.shape)) parts
  pub is : laid_in n.at v ≡ laid place (list_of parts)

pub items_in : (k : Classes) (c : List ℕ) (n : NodeAt) (v : Value) → IsNode k c n v → n.shape.array ≡ true → ItemsIn k c n v
items_in k c n v i a =
    let f = array_form k c n.at n.end n.shape n.end (omega arith) i.within v i a in
    record {
      count = f.count.value;
      place = f.count.end;
      counted = f.found;
      within = f.within;
      parts = f.parts;
      row = f.row;
      is = ap (laid_in n.at) f.value
          ∙ ap (λ y. laid y (list_of f.parts)) (sym f.ends);
    }

past_end : (at : ℕ) (vs : Values) (ss : List Shape) (i : ℕ) → shapes_of vs ≡ ss → length ss ≤ i → slice_get (laid at (list_of vs)) i ≡ None
past_end at Nil ss i e h = refl
past_end at (Cons v vs) [] i e h = cc
past_end at (Cons v vs) (s ∷ ss) zero e h = absurd (omega arith)
past_end at (Cons v vs) (s ∷ ss) (suc i) e h = past_end (at + length (bytes_of v)) vs ss i (let x : shape_of v ∷ shapes_of vs ≡ s ∷ ss = e in cc) (omega arith)

field_picked : {A : Type 0} (s : Shape) (xs : List A) (i : ℕ) → s.array ≡ false → picked s xs (steps.Field i) ≡ slice_get xs i
field_picked s xs i a = ap (λ t. if t then None else slice_get xs i) a

item_picked : {A : Type 0} (s : Shape) (xs : List A) (i : ℕ) → s.array ≡ true → picked s xs (steps.Item i) ≡ slice_get xs i
item_picked s xs i a = ap (λ t. if t then slice_get xs i else None) a

module _ (k : Classes) (c : List ℕ) (n : NodeAt) (v : Value) (sound : Sound k) (i : IsNode k c n v) where
  pub no_field_of_array : (j : ℕ) → n.shape.array ≡ true → child k c n (steps.Field j) ≡ None
  no_field_of_array j a = ap (λ t. if t then None else slice_get (children k c n) j) a

  pub no_item_of_one : (j : ℕ) → n.shape.array ≡ false → child k c n (steps.Item j) ≡ None
  no_item_of_one j a = ap (λ t. if t then slice_get (children k c n) j else None) a

  no_part : (j : ℕ) → n.shape.array ≡ false → parts_of v ≡ [] → child k c n (steps.Field j) ≡ None
  no_part j a e =
      field_picked n.shape (children k c n) j a ∙ (ap (λ z. slice_get z j) (children_are k c n v sound i) ∙ ap (λ z. slice_get (laid (n.at + length (head_of v)) z) j) e)

  pub no_field_of_constant : (j : ℕ) → n.shape.array ≡ false → n.shape.constant ≡ true → child k c n (steps.Field j) ≡ None
  no_field_of_constant j a o = no_part j a (constant_alone k v (ap (λ (z : Shape). z.array) (sym i.shape) ∙ a) (ap (λ (z : Shape). z.constant) (sym i.shape) ∙ o) i.fits)

  pub no_field_of_base : (j : ℕ) (d : Class) → n.shape.array ≡ false → find_class k n.shape.class ≡ Some d → kind_of d.name ≢ kinds.Composite → child k c n (steps.Field j) ≡ None
  no_field_of_base j d a q m = no_part j a (base_alone k v d (ap (λ (z : Shape). z.array) (sym i.shape) ∙ a) (ap (λ (z : Shape). find_class k z.class) (sym i.shape) ∙ q) m i.fits)

  pub no_field_of_kind : (j place : ℕ) (kind : Kind) → n.shape.array ≡ false → slice_get k place ≡ find_class k n.shape.class → place < length k
      → IfSome (slice_get k place) (λ c. kind ≡ kind_of c.name) → kind ≢ kinds.Composite → child k c n (steps.Field j) ≡ None
  no_field_of_kind j place kind a q l e m =
      let d = get_within k place l in
      no_field_of_base j d.0 a (sym q ∙ d.1) (λ z. m (kind_there k place d.0 kind e d.1 ∙ z))

  pub no_field_of_unknown : (j : ℕ) → find_class k n.shape.class ≡ None → child k c n (steps.Field j) ≡ None
  no_field_of_unknown j q = by_array n.shape.array refl
    where
      by_constant : (t : Bool) → n.shape.array ≡ false → n.shape.constant ≡ t → child k c n (steps.Field j) ≡ None
      by_constant true a o = no_field_of_constant j a o
      by_constant false a o = let x : IsSome {T = Class} None = subst (λ z. IsSome z) q
          (subst (λ (z : Shape). IsSome (find_class k z.class)) (sym i.shape)
          (inline_known k v (ap (λ (z : Shape). z.array) (sym i.shape) ∙ a) (ap (λ (z : Shape). z.constant) (sym i.shape) ∙ o) i.fits)) in cc

      by_array : (t : Bool) → n.shape.array ≡ t → child k c n (steps.Field j) ≡ None
      by_array true a = no_field_of_array j a
      by_array false a = by_constant n.shape.constant a refl

  pub field_is : (j : ℕ) (d : Class) → n.shape.array ≡ false → n.shape.constant ≡ false → find_class k n.shape.class ≡ Some d → kind_of d.name ≡ kinds.Composite
      → (vs : Values) × AreValues k c n.at n.end (map (λ f. f.shape) d.fields) vs × (child k c n (steps.Field j) ≡ slice_get (laid n.at (list_of vs)) j)
  field_is j d a o q m =
      let f = fields_in k c n v d i a o q m in
      (f.parts, f.row, field_picked n.shape (children k c n) j a ∙ ap (λ z. slice_get z j) (children_are k c n v sound i ∙ f.is))

  -- The field with a number, by the layouts of the class.
  pub field_row : (j place : ℕ) (kind : Kind) (ss : List FieldLayout) → n.shape.array ≡ false → n.shape.constant ≡ false → slice_get k place ≡ find_class k n.shape.class → place < length k
      → IfSome (slice_get k place) (λ c. kind ≡ kind_of c.name) → kind ≡ kinds.Composite → IfSome (slice_get k place) (λ c. AreFieldLayouts k c.fields ss)
      → (vs : Values) × AreValues k c n.at n.end (map (λ s. s.shape) ss) vs × (child k c n (steps.Field j) ≡ slice_get (laid n.at (list_of vs)) j)
  field_row j place kind ss a o q l e m h =
      let d = layouts_of k place ss l h in
      let f = field_is j d.class a o (sym q ∙ d.there) (sym (kind_there k place d.class kind e d.there) ∙ m) in
      (f.0, subst (λ z. AreValues k c n.at n.end z f.0) (sym d.layouts.shapes) f.1, f.2)

  pub no_field_past : (j place : ℕ) (kind : Kind) (ss : List FieldLayout) → n.shape.array ≡ false → n.shape.constant ≡ false → slice_get k place ≡ find_class k n.shape.class → place < length k
      → IfSome (slice_get k place) (λ c. kind ≡ kind_of c.name) → kind ≡ kinds.Composite → IfSome (slice_get k place) (λ c. AreFieldLayouts k c.fields ss)
      → length ss ≤ j → child k c n (steps.Field j) ≡ None
  no_field_past j place kind ss a o q l e m h b =
      let f = field_row j place kind ss a o q l e m h in
      f.2 ∙ past_end n.at f.0 (map (λ s. s.shape) ss) j f.1.of_shapes (let z = length-map ss (λ (s : FieldLayout). s.shape) in omega arith)

  pub item_is : (j : ℕ) (w : Var) → n.shape.array ≡ true → int_at c n.at n.end ≡ Some w
      → (w.end ≤ n.end) × ((vs : Values) × AreValues k c w.end n.end (replicate w.value (item_of n.shape)) vs × (child k c n (steps.Item j) ≡ slice_get (laid w.end (list_of vs)) j))
  item_is j w a e =
      let f = items_in k c n v i a in
      let q : record { value = f.count; end = f.place } ≡ w = (let x = f.counted in cc) in
      subst (λ (w : Var). (w.end ≤ n.end) × ((vs : Values) × AreValues k c w.end n.end (replicate w.value (item_of n.shape)) vs × (child k c n (steps.Item j) ≡ slice_get (laid w.end (list_of vs)) j)))
      q
      (f.within, (f.parts, f.row, item_picked n.shape (children k c n) j a ∙ ap (λ z. slice_get z j) (children_are k c n v sound i ∙ f.is)))

  pub no_item_past : (j : ℕ) (w : Var) → n.shape.array ≡ true → int_at c n.at n.end ≡ Some w → length (replicate w.value (item_of n.shape)) ≤ j → child k c n (steps.Item j) ≡ None
  no_item_past j w a e h = let f = (item_is j w a e).1 in f.2 ∙ past_end w.end f.0 (replicate w.value (item_of n.shape)) j f.1.of_shapes h

  pub has_count : n.shape.array ≡ true → int_at c n.at n.end ≡ None → ⊥
  has_count a e = let f = items_in k c n v i a in let x = f.counted in cc

  -- An array with an item that isn't a constant is of a known class.
  pub items_known : (j : ℕ) (w : Var) → n.shape.array ≡ true → int_at c n.at n.end ≡ Some w → j < w.value → n.shape.constant ≡ false → IsSome (find_class k n.shape.class)
  items_known j w a e l o = by_row w.value (item_is j w a e).1.0 l (item_is j w a e).1.1
    where
      by_row : (m : ℕ) (vs : Values) → j < m → AreValues k c w.end n.end (replicate m (item_of n.shape)) vs → IsSome (find_class k n.shape.class)
      by_row zero vs l r = absurd (omega arith)
      by_row (suc m) Nil l r = let x = r.of_shapes in cc
      by_row (suc m) (Cons u vs) l r =
          let q : shape_of u ≡ item_of n.shape = (let x : shape_of u ∷ shapes_of vs ≡ item_of n.shape ∷ replicate m (item_of n.shape) = r.of_shapes in cc) in
          subst (λ (z : Shape). IsSome (find_class k z.class)) q (inline_known k u (ap (λ (z : Shape). z.array) q) (ap (λ (z : Shape). z.constant) q ∙ o) r.fit.0)

-- The node to which a step of the code leads is one of a value.
pub child_value : (k : Classes) (n m : Node) (step : Step) → Sound k → IsValue k n → m.bytes.now ≡ n.bytes.now → child k n.bytes.now (node_of n) step ≡ Some (node_of m) → IsValue k m
child_value k n m step sound (v, i) b e =
    by_part (part v step) (subst (λ z. Both (IsNode k n.bytes.now) z (part v step)) e (child_is k n.bytes.now (node_of n) v sound i step))
  where
    by_part : (o : Option Value) → Both (IsNode k n.bytes.now) (Some (node_of m)) o → IsValue k m
    by_part None r = absurd r
    by_part (Some w) r = (w, subst (λ z. IsNode k z (node_of m) w) (sym b) r)
