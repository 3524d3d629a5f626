-- A visit of the leaves of values, one after another.
use Rattle.std.specs.Prelude.{◌≡◌, ℕ, zero, suc, ◌+◌, ◌-◌, ◌<◌, ◌≤◌, false, List, [], ◌∷◌, ◌++◌, length, map, drop, slice_get, slice_range, Option, Some, None}
use Rattle.std.specs.List.{AllByRecursion}
use Rattle.std.specs.Option.{option_map_or}
use Rattle.std.proofs.Common.{ap, arith, get_or, refl, sym, ◌∙◌, subst}
use Rattle.std.proofs.lemmas.List.{append_assoc, append-nil, drop_more, length-append, length-map, map-append}
use Rattle.jfr_base.proofs.Ranges.{range_length}
use Rattle.jfr_layout.specs.Classes.{Class, Classes, find_class, kind_of}
use Rattle.jfr_layout.specs.declared.kind.Kind.TheVariants as kinds
use Rattle.jfr_layout.specs.declared.field_layout.FieldLayout.{FieldLayout}
use Rattle.jfr_layout.specs.declared.shape.Shape.{Shape}
use Rattle.jfr_value.specs.declared.leaf.Holder.{Holder}
use Rattle.jfr_value.specs.declared.leaf.LeafKind.{LeafKind}
use Rattle.jfr_value.specs.Values.{Value, Values, Cons, Nil, bytes_of}
use Rattle.jfr_value.specs.Nodes.{AreValues, IsNode, NodeAt, node_at}
use Rattle.jfr_value.specs.Leaves.{LeafAt, leaves_at}
use Rattle.jfr_value.specs.Visits.{AreToVisit, TakesAll, Visits, field_shapes, shapes_of_layouts}
use Rattle.jfr_value.specs.Walks.{fields_from, leaves_held}
use Rattle.jfr_value.proofs.LayoutLaws.{no_layout}
use Rattle.jfr_value.proofs.VisitLaws.{none_left, takes_append}
use Rattle.jfr_value.proofs.WalkLaws.{Taken, fields_next, first_of, no_leaves}

all_rest : {X : Type 0} (P : X → Type 0) (xs ys : List X) → AllByRecursion P (xs ++ ys) → AllByRecursion P ys
all_rest P [] ys a = a
all_rest P (x ∷ xs) ys a = all_rest P xs ys a.1

-- The leaves of these values, of which the first ones are admitted.
module _ (admits : LeafAt → Type 0) (k : Classes) (c : List ℕ) (end : ℕ) where
  -- The first value, with the others after it.
  pub first_to_visit : (g : Option Holder) (gs : List (Option Holder)) (s : Shape) (ss : List Shape) (at : ℕ) → AreToVisit admits k c end (g ∷ gs) (s ∷ ss) at
      → AreToVisit admits k c end (g ∷ []) (s ∷ []) at
  first_to_visit g gs s ss at a = record { other_holders = gs ++ a.other_holders; other_shapes = ss ++ a.other_shapes; values = a.values; row = a.row; admitted = a.admitted }

  -- The first values, with the others after them.
  pub front_to_visit : (gs hs : List (Option Holder)) (ss ts : List Shape) (at : ℕ) → AreToVisit admits k c end (gs ++ hs) (ss ++ ts) at → AreToVisit admits k c end gs ss at
  front_to_visit gs hs ss ts at a = record {
    other_holders = hs ++ a.other_holders;
    other_shapes = ts ++ a.other_shapes;
    values = a.values;
    row = subst (λ z. AreValues k c at end z a.values) (append_assoc ss ts a.other_shapes) a.row;
    admitted = subst (λ z. AllByRecursion admits (leaves_held z at a.values)) (append_assoc gs hs a.other_holders) a.admitted;
  }

  -- A leaf that comes first is admitted.
  pub leaf_admitted : (g : Option Holder) (s : Shape) (at to class : ℕ) (kind : LeafKind) (gs : List (Option Holder)) (ss : List Shape) (a : AreToVisit admits k c end (g ∷ []) (s ∷ []) at)
      → Taken k c at end to kind class ss a.values g a.other_holders gs
      → admits (record { kind = kind; class = class; holder = g; at = at; spelled = slice_range c at to })
  leaf_admitted g s at to class kind gs ss a t = (subst (AllByRecursion admits) t.leaves a.admitted).0

module _ {A : Type 0} (takes : LeafAt → A → A → Type 0) (k : Classes) (c : List ℕ) (end : ℕ) where
  -- What is left is still to visit.
  pub left_to_visit : (admits : LeafAt → Type 0) (gs hs : List (Option Holder)) (ss ts : List Shape) (at to before after : ℕ) (old new : A)
      → Visits takes k c end gs ss at old before hs ts to new after → AreToVisit admits k c end gs ss at → AreToVisit admits k c end hs ts to
  left_to_visit admits gs hs ss ts at to before after old new v a =
      let p = v a.other_holders a.other_shapes a.values a.row in
      record {
        other_holders = a.other_holders;
        other_shapes = a.other_shapes;
        values = p.others;
        row = p.row;
        admitted = all_rest admits p.first (leaves_held (hs ++ a.other_holders) to p.others)
            (subst (AllByRecursion admits) p.leaves a.admitted);
      }

  -- A visit that hasn't begun.
  pub visits_none : (gs : List (Option Holder)) (ss : List Shape) (at before : ℕ) (old : A) → Visits takes k c end gs ss at old before gs ss at old before
  visits_none gs ss at before old = λ is us vs r. record { first = []; others = vs; row = r; leaves = refl; taken = refl; steps = omega arith }

  -- One visit after another.
  pub visits_then : (gs hs is : List (Option Holder)) (ss ts us : List Shape) (at mid to before between after : ℕ) (old now new : A) → Visits takes k c end gs ss at old before hs ts mid now between
      → Visits takes k c end hs ts mid now between is us to new after → Visits takes k c end gs ss at old before is us to new after
  visits_then gs hs is ss ts us at mid to before between after old now new v w = λ js xs vs r.
      (let p = v js xs vs r in
      let q = w js xs p.others p.row in
      record {
        first = p.first ++ q.first;
        others = q.others;
        row = q.row;
        leaves = p.leaves ∙ (ap (λ z. p.first ++ z) q.leaves ∙ sym (append_assoc p.first q.first (leaves_held (is ++ js) to q.others)));
        taken = takes_append takes p.first q.first old now new p.taken q.taken;
        steps = (let x = p.steps in let y = q.steps in let l = length-append p.first q.first in omega arith);
      })

  -- The first value, with the others after it.
  pub visits_first : (g : Option Holder) (gs : List (Option Holder)) (s : Shape) (ss : List Shape) (at to before after : ℕ) (old new : A)
      → Visits takes k c end (g ∷ []) (s ∷ []) at old before [] [] to new after → Visits takes k c end (g ∷ gs) (s ∷ ss) at old before gs ss to new after
  visits_first g gs s ss at to before after old new v = λ is us vs r. v (gs ++ is) (ss ++ us) vs r

  -- The first values, with the others after them.
  pub visits_front : (gs hs : List (Option Holder)) (ss ts : List Shape) (at to before after : ℕ) (old new : A) → Visits takes k c end gs ss at old before [] [] to new after
      → Visits takes k c end (gs ++ hs) (ss ++ ts) at old before hs ts to new after
  visits_front gs hs ss ts at to before after old new v = λ is us vs r.
      (let p = v (hs ++ is) (ts ++ us) vs (subst (λ z. AreValues k c at end z vs) (append_assoc ss ts us) r) in
      record { first = p.first; others = p.others; row = p.row; leaves = ap (λ z. leaves_held z at vs) (append_assoc gs hs is) ∙ p.leaves; taken = p.taken; steps = p.steps })

  -- A visit that goes on with the next value.
  pub visits_next : (gs hs is : List (Option Holder)) (ss ts us : List Shape) (g : Option Holder) (s : Shape) (at mid to before between after : ℕ) (old now new : A) → hs ≡ g ∷ is → ts ≡ s ∷ us
      → Visits takes k c end gs ss at old before hs ts mid now between → Visits takes k c end (g ∷ []) (s ∷ []) mid now between [] [] to new after
      → Visits takes k c end gs ss at old before is us to new after
  visits_next gs hs is ss ts us g s at mid to before between after old now new e q v w =
      visits_then gs (g ∷ is) is ss (s ∷ us) us at mid to before between after old now new
      (subst (λ z. Visits takes k c end gs ss at old before z (s ∷ us) mid now between) e (subst (λ z. Visits takes k c end gs ss at old before hs z mid now between) q v))
      (visits_first g is s us mid to between after now new w)

  pub next_to_visit : (admits : LeafAt → Type 0) (gs hs is : List (Option Holder)) (ss ts us : List Shape) (g : Option Holder) (s : Shape) (at mid before between : ℕ) (old now : A) → hs ≡ g ∷ is
      → ts ≡ s ∷ us
      → Visits takes k c end gs ss at old before hs ts mid now between → AreToVisit admits k c end gs ss at → AreToVisit admits k c end (g ∷ []) (s ∷ []) mid
  next_to_visit admits gs hs is ss ts us g s at mid before between old now e q v a =
      first_to_visit admits k c end g is s us mid
      (left_to_visit admits gs (g ∷ is) ss (s ∷ us) at mid before between old now
      (subst (λ z. Visits takes k c end gs ss at old before z (s ∷ us) mid now between) e (subst (λ z. Visits takes k c end gs ss at old before hs z mid now between) q v)) a)

  -- A visit that ends.
  pub visits_end : (gs hs : List (Option Holder)) (ss ts : List Shape) (at to before after : ℕ) (old new : A) → hs ≡ [] → ts ≡ [] → Visits takes k c end gs ss at old before hs ts to new after
      → Visits takes k c end gs ss at old before [] [] to new after
  visits_end gs hs ss ts at to before after old new e q v =
      subst (λ z. Visits takes k c end gs ss at old before z [] to new after) e (subst (λ z. Visits takes k c end gs ss at old before hs z to new after) q v)

  -- A leaf that comes first.
  pub visits_leaf : (g : Option Holder) (hs : List (Option Holder)) (s : Shape) (ts : List Shape) (at to before after class : ℕ) (kind : LeafKind) (old new : A)
      → ((is : List (Option Holder)) (us : List Shape) (vs : Values) → AreValues k c at end (s ∷ us) vs → Taken k c at end to kind class (ts ++ us) vs g is (hs ++ is))
      → takes (record { kind = kind; class = class; holder = g; at = at; spelled = slice_range c at to }) old new → after ≡ before + 1
      → Visits takes k c end (g ∷ []) (s ∷ []) at old before hs ts to new after
  visits_leaf g hs s ts at to before after class kind old new t h e = λ is us vs r.
      (let p = t is us vs r in
      record {
        first = record { kind = kind; class = class; holder = g; at = at; spelled = slice_range c at to } ∷ [];
        others = p.others;
        row = p.row;
        leaves = p.leaves;
        taken =
            (new, h, refl);
        steps = e;
      })

  -- A composite value: its fields come next.
  pub visits_fields : (g : Option Holder) (s : Shape) (d : Class) (place at before : ℕ) (old : A) → s.array ≡ false → s.constant ≡ false → find_class k s.class ≡ Some d → slice_get k place ≡ Some d
      → kind_of d.name ≡ kinds.Composite
      → Visits takes k c end (g ∷ []) (s ∷ []) at old before (fields_from s.class 0 (field_shapes k place)) (field_shapes k place) at old before
  visits_fields g s d place at before old a o q t m =
      subst (λ z. Visits takes k c end (g ∷ []) (s ∷ []) at old before (fields_from s.class 0 z) z at old before) (sym (ap (λ o. option_map_or (λ c. map (λ f. f.shape) c.fields) o []) t))
      (λ is us vs r. (let n = fields_next k c at end s us g is vs d r a o q m in
      record { first = []; others = n.0; row = n.1; leaves = n.2; taken = refl; steps = omega arith }))

-- The node of the first value.
pub record FirstNode (k : Classes) (c : List ℕ) (end : ℕ) (s : Shape) (at : ℕ) : Type 0 where
  pub to : ℕ
  pub value : Value
  pub node : IsNode k c (node_at s at to) value
  pub within : to ≤ end

pub first_node : (admits : LeafAt → Type 0) (k : Classes) (c : List ℕ) (end : ℕ) (g : Option Holder) (s : Shape) (at : ℕ) → AreToVisit admits k c end (g ∷ []) (s ∷ []) at → FirstNode k c end s at
first_node admits k c end g s at a =
    let f = first_of k c at end s a.other_shapes a.values a.row in
    record {
      to = at + length (bytes_of f.value);
      value = f.value;
      node = record { shape = sym f.shape; order = f.holds.order; within = f.holds.within; bytes = f.holds.bytes; fits = f.fits };
      within =
          f.row.order;
    }

-- A whole value.
node_row : (k : Classes) (c : List ℕ) (n : NodeAt) (v : Value) → IsNode k c n v → AreValues k c n.at n.end (n.shape ∷ []) (Cons v Nil)
node_row k c n v i = record { order = i.order; within = i.within; bytes = i.bytes ∙ sym (append-nil (bytes_of v)); fit = (i.fits, tt); of_shapes = ap (λ z. z ∷ []) (sym i.shape) }

pub to_visit_node : (admits : LeafAt → Type 0) (k : Classes) (c : List ℕ) (n : NodeAt) (v : Value) → IsNode k c n v → AllByRecursion admits (leaves_at None n.at v)
    → AreToVisit admits k c n.end (None ∷ []) (n.shape ∷ []) n.at
to_visit_node admits k c n v i a = record {
  other_holders = [];
  other_shapes = [];
  values = Cons v Nil;
  row = node_row k c n v i;
  admitted = subst (AllByRecursion admits)
      (sym (append-nil (leaves_at None n.at v))) a;
}

pub visits_node : {A : Type 0} (takes : LeafAt → A → A → Type 0) (k : Classes) (c : List ℕ) (n : NodeAt) (v : Value) (to before after : ℕ) (old new : A) → IsNode k c n v
    → Visits takes k c n.end (None ∷ []) (n.shape ∷ []) n.at old before [] [] to new after
    → TakesAll takes (leaves_at None n.at v) old new × (after ≡ before + length (leaves_at None n.at v)) × (to ≡ n.end)
visits_node takes k c n v to before after old new i w =
    let p = w [] [] (Cons v Nil) (node_row k c n v i) in
    let l : leaves_at None n.at v ≡ p.first = sym (append-nil (leaves_at None n.at v)) ∙ (p.leaves ∙ (ap (λ z. p.first ++ z) (no_leaves k c to n.end [] p.others p.row) ∙ append-nil p.first)) in
    (subst (λ z. TakesAll takes z old new) (sym l) p.taken, (let s = p.steps in let x = ap length l in omega arith), (none_left k c to n.end [] p.others p.row refl).ends)

-- A leaf ends where its bytes do.
pub leaf_end : (c : List ℕ) (l m : LeafAt) (to : ℕ) → l ≡ m → m.spelled ≡ slice_range c m.at to → m.at ≤ to → to ≤ length c → l.at + length l.spelled ≡ to
leaf_end c l m to e s o w =
    let x : length m.spelled ≡ to - m.at = ap length s ∙ range_length c m.at to w in
    let y : l.at + length l.spelled ≡ m.at + length m.spelled = ap (λ (z : LeafAt). z.at + length z.spelled) e in
    omega arith

-- The fields of a class in two parts.
pub fields_from_append : (class number : ℕ) (ss ts : List Shape) → fields_from class number (ss ++ ts) ≡ fields_from class number ss ++ fields_from class (number + length ss) ts
fields_from_append class number [] ts = let e : number ≡ number + 0 = omega arith in ap (λ n. fields_from class n ts) e
fields_from_append class number (s ∷ ss) ts =
    let e : number + 1 + length ss ≡ number + length (s ∷ ss) = omega arith in
    ap (λ z. Some (record { class = class; field = number }) ∷ z) (fields_from_append class (number + 1) ss ts ∙ ap (λ n. fields_from class (number + 1) ss ++ fields_from class n ts) e)

-- The next of some fields.
pub layout_next : (ss : List FieldLayout) (class number i : ℕ) → i < length ss
    → (shapes_of_layouts (drop i ss) ≡ (get_or ss i no_layout).shape ∷ shapes_of_layouts (drop (i + 1) ss))
    × (fields_from class (number + i) (shapes_of_layouts (drop i ss)) ≡ Some (record { class = class; field = number + i }) ∷ fields_from class (number + (i + 1))
    (shapes_of_layouts (drop (i + 1) ss)))
layout_next ss class number i h =
    let e : shapes_of_layouts (drop i ss) ≡ (get_or ss i no_layout).shape ∷ shapes_of_layouts (drop (i + 1) ss) = ap shapes_of_layouts (drop_more ss i no_layout h) in
    let n : number + i + 1 ≡ number + (i + 1) = omega arith in
    (e, ap (fields_from class (number + i)) e ∙ ap (λ m. Some (record { class = class; field = number + i }) ∷ fields_from class m (shapes_of_layouts (drop (i + 1) ss))) n)

pub shape_there : (P : Shape → Type 0) (ss : List FieldLayout) (i : ℕ) → AllByRecursion P (shapes_of_layouts ss) → i < length ss → P (get_or ss i no_layout).shape
shape_there P [] i a h = absurd (omega arith)
shape_there P (s ∷ ss) zero a h = a.0
shape_there P (s ∷ ss) (suc i) a h = shape_there P ss i a.1 (omega arith)

-- The next of some fused fields: `passed`, before `rest`.
module _ (k : Classes) (c : List ℕ) (end class number : ℕ) (left passed rest : List FieldLayout) (fields : ℕ) (e : left ≡ passed ++ rest) (n : length passed ≡ fields) where
  shapes_left : shapes_of_layouts left ≡ shapes_of_layouts passed ++ shapes_of_layouts rest
  shapes_left = ap shapes_of_layouts e ∙ map-append (λ s. s.shape) passed rest

  holders_left : fields_from class number (shapes_of_layouts left) ≡ fields_from class number (shapes_of_layouts passed) ++ fields_from class (number + fields) (shapes_of_layouts rest)
  holders_left =
      ap (fields_from class number) shapes_left
      ∙ (fields_from_append class number (shapes_of_layouts passed) (shapes_of_layouts rest)
      ∙ ap (λ m. fields_from class number (shapes_of_layouts passed) ++ fields_from class (number + m) (shapes_of_layouts rest)) (length-map passed (λ s. s.shape) ∙ n))

  pub fused_to_visit : (admits : LeafAt → Type 0) (at : ℕ) → AreToVisit admits k c end (fields_from class number (shapes_of_layouts left)) (shapes_of_layouts left) at
      → AreToVisit admits k c end (fields_from class number (shapes_of_layouts passed)) (shapes_of_layouts passed) at
  fused_to_visit admits at a =
      front_to_visit admits k c end (fields_from class number (shapes_of_layouts passed)) (fields_from class (number + fields) (shapes_of_layouts rest)) (shapes_of_layouts passed)
      (shapes_of_layouts rest) at
      (subst (λ z. AreToVisit admits k c end z (shapes_of_layouts passed ++ shapes_of_layouts rest) at) holders_left
      (subst (λ z. AreToVisit admits k c end (fields_from class number (shapes_of_layouts left)) z at) shapes_left a))

  pub fused_visited : {A : Type 0} (takes : LeafAt → A → A → Type 0) (gs : List (Option Holder)) (ss : List Shape) (at mid to before between after : ℕ) (old now new : A)
      → Visits takes k c end gs ss at old before (fields_from class number (shapes_of_layouts left)) (shapes_of_layouts left) mid now between
      → Visits takes k c end (fields_from class number (shapes_of_layouts passed)) (shapes_of_layouts passed) mid now between [] [] to new after
      → Visits takes k c end gs ss at old before (fields_from class (number + fields) (shapes_of_layouts rest)) (shapes_of_layouts rest) to new after
  fused_visited takes gs ss at mid to before between after old now new v w =
      let hs = fields_from class number (shapes_of_layouts passed) in
      let is = fields_from class (number + fields) (shapes_of_layouts rest) in
      let ts = shapes_of_layouts passed in
      let us = shapes_of_layouts rest in
      visits_then takes k c end gs (hs ++ is) is ss (ts ++ us) us at mid to before between after old now new
      (subst (λ z. Visits takes k c end gs ss at old before z (ts ++ us) mid now between) holders_left
      (subst (λ z. Visits takes k c end gs ss at old before (fields_from class number (shapes_of_layouts left)) z mid now between) shapes_left v))
      (visits_front takes k c end hs is ts us mid to between after now new w)
