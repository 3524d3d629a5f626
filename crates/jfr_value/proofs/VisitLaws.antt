-- A visit of a value, part by part.
use Rattle.std.specs.Prelude.{◌≡◌, ◌≢◌, ℕ, zero, suc, ◌+◌, ◌-◌, ◌<◌, ◌≤◌, Bool, true, false, List, [], ◌∷◌, ◌++◌, length, map, replicate, drop, slice_get, slice_range, Option, Some, None, IsSome, IfSome, Ok, option_map, option_to_list, if◌then◌else◌}
use Rattle.std.specs.Option.{option_map_or}
use Rattle.std.specs.List.{AllByRecursion, cons_option, filter_map}
use Rattle.std.proofs.Common.{ap, arith, refl, sym, ◌∙◌, subst}
use Rattle.std.proofs.lemmas.List.{drop_all, length-map, nil_from_length}
use Rattle.jfr_base.specs.declared.integer.Var.{Var}
use Rattle.jfr_base.specs.Integer.{worth_within}
use Rattle.jfr_base.specs.Formats.{int_at, run, end_or_flaw}
use Rattle.jfr_base.proofs.Ranges.{range_length}
use Rattle.jfr_base.proofs.RunLaws.{exact_run}
use Rattle.jfr_text.specs.Strings.{Content, string_format}
use Rattle.jfr_layout.specs.Classes.{Class, Classes, Field, field_at, find_class, kind_of, item_of}
use Rattle.jfr_layout.specs.declared.form.Form.{Form}
use Rattle.jfr_layout.specs.declared.kind.Kind.{Kind}
use Rattle.jfr_layout.specs.declared.kind.Kind.TheVariants as kinds
use Rattle.jfr_layout.specs.declared.shape.Shape.{Shape}
use Rattle.jfr_value.specs.declared.leaf.LeafKind.TheVariants as leaf_kinds
use Rattle.jfr_value.specs.Values.{Value, Values, Single, Nil, Cons, shape_of, shapes_of, bytes_of, bytes_of_all, targets_of, targets_of_all, key_of, IsBase, IsHollow, AllFit}
use Rattle.jfr_value.specs.Reading.{base_format}
use Rattle.jfr_value.specs.Nodes.{node_at, IsNode, AreValues}
use Rattle.jfr_value.specs.Leaves.{leaf_target, leaves_at, leaves_from}
use Rattle.jfr_value.specs.Visits.{TakesAll, field_shapes}
use Rattle.jfr_value.specs.Walks.{IsLayoutIfKnown, DepthBound}
use Rattle.jfr_value.proofs.ChildLaws.{inline_known}
use Rattle.jfr_value.proofs.FitLaws.{is_base}
use Rattle.jfr_value.proofs.LeafLaws.{all_within, leaf_targets_from, same_counts}
use Rattle.jfr_value.proofs.NodeForms.{BaseForm, array_form, base_form, fields_form, key_form, no_key}
use Rattle.jfr_value.proofs.PlaceLaws.{get_within, placed_class, placed_some, placed_within}
use Rattle.jfr_value.proofs.RowLaws.{hollow_bytes}
use Rattle.jfr_value.proofs.LayoutLaws.{layout_class}
use Rattle.jfr_value.proofs.StackLaws.{field_there, inner_depth}
use Rattle.jfr_value.proofs.StringLaws.{is_exact}

-- Members that are taken after others.
pub takes_append : {A X : Type 0} (takes : X → A → A → Type 0) (xs ys : List X) (a b c : A) → TakesAll takes xs a b → TakesAll takes ys b c → TakesAll takes (xs ++ ys) a c
takes_append takes [] ys a b c e h = subst (λ z. TakesAll takes ys z c) (sym e) h
takes_append takes (x ∷ xs) ys a b c g h = (g.0, g.1, takes_append takes xs ys g.0 b c g.2 h)

-- What is taken for each member, if it has something, is taken for the list of what they have.
pub takes_filtered : {A X Y : Type 0} (takes : Y → A → A → Type 0) (f : X → Option Y) (xs : List X) (old new : A) → TakesAll (λ x. TakesAll takes (option_to_list (f x))) xs old new
    → TakesAll takes (filter_map f xs) old new
takes_filtered takes f [] old new h = h
takes_filtered {Y = Y} takes f (x ∷ xs) old new h = by_one (f x) h.1 (takes_filtered takes f xs h.0 new h.2)
  where
    by_one : (o : Option Y) → TakesAll takes (option_to_list o) old h.0 → TakesAll takes (filter_map f xs) h.0 new → TakesAll takes (cons_option o (filter_map f xs)) old new
    by_one None e rest = subst (λ z. TakesAll takes (filter_map f xs) z new) (sym e) rest
    by_one (Some y) e rest = (e.0, e.1, subst (λ z. TakesAll takes (filter_map f xs) z new) (sym e.2) rest)

module _ (k : Classes) (c : List ℕ) (at to end : ℕ) (s : Shape) (l : to ≤ end) (w : end ≤ length c) where
  -- A reference: its key is there.
  pub record KeyNode (v : Value) : Type 0 where
    pub key : ℕ
    pub found : int_at c at end ≡ Some (record { value = key; end = to })
    pub leaves : length (leaves_at None at v) ≡ 1
    pub targets : targets_of v ≡ (s.class, key) ∷ []

  pub key_node : (v : Value) → IsNode k c (node_at s at to) v → s.array ≡ false → s.constant ≡ true → KeyNode v
  key_node v i a o = let f = key_form k c at to s end l w v i a o in record { key = f.key; found = f.found; leaves = ap (λ z. length (leaves_at None at z)) f.value; targets = ap targets_of f.value }

  -- An inline value is of the class at its place.
  pub record InlineNode (place : ℕ) (kind : Kind) : Type 0 where
    pub class : Class
    pub found : find_class k s.class ≡ Some class
    pub there : slice_get k place ≡ Some class
    pub within : place < length k
    pub kind_is : kind ≡ kind_of class.name

  pub inline_node : (v : Value) (place : ℕ) (kind : Kind) (form : Form) → IsNode k c (node_at s at to) v → s.array ≡ false → s.constant ≡ false
      → IsLayoutIfKnown k (record { shape = s; class_index = place; kind = kind; form = form }) → InlineNode place kind
  inline_node v place kind form i a o p =
      let known : IsSome (find_class k s.class) = subst (λ (z : Shape). IsSome (find_class k z.class)) (sym i.shape)
      (inline_known k v (ap (λ (z : Shape). z.array) (sym i.shape) ∙ a) (ap (λ (z : Shape). z.constant) (sym i.shape) ∙ o) i.fits) in
      let q = p.of_class o known in
      let d = layout_class k (record { shape = s; class_index = place; kind = kind; form = form }) q in
      record { class = d.class; found = d.found; there = d.there; within = placed_within k s.class place q.class_index; kind_is = d.kind }

  -- A value of a base name: one leaf, that refers to its key.
  base_node : (v : Value) (place : ℕ) (kind : Kind) → IsNode k c (node_at s at to) v → s.array ≡ false → s.constant ≡ false → InlineNode place kind → kind ≢ kinds.Composite
      → BaseForm k c at to s kind v
  base_node v place kind i a o d n = subst (λ z. BaseForm k c at to s z v) (sym d.kind_is) (base_form k c at to s v d.class i a o d.found (λ z. n (d.kind_is ∙ z)))

  base_leaves : (kind : Kind) (v : Value) → BaseForm k c at to s kind v → length (leaves_at None at v) ≡ 1
  base_leaves kind v n = ap (λ z. length (leaves_at None at z)) n.value

  base_targets : (kind : Kind) (v : Value) (key : Option ℕ) (n : BaseForm k c at to s kind v) → n.key ≡ key → targets_of v ≡ option_to_list (option_map (λ key. (s.class, key)) key)
  base_targets kind v key n e = ap targets_of n.value ∙ (ap (λ z. targets_of (Single s (leaf_kinds.Base kind) (slice_range c at to) z)) e ∙ by_key key)
    where
      by_key : (key : Option ℕ) → targets_of (Single s (leaf_kinds.Base kind) (slice_range c at to) key) ≡ option_to_list (option_map (λ key. (s.class, key)) key)
      by_key None = refl
      by_key (Some key) = refl

  base_runs : (kind : Kind) (v : Value) (n : BaseForm k c at to s kind v) → run (base_format kind) c end at ≡ Ok (record { value = n.key; place = to })
  base_runs kind v n = exact_run c end w (base_format kind) at to (slice_range c at to) n.key (is_base kind (slice_range c at to) n.key n.is) n.holds l

  -- One that is no string refers to nothing.
  pub record PlainNode (kind : Kind) (v : Value) : Type 0 where
    pub ends : end_or_flaw (run (base_format kind) c end at) ≡ Ok to
    pub leaves : length (leaves_at None at v) ≡ 1
    pub targets : targets_of v ≡ []

  plain_node : (kind : Kind) (v : Value) → BaseForm k c at to s kind v → kind ≢ kinds.Text → PlainNode kind v
  plain_node kind v n x = record { ends = ap end_or_flaw (base_runs kind v n); leaves = base_leaves kind v n; targets = base_targets kind v None n (no_key kind (slice_range c at to) n.key x n.is) }

  -- A string refers to its key, if it is one.
  pub record TextNode (v : Value) : Type 0 where
    pub content : Content
    pub reads : run (string_format true) c end at ≡ Ok (record { value = content; place = to })
    pub leaves : length (leaves_at None at v) ≡ 1
    pub targets : targets_of v ≡ option_to_list (option_map (λ key. (s.class, key)) (key_of content))

  text_node : (kind : Kind) (v : Value) → BaseForm k c at to s kind v → kind ≡ kinds.Text → TextNode v
  text_node kind v n x =
      let i = subst (λ z. IsBase z (slice_range c at to) n.key) x n.is in
      record {
        content = i.0;
        reads = exact_run c end w (string_format true) at to (slice_range c at to) i.0 (is_exact (slice_range c at to) i.0 i.1) n.holds l;
        leaves = base_leaves kind v n;
        targets = base_targets kind v (key_of i.0) n i.2;
      }

  pub inline_text : (v : Value) (place : ℕ) (kind : Kind) (form : Form) → IsNode k c (node_at s at to) v → s.array ≡ false → s.constant ≡ false
      → IsLayoutIfKnown k (record { shape = s; class_index = place; kind = kind; form = form }) → kind ≡ kinds.Text → TextNode v
  inline_text v place kind form i a o p x = text_node kind v (base_node v place kind i a o (inline_node v place kind form i a o p) (λ y. (let z : kinds.Text ≡ kinds.Composite = sym x ∙ y in cc))) x

  pub inline_plain : (v : Value) (place : ℕ) (kind : Kind) (form : Form) → IsNode k c (node_at s at to) v → s.array ≡ false → s.constant ≡ false
      → IsLayoutIfKnown k (record { shape = s; class_index = place; kind = kind; form = form }) → kind ≢ kinds.Text → kind ≢ kinds.Composite → PlainNode kind v
  inline_plain v place kind form i a o p x n = plain_node kind v (base_node v place kind i a o (inline_node v place kind form i a o p) n) x

  -- Parts that lie from an offset on, after `more` leaves.
  pub record PartsNode (from more : ℕ) (ss : List Shape) (v : Value) : Type 0 where
    pub parts : Values
    pub row : AreValues k c from to ss parts
    pub leaves : length (leaves_at None at v) ≡ more + length (leaves_from (λ n. None) from parts)
    pub targets : targets_of v ≡ targets_of_all parts

  fields_of : (v : Value) (d : Class) → IsNode k c (node_at s at to) v → s.array ≡ false → s.constant ≡ false → find_class k s.class ≡ Some d → kind_of d.name ≡ kinds.Composite
      → PartsNode at 0 (map (λ f. f.shape) d.fields) v
  fields_of v d i a o q m =
      let f = fields_form k c at to s v d i a o q m in
      let x : length (leaves_at None at v) ≡ length (leaves_from (λ n. None) at f.parts) = ap (λ z. length (leaves_at None at z)) f.value ∙ no_count f.parts s.array a in
      record { parts = f.parts; row = f.row; leaves = omega arith; targets = ap targets_of f.value }
    where
      no_count : (vs : Values) (x : Bool) → x ≡ false
          → length ((if x then record { kind = leaf_kinds.Count (worth_within 8 []); class = s.class; holder = None; at = at; spelled = [] } ∷ [] else []) ++ leaves_from (if x then (λ n. None) else (λ n. Some (record { class = s.class; field = n }))) (at + 0) vs) ≡ length (leaves_from (λ n. None) at vs)
      no_count vs true e = cc
      no_count vs false e = let z : at + 0 ≡ at =
          omega arith in same_counts (λ n. Some (record { class = s.class; field = n })) (λ n. None) (at + 0) vs ∙ ap (λ y. length (leaves_from (λ n. None) y vs)) z

  shapes_there : (place : ℕ) (d : Class) → slice_get k place ≡ Some d → field_shapes k place ≡ map (λ f. f.shape) d.fields
  shapes_there place d e = ap (λ o. option_map_or (λ c. map (λ f. f.shape) c.fields) o []) e

  -- A composite value: its fields.
  pub fields_node : (v : Value) (place : ℕ) (kind : Kind) → IsNode k c (node_at s at to) v → s.array ≡ false → s.constant ≡ false → InlineNode place kind → kind ≡ kinds.Composite
      → PartsNode at 0 (field_shapes k place) v
  fields_node v place kind i a o d m = subst (λ z. PartsNode at 0 z v) (sym (shapes_there place d.class d.there)) (fields_of v d.class i a o d.found (sym d.kind_is ∙ m))

  rooms : (P : Shape → Type 0) (fs : List Field) → AllByRecursion (λ f. P f.shape) fs → AllByRecursion P (map (λ f. f.shape) fs)
  rooms P [] a = tt
  rooms P (f ∷ fs) a = (a.0, rooms P fs a.1)

  -- And the room for them.
  pub depth_within : (place : ℕ) (kind : Kind) (levels : ℕ) → InlineNode place kind → kind ≡ kinds.Composite → s.constant ≡ false → DepthBound k levels s
      → AllByRecursion (DepthBound k (levels - 1)) (field_shapes k place)
  depth_within place kind levels d m o r =
      subst (AllByRecursion (DepthBound k (levels - 1))) (sym (shapes_there place d.class d.there))
      (rooms (DepthBound k (levels - 1)) d.class.fields (inner_depth k levels s d.class r o d.found (sym d.kind_is ∙ m)).1)

  -- An array: its count, and the items after it.
  record ArrayNode (v : Value) : Type 0 where
    count : Var
    found : int_at c at end ≡ Some count
    items : PartsNode count.end 1 (replicate count.value (item_of s)) v

  array_node : (v : Value) → IsNode k c (node_at s at to) v → s.array ≡ true → ArrayNode v
  array_node v i a =
      let f = array_form k c at to s end l w v i a in
      record {
        count = f.count;
        found = f.found;
        items = record {
          parts = f.parts;
          row = f.row;
          leaves = ap (λ z. length (leaves_at None at z)) f.value
              ∙ (counted f.head f.parts s.array a ∙ ap (λ y. 1 + length (leaves_from (λ n. None) y f.parts)) (sym f.ends));
          targets = ap targets_of f.value;
        };
      }
    where
      counted : (h : List ℕ) (vs : Values) (x : Bool) → x ≡ true
          → length ((if x then record { kind = leaf_kinds.Count (worth_within 8 h); class = s.class; holder = None; at = at; spelled = h } ∷ [] else []) ++ leaves_from (if x then (λ n. None) else (λ n. Some (record { class = s.class; field = n }))) (at + length h) vs) ≡ 1 + length (leaves_from (λ n. None) (at + length h) vs)
      counted h vs true e = omega arith
      counted h vs false e = cc

  pub array_there : (v : Value) → IsNode k c (node_at s at to) v → s.array ≡ true → int_at c at end ≡ None → ⊥
  array_there v i a e = let n = array_node v i a in let q : int_at c at end ≡ Some n.count = n.found in cc

  pub items_node : (v : Value) (count : Var) → IsNode k c (node_at s at to) v → s.array ≡ true → int_at c at end ≡ Some count → PartsNode count.end 1 (replicate count.value (item_of s)) v
  items_node v count i a e =
      let n = array_node v i a in
      let q : n.count ≡ count = (let x : int_at c at end ≡ Some n.count = n.found in cc) in
      subst (λ (z : Var). PartsNode z.end 1 (replicate z.value (item_of s)) v) q n.items

-- If no values are left, or values without bytes, there are no leaves and no targets.
pub record Nothing (at to : ℕ) (vs : Values) : Type 0 where
  pub ends : at ≡ to
  pub leaves : length (leaves_from (λ n. None) at vs) ≡ 0
  pub targets : targets_of_all vs ≡ []

module _ (k : Classes) (c : List ℕ) (at to : ℕ) where
  nothing : (ss : List Shape) (vs : Values) → AreValues k c at to ss vs → bytes_of_all vs ≡ [] → Nothing at to vs
  nothing ss vs r b =
      let x : length (slice_range c at to) ≡ to - at = range_length c at to r.within in
      let y : length (slice_range c at to) ≡ 0 = ap length (r.bytes ∙ b) in
      let u : length (bytes_of_all vs) ≡ 0 = ap length b in
      let z : length (leaves_from (λ n. None) at vs) ≤ length (bytes_of_all vs) = all_within k (λ n. None) at vs r.fit in
      let m : leaves_from (λ n. None) at vs ≡ [] = nil_from_length (leaves_from (λ n. None) at vs) (omega arith) in
      record { ends = (let p = r.order in omega arith); leaves = ap length m; targets = sym (leaf_targets_from k (λ n. None) at vs r.fit) ∙ ap (filter_map leaf_target) m }

  pub none_left : (ss : List Shape) (vs : Values) → AreValues k c at to ss vs → ss ≡ [] → Nothing at to vs
  none_left ss vs r e = nothing ss vs r (none vs (r.of_shapes ∙ e))
    where
      none : (vs : Values) → shapes_of vs ≡ [] → bytes_of_all vs ≡ []
      none Nil e = refl
      none (Cons v vs) e = cc

  no_bytes : (n : ℕ) (s : Shape) (d : Class) (vs : Values) → AreValues k c at to (replicate n s) vs → s.array ≡ false → s.constant ≡ false → find_class k s.class ≡ Some d → IsHollow d
      → Nothing at to vs
  no_bytes n s d vs r a o q h = nothing (replicate n s) vs r (none n vs r.of_shapes r.fit)
    where
      none : (n : ℕ) (vs : Values) → shapes_of vs ≡ replicate n s → AllFit k vs → bytes_of_all vs ≡ []
      none n Nil e f = refl
      none zero (Cons v vs) e f = cc
      none (suc n) (Cons v vs) e f =
          let p : shape_of v ≡ s = (let x : shape_of v ∷ shapes_of vs ≡ s ∷ replicate n s = e in cc) in
          let g : shapes_of vs ≡ replicate n s = (let x : shape_of v ∷ shapes_of vs ≡ s ∷ replicate n s = e in cc) in
          let b : bytes_of v ≡ [] = hollow_bytes k v d (ap (λ (z : Shape). z.array) p ∙ a) (ap (λ (z : Shape). z.constant) p ∙ o) (ap (λ (z : Shape). find_class k z.class) p ∙ q) h f.0 in
          ap (λ z. z ++ bytes_of_all vs) b ∙ none n vs g f.1

  -- The class of an array's items is known if there are items.
  pub items_known : (n : ℕ) (s : Shape) (vs : Values) → AreValues k c at to (replicate n (item_of s)) vs → n ≢ 0 → s.constant ≡ false → IsSome (find_class k s.class)
  items_known zero s vs r n o = absurd (n refl)
  items_known (suc n) s Nil r m o = let h = r.of_shapes in cc
  items_known (suc n) s (Cons v vs) r m o =
      let p : shape_of v ≡ item_of s = (let x : shape_of v ∷ shapes_of vs ≡ item_of s ∷ replicate n (item_of s) = r.of_shapes in cc) in
      subst (λ (z : Shape). IsSome (find_class k z.class)) p (inline_known k v (ap (λ (z : Shape). z.array) p) (ap (λ (z : Shape). z.constant) p ∙ o) r.fit.0)

  pub hollow_items : (n place : ℕ) (kind : Kind) (form : Form) (s : Shape) (vs : Values) → AreValues k c at to (replicate n (item_of s)) vs → n ≢ 0
      → IsLayoutIfKnown k (record { shape = s; class_index = place; kind = kind; form = form }) → s.constant ≡ false → IfSome (slice_get k place) IsHollow → Nothing at to vs
  hollow_items n place kind form s vs r m p o h =
      let q = (p.of_class o (items_known n s vs r m o)).class_index in
      let d = placed_some k s.class place q in
      no_bytes n (item_of s) d.0 vs r refl o (placed_class k s.class place q ∙ d.1) (subst (λ z. IfSome z IsHollow) d.1 h)

-- The shapes of fields and of items from a number on.
drop_map : (fs : List Field) (i : ℕ) (f : Field) → slice_get fs i ≡ Some f → drop i (map (λ f. f.shape) fs) ≡ f.shape ∷ drop (i + 1) (map (λ f. f.shape) fs)
drop_map [] i f e = cc
drop_map (g ∷ fs) zero f e = let h : g ≡ f = cc in ap (λ (z : Field). z.shape ∷ map (λ f. f.shape) fs) h
drop_map (g ∷ fs) (suc i) f e = let h : suc i + 1 ≡ suc (i + 1) = omega arith in rw h (drop_map fs i f e)

pub field_next : (k : Classes) (place number : ℕ) (f : Field) (s : Shape) → field_at k place number ≡ Some f → s ≡ f.shape
    → drop number (field_shapes k place) ≡ s ∷ drop (number + 1) (field_shapes k place)
field_next k place number f s e q =
    let t = field_there k place number f e in
    let h : field_shapes k place ≡ map (λ f. f.shape) t.0.fields = ap (λ o. option_map_or (λ c. map (λ f. f.shape) c.fields) o []) t.1 in
    ap (drop number) h ∙ (drop_map t.0.fields number f t.2 ∙ (ap (λ z. z ∷ drop (number + 1) (map (λ f. f.shape) t.0.fields)) (sym q) ∙ ap (λ z. s ∷ drop (number + 1) z) (sym h)))

pub item_next : {X : Type 0} (n i : ℕ) (s : X) → i < n → replicate (n - i) s ≡ s ∷ replicate (n - (i + 1)) s
item_next n i s h = let e : n - i ≡ suc (n - (i + 1)) = omega arith in ap (λ z. replicate z s) e

pub items_past : {X : Type 0} (n i : ℕ) (s : X) → n ≤ i → replicate (n - i) s ≡ []
items_past n i s h = let e : n - i ≡ 0 = omega arith in ap (λ z. replicate z s) e

pub fields_past : (k : Classes) (place number : ℕ) → place < length k → IfSome (slice_get k place) (λ c. length c.fields ≤ number) → drop number (field_shapes k place) ≡ []
fields_past k place number l h =
    let d = get_within k place l in
    let n : length d.0.fields ≤ number = subst (λ o. IfSome o (λ c. length c.fields ≤ number)) d.1 h in
    let m : length (map (λ f. f.shape) d.0.fields) ≡ length d.0.fields = length-map d.0.fields (λ f. f.shape) in
    ap (λ o. drop number (option_map_or (λ c. map (λ f. f.shape) c.fields) o [])) d.1 ∙ drop_all number (map (λ f. f.shape) d.0.fields) (omega arith)

pub bound_of_first : (P : Shape → Type 0) (ss : List Shape) (i : ℕ) (s : Shape) (us : List Shape) → AllByRecursion P ss → drop i ss ≡ s ∷ us → P s
bound_of_first P [] zero s us a e = cc
bound_of_first P [] (suc i) s us a e = cc
bound_of_first P (t ∷ ss) zero s us a e = let h : t ≡ s = cc in subst P h a.0
bound_of_first P (t ∷ ss) (suc i) s us a e = bound_of_first P ss i s us a.1 e
