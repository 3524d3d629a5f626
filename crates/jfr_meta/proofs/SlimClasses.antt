-- The tree without the class elements that don't stay describes the classes that stay.
use Rattle.std.specs.Prelude.{◌≡◌, ℕ, suc, Bool, true, false, ◌&&◌, ◌||◌, ◌==◌, List, [], ◌∷◌, ◌++◌, filter, find, Option, Some, None, is_some, option_map, option_and_then, if◌then◌else◌, codes, slice_get, Contains}
use Rattle.std.specs.List.{AllByRecursion, filter_map, flat_map, list_any, cons_option}
use Rattle.std.specs.Option.{option_map_or}
use Rattle.std.specs.Str.{bytes_eq}
use Rattle.std.proofs.Common.{ap, refl, sym, ◌∙◌, subst, inl, inr}
use Rattle.std.proofs.lemmas.Bool.{eqb-true}
use Rattle.jfr_base.specs.declared.flaw.Flaw.{Flaw}
use Rattle.jfr_base.specs.declared.reason.Reason.{Reason}
use Rattle.jfr_base.specs.declared.reason.Reason.TheVariants.{ClassBad}
use Rattle.jfr_layout.specs.Classes.{Class, Classes, Field, Sound, find_class, has_id}
use Rattle.jfr_layout.proofs.SoundLaws.{are_known}
use Rattle.jfr_meta.specs.Trees.{Tree, Node, Trees, Nil, Cons, list_of, name_of, pairs_of, children_of, list_of-trees_of}
use Rattle.jfr_meta.specs.Attributes.{text_at, attribute, named, first_value, flag_of, values_of}
use Rattle.jfr_meta.specs.Described.{class_elements, field_elements, id_attribute, class_head, shape_of, field_of, flaw_unless, field_flaws, class_flaws, heads, is_category_id, is_category_head, is_category, annotations_of, categories_of, class_with, class_of, classes_of}
use Rattle.jfr_layout.specs.Staying.{staying, IsClosed}
use Rattle.jfr_meta.specs.Stays.{below, all_below, ids_below, HasHead}
use Rattle.jfr_meta.specs.Slimmed.{is_named, head_is_needed, element_is_needed, first_changed, slim_holder, slim_root}
use Rattle.jfr_worklist.specs.Members.{In}
use Rattle.jfr_worklist.proofs.Members.{get_in, in_contains, in_right, filter_map_in, in_filter_map}
use Rattle.jfr_meta.proofs.Lists.{in_filter, all_members, all_in, filter_both, filter_map_filter, same_filter_map, same_find}

-- The first that passes, changed, is the first that passes among those of which it was changed.
find_changed : {A : Type 0} (p : A → Bool) (f : A → A) → ((x : A) → p (f x) ≡ p x) → (xs : List A) → find p (first_changed p f xs) ≡ option_map f (find p xs)
find_changed p f s [] = refl
find_changed p f s (x ∷ xs) = by_test (p x) refl (find_changed p f s xs)
  where
    by_test : (t : Bool) → p x ≡ t → find p (first_changed p f xs) ≡ option_map f (find p xs)
        → find p (if t then f x ∷ xs else x ∷ first_changed p f xs) ≡ option_map f (if t then Some x else find p xs)
    by_test true e h = ap (λ b. if b then Some (f x) else find p xs) (s x ∙ e)
    by_test false e h = ap (λ b. if b then Some x else find p (first_changed p f xs)) e ∙ h

module _ (texts : List (List ℕ)) (stays : ℕ → Bool) where
  pub slim_elements : (root : Tree) → class_elements texts (slim_root texts stays root) ≡ option_map (filter (head_is_needed texts stays)) (class_elements texts root)
  unfolding slim_root
  slim_elements root =
      ap (λ cs. option_map (λ m. named texts (codes "class") (children_of m)) (find (is_named texts (codes "metadata")) cs))
      (list_of-trees_of (first_changed (is_named texts (codes "metadata")) (slim_holder texts stays) (children_of root)))
      ∙ (ap (option_map (λ m. named texts (codes "class") (children_of m))) (find_changed (is_named texts (codes "metadata")) (slim_holder texts stays) (λ m. refl) (children_of root))
      ∙ by_one (find (is_named texts (codes "metadata")) (children_of root)))
    where
      by_one : (o : Option Tree)
          → option_map (λ m. named texts (codes "class") (children_of m)) (option_map (slim_holder texts stays) o) ≡ option_map (filter (head_is_needed texts stays)) (option_map (λ m. named texts (codes "class") (children_of m)) o)
      by_one None = refl
      by_one (Some m) =
          ap (λ z. Some z)
          (ap (named texts (codes "class")) (list_of-trees_of (filter (element_is_needed texts stays) (children_of m)))
          ∙ filter_both (is_named texts (codes "class")) (head_is_needed texts stays) (children_of m))

-- A child is below its parent.
child_below : (t a : Tree) → In (children_of t) a → In (below t) a
child_below (Node place name pairs children) a i = among children i
  where
    among : (ts : Trees) → In (list_of ts) a → In (all_below ts) a
    among Nil i = absurd i
    among (Cons t ts) (inl e) = inl e
    among (Cons t ts) (inr i) = inr (in_right (below t) (all_below ts) a (among ts i))

-- Some class has the id if some head has it.
ids_same : (texts : List (List ℕ)) (hs : List (ℕ × List ℕ)) (id : ℕ) (ts : List Tree) → list_any (λ h. h.0 == id) (filter_map (class_head texts) ts) ≡ has_id (filter_map (class_of texts hs) ts) id
unfolding class_of
ids_same texts hs id [] = refl
ids_same texts hs id (t ∷ ts) = by_head (class_head texts t) (ids_same texts hs id ts)
  where
    by_head : (o : Option (ℕ × List ℕ)) → list_any (λ h. h.0 == id) (filter_map (class_head texts) ts) ≡ has_id (filter_map (class_of texts hs) ts) id
        → list_any (λ h. h.0 == id) (cons_option o (filter_map (class_head texts) ts)) ≡ has_id (cons_option (option_map (class_with texts hs t) o) (filter_map (class_of texts hs) ts)) id
    by_head None e = e
    by_head (Some h) e = ap (λ b. (h.0 == id) || b) e

-- Whether an id is that of a category class doesn't change when heads with other ids are removed.
same_category_id : (stays : ℕ → Bool) (id : ℕ) (hs : List (ℕ × List ℕ)) → (list_any (λ h. h.0 == id) hs ≡ true → stays id ≡ true)
    → is_category_id (filter (λ h. stays h.0) hs) id ≡ is_category_id hs id
same_category_id stays id [] k = refl
same_category_id stays id (h ∷ hs) k = by_tests (h.0 == id) refl (stays h.0) refl (same_category_id stays id hs)
  where
    or_true : (b : Bool) → (b || true) ≡ true
    or_true true = refl
    or_true false = refl

    by_tests : (t : Bool) → (h.0 == id) ≡ t → (s : Bool) → stays h.0 ≡ s
        → ((list_any (λ h. h.0 == id) hs ≡ true → stays id ≡ true) → is_category_id (filter (λ h. stays h.0) hs) id ≡ is_category_id hs id)
        → is_category_id (if s then h ∷ filter (λ h. stays h.0) hs else filter (λ h. stays h.0) hs) id ≡ is_category_id (h ∷ hs) id
    by_tests t e true f g = ap (λ b. is_category_head id h || b) (g (λ a. k (ap (λ b. (h.0 == id) || b) a ∙ or_true (h.0 == id))))
    by_tests false e false f g =
        g (λ a. k (ap (λ b. (h.0 == id) || b) a ∙ or_true (h.0 == id)))
        ∙ ap (λ b. (b && bytes_eq h.1 (codes "jdk.jfr.Category")) || is_category_id hs id) (sym e)
    by_tests true e false f g =
        let here : stays id ≡ true = k (ap (λ b. b || list_any (λ h. h.0 == id) hs) e) in
        let there : stays id ≡ false = ap stays (sym (eqb-true h.0 id e)) ∙ f in
        let z : true ≡ false = sym here ∙ there in
        cc

some_of : {A : Type 0} (o : Option A) → is_some o ≡ true → (a : A) × (o ≡ Some a)
some_of None e = cc
some_of (Some a) e = (a, refl)

good_of : (g : Bool) (t : Tree) (why : Reason) → flaw_unless g t why ≡ [] → g ≡ true
good_of true t why e = refl
good_of false t why e = cc

first_part : (xs ys : List Flaw) → xs ++ ys ≡ [] → xs ≡ []
first_part [] ys e = refl
first_part (x ∷ xs) ys e = cc

-- What a class element without flaws has: an id and a name.
pub has_head : (texts : List (List ℕ)) (t : Tree) → class_flaws texts t ≡ [] → (h : ℕ × List ℕ) × (class_head texts t ≡ Some h)
unfolding class_flaws
has_head texts t e =
    some_of (class_head texts t) (good_of (is_some (class_head texts t)) t ClassBad
    (first_part (flaw_unless (is_some (class_head texts t)) t ClassBad) (flat_map (field_flaws texts) (field_elements texts t)) e))

-- A field's class is the id that its element names.
field_class : (texts : List (List ℕ)) (e : Tree) (f : Field) → field_of texts e ≡ Some f → id_attribute texts e (codes "class") ≡ Some f.shape.class
unfolding field_of shape_of
field_class texts e f q =
    by_name (attribute texts e (codes "name")) (id_attribute texts e (codes "class")) (flag_of (first_value texts (codes "constantPool") (pairs_of e)) (codes "true") (codes "false"))
    (flag_of (first_value texts (codes "dimension") (pairs_of e)) (codes "1") (codes "0")) q
  where
    by_name : (n : Option (List ℕ)) (i : Option ℕ) (c a : Option Bool)
        → option_and_then (λ name. option_map (λ shape. record { name = name; shape = shape }) (option_and_then (λ id. option_and_then (λ constant. option_map (λ array. record { class = id; constant = constant; array = array }) a) c) i)) n ≡ Some f
        → i ≡ Some f.shape.class
    by_name None i c a q = cc
    by_name (Some n) None c a q = cc
    by_name (Some n) (Some i) None a q = cc
    by_name (Some n) (Some i) (Some c) None q = cc
    by_name (Some n) (Some i) (Some c) (Some a) q = let g : record { name = n; shape = record { class = i; constant = c; array = a } } ≡ f = cc in ap (λ (z : Field). Some z.shape.class) g

-- A set that has, with the id of a class element, each class that it names.
module _ (texts : List (List ℕ)) (ts : List Tree) (k : Classes) (stays : ℕ → Bool) (made : k ≡ classes_of texts ts)
    (closed : (t : Tree) (id other : ℕ) → Contains ts t → HasHead texts t id → stays id ≡ true → Contains (ids_below texts t) other → has_id k other ≡ true → stays other ≡ true) where
  abbrev hs : List (ℕ × List ℕ)
  hs = heads texts ts

  abbrev hs_left : List (ℕ × List ℕ)
  hs_left = filter (λ h. stays h.0) hs

  made_each : k ≡ filter_map (class_of texts hs) ts
  unfolding classes_of
  made_each = made

  -- An id of a child of a class element that stays is that of a class that stays, or of no class.
  child_names : (t a : Tree) (h : ℕ × List ℕ) (id : ℕ) → In ts t → class_head texts t ≡ Some h → stays h.0 ≡ true → In (children_of t) a → id_attribute texts a (codes "class") ≡ Some id
      → has_id k id ≡ true → stays id ≡ true
  child_names t a h id i e s j q there =
      closed t h.0 id (in_contains ts t i) (ap (option_map (λ (h : ℕ × List ℕ). h.0)) e) s
      (in_contains (ids_below texts t) id (filter_map_in (λ e. id_attribute texts e (codes "class")) (below t) a id (child_below t a j) q)) there

  -- So its categories are the same.
  same_is_category : (t a : Tree) (h : ℕ × List ℕ) → In ts t → class_head texts t ≡ Some h → stays h.0 ≡ true → In (annotations_of texts t) a → is_category texts hs_left a ≡ is_category texts hs a
  same_is_category t a h i e s j = by_id (id_attribute texts a (codes "class")) refl
    where
      child : In (children_of t) a
      child = (in_filter (λ t. bytes_eq (text_at texts (name_of t)) (codes "annotation")) (children_of t) a j).0

      by_id : (o : Option ℕ) → id_attribute texts a (codes "class") ≡ o → option_map_or (is_category_id hs_left) o false ≡ option_map_or (is_category_id hs) o false
      by_id None q = refl
      by_id (Some id) q = same_category_id stays id hs (λ any. child_names t a h id i e s child q (ap (λ z. has_id z id) made_each ∙ (sym (ids_same texts hs id ts) ∙ any)))

  same_categories : (t : Tree) (h : ℕ × List ℕ) → In ts t → class_head texts t ≡ Some h → stays h.0 ≡ true → categories_of texts hs_left t ≡ categories_of texts hs t
  same_categories t h i e s =
      ap (λ o. option_map_or (values_of texts) o [])
      (same_find (is_category texts hs_left) (is_category texts hs) (annotations_of texts t)
      (all_members (λ a. is_category texts hs_left a ≡ is_category texts hs a) (annotations_of texts t) (λ a j. same_is_category t a h i e s j)))

  same_class : (t : Tree) (h : ℕ × List ℕ) → In ts t → class_head texts t ≡ Some h → stays h.0 ≡ true → class_of texts hs_left t ≡ class_of texts hs t
  unfolding class_of
  same_class t h i e s =
      ap (λ c. option_map (λ (h : ℕ × List ℕ).
      record { id = h.0; name = h.1; super_name = attribute texts t (codes "superType"); fields = filter_map (field_of texts) (field_elements texts t); categories = c }) (class_head texts t))
      (same_categories t h i e s)

  head_test : (t : Tree) (h : ℕ × List ℕ) → class_head texts t ≡ Some h → head_is_needed texts stays t ≡ stays h.0
  head_test t h e = ap (λ o. option_map_or (λ (h : ℕ × List ℕ). stays h.0) o false) e

  class_here : (t : Tree) (h : ℕ × List ℕ) → class_head texts t ≡ Some h → class_of texts hs t ≡ Some (class_with texts hs t h)
  unfolding class_of
  class_here t h e = ap (option_map (class_with texts hs t)) e

  module _ (good : AllByRecursion (λ t. class_flaws texts t ≡ []) ts) where
    head_in : (t : Tree) → In ts t → (h : ℕ × List ℕ) × (class_head texts t ≡ Some h)
    head_in t i = has_head texts t (all_in (λ t. class_flaws texts t ≡ []) ts t good i)

    heads_left : heads texts (filter (head_is_needed texts stays) ts) ≡ hs_left
    heads_left =
        filter_map_filter (class_head texts) (head_is_needed texts stays) (λ (h : ℕ × List ℕ). stays h.0) ts
        (all_members (λ t. (h : ℕ × List ℕ) × (class_head texts t ≡ Some h) × (head_is_needed texts stays t ≡ stays h.0)) ts (λ t i. (let h = head_in t i in (h.0, h.1, head_test t h.0 h.1))))

    -- The class elements that are left describe the classes that stay.
    pub remaining_classes : classes_of texts (filter (head_is_needed texts stays) ts) ≡ staying stays k
    unfolding classes_of
    remaining_classes =
        ap (λ z. filter_map (class_of texts z) (filter (head_is_needed texts stays) ts)) heads_left
        ∙ (same_filter_map (class_of texts hs_left) (class_of texts hs) (filter (head_is_needed texts stays) ts)
        (all_members (λ t. class_of texts hs_left t ≡ class_of texts hs t) (filter (head_is_needed texts stays) ts)
        (λ t j. (let i = in_filter (head_is_needed texts stays) ts t j in let h = head_in t i.0 in same_class t h.0 i.0 h.1 (sym (head_test t h.0 h.1) ∙ i.1))))
        ∙ (filter_map_filter (class_of texts hs) (head_is_needed texts stays) (λ (c : Class). stays c.id) ts
        (all_members (λ t. (c : Class) × (class_of texts hs t ≡ Some c) × (head_is_needed texts stays t ≡ stays c.id)) ts
        (λ t i. (let h = head_in t i in (class_with texts hs t h.0, class_here t h.0 h.1, head_test t h.0 h.1))))
        ∙ ap (staying stays) (sym made_each)))

    -- And the set has the classes of its members' fields.
    pub fields_closed : Sound k → IsClosed k stays
    fields_closed s = record {
      fields = λ i c e t.
          (let m = in_filter_map (class_of texts hs) ts c (subst (λ z. In z c) made_each (get_in k i c e)) in
          let h = head_in m.0 m.1 in
          let q : class_with texts hs m.0 h.0 ≡ c = (let a : Some (class_with texts hs m.0 h.0) ≡ Some c = sym (class_here m.0 h.0 h.1) ∙ m.2 in cc) in
          let here : stays h.0.0 ≡ true = ap (λ (z : Class). stays z.id) q ∙ t in
          let own : c.fields ≡ filter_map (field_of texts) (field_elements texts m.0) = ap (λ (z : Class). z.fields) (sym q) in
          all_members (λ (f : Field). stays f.shape.class ≡ true) c.fields (λ f j.
          (let n = in_filter_map (field_of texts) (field_elements texts m.0) f (subst (λ z. In z f) own j) in
          let child = (in_filter (λ t. bytes_eq (text_at texts (name_of t)) (codes "field")) (children_of m.0) n.0 n.1).0 in
          child_names m.0 n.0 h.0 f.shape.class m.1 h.1 here child (field_class texts n.0 f n.2) (known i c e f j))));
    }
      where
        any_of : (m : Classes) (id : ℕ) → is_some (find_class m id) ≡ true → has_id m id ≡ true
        any_of [] id e = cc
        any_of (c ∷ m) id e = by_test (c.id == id) e (any_of m id)
          where
            by_test : (b : Bool) → is_some (if b then Some c else find_class m id) ≡ true → (is_some (find_class m id) ≡ true → has_id m id ≡ true) → (b || has_id m id) ≡ true
            by_test true e g = refl
            by_test false e g = g e

        place_in : (fs : List Field) (f : Field) → In fs f → (j : ℕ) × (slice_get fs j ≡ Some f)
        place_in [] f j = absurd j
        place_in (g ∷ fs) f (inl e) = (0, ap (λ z. Some z) e)
        place_in (g ∷ fs) f (inr j) = let r = place_in fs f j in (suc r.0, r.1)

        known : (i : ℕ) (c : Class) → slice_get k i ≡ Some c → (f : Field) → In c.fields f → has_id k f.shape.class ≡ true
        known i c e f j = let r = place_in c.fields f j in any_of k f.shape.class ((are_known k s).class i r.0 f (ap (option_and_then (λ (d : Class). slice_get d.fields r.0)) e ∙ r.1))
