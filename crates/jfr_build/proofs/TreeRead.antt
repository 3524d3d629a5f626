-- The body that is built for classes and a region describes the classes.
use Rattle.std.specs.Prelude.{◌≡◌, ⊤, ℕ, ◌+◌, Bool, true, false, List, [], ◌∷◌, ◌++◌, length, Option, Some, None, Ok, find, is_some, option_and_then, option_map, codes}
use Rattle.std.specs.List.{AllByRecursion, cons_option, filter_map, flat_map}
use Rattle.std.specs.Option.{option_map_or}
use Rattle.std.proofs.Common.{ap, arith, length-append, refl, subst, sym, ◌∙◌}
use Rattle.std.proofs.Math.Seq.{get_or-append_seam}
use Rattle.std.proofs.lemmas.List.{append_assoc}
use Rattle.jfr_base.specs.declared.reason.Reason.{Reason}
use Rattle.jfr_base.specs.declared.reason.Reason.TheVariants.{ClassBad, FieldBad}
use Rattle.jfr_layout.specs.Classes.{Class, Classes, Field, class_faults}
use Rattle.jfr_meta.specs.Trees.{Tree, children_of, list_of-trees_of}
use Rattle.jfr_meta.specs.Attributes.{attribute, first_value, flag_of, named, not_empty, text_at, values_of}
use Rattle.jfr_meta.specs.Described.{annotations_of, categories_of, class_elements, class_flaws, class_head, class_of, class_with, classes_of, described_classes, described, field_elements, field_flaws, field_of, first_or, flaw_unless, heads, id_attribute, is_category, shape_of, tree_flaws}
use Rattle.jfr_meta.proofs.Told.{no_flaws}
use Rattle.jfr_build.specs.declared.region.Region.{Region}
use Rattle.jfr_build.specs.Described.{body_of, class_texts, class_tree, class_trees, field_texts, field_tree, field_trees, fixed_texts, mark_pairs, region_texts, super_pairs}
use Rattle.jfr_build.proofs.DecimalRead.{decimal_id}
use Rattle.jfr_build.proofs.GoodClasses.{GoodClass, GoodField, IsSuper}

-- The strings from an index on begin with these texts.
abbrev pub At : List (List ℕ) → ℕ → List (List ℕ) → Type 0
At texts n [] = ⊤
At texts n (x ∷ xs) = (text_at texts n ≡ x) × At texts (n + 1) xs

at_place : (texts : List (List ℕ)) (m n : ℕ) (xs : List (List ℕ)) → m ≡ n → At texts m xs → At texts n xs
at_place texts m n xs e a = subst (λ z. At texts z xs) e a

at_parts : (texts : List (List ℕ)) (n : ℕ) (xs ys : List (List ℕ)) → At texts n (xs ++ ys) → At texts n xs × At texts (n + length xs) ys
at_parts texts n [] ys a = (tt, at_place texts n (n + 0) ys (omega arith) a)
at_parts texts n (x ∷ xs) ys a =
    let r = at_parts texts (n + 1) xs ys a.1 in
    ((a.0, r.0), at_place texts (n + 1 + length xs) (n + length (x ∷ xs)) ys (omega arith) r.1)

at_behind : (texts before xs : List (List ℕ)) → texts ≡ before ++ xs → At texts (length before) xs
at_behind texts before [] e = tt
at_behind texts before (x ∷ xs) e =
    let l : length (before ++ x ∷ []) ≡ length before + 1 = length-append before (x ∷ []) in (
      ap (λ z. text_at z (length before)) e ∙ get_or-append_seam before x xs [],
      at_place texts (length (before ++ x ∷ [])) (length before + 1) xs l
          (at_behind texts (before ++ x ∷ []) xs (e ∙ sym (append_assoc before (x ∷ []) xs))),
    )

-- A good element has no flaw.
good_none : (o : Bool) (t : Tree) (why : Reason) → o ≡ true → flaw_unless o t why ≡ []
good_none true t why e = refl
good_none false t why e = cc

module _ (more : List (List ℕ)) where
  abbrev texts : List (List ℕ)
  texts = fixed_texts ++ more

  -- A field element.
  module _ (n : ℕ) (f : Field) (good : GoodField f) (at : At texts n (field_texts f)) where
    field_name : attribute texts (field_tree n f) (codes "name") ≡ Some f.name
    field_name = ap (option_and_then not_empty) (ap (λ z. Some z) at.0) ∙ good.name.some

    field_class : id_attribute texts (field_tree n f) (codes "class") ≡ Some f.shape.class
    field_class = decimal_id (text_at texts (n + 1)) f.shape.class at.1.0 good.class

    constant_mark : (c a : Bool) → flag_of (first_value texts (codes "constantPool") ((3, n) ∷ (2, n + 1) ∷ mark_pairs c a)) (codes "true") (codes "false") ≡ Some c
    constant_mark true true = refl
    constant_mark true false = refl
    constant_mark false true = refl
    constant_mark false false = refl

    array_mark : (c a : Bool) → flag_of (first_value texts (codes "dimension") ((3, n) ∷ (2, n + 1) ∷ mark_pairs c a)) (codes "1") (codes "0") ≡ Some a
    array_mark true true = refl
    array_mark true false = refl
    array_mark false true = refl
    array_mark false false = refl

    field_shape : shape_of texts (field_tree n f) ≡ Some f.shape
    unfolding shape_of
    field_shape = λ i.
        option_and_then (λ id. option_and_then (λ constant. option_map (λ array. record { class = id; constant = constant; array = array })
        (array_mark f.shape.constant f.shape.array i)) (constant_mark f.shape.constant f.shape.array i)) (field_class i)

    field_read : field_of texts (field_tree n f) ≡ Some f
    unfolding field_of
    field_read = λ i. option_and_then (λ name. option_map (λ shape. record { name = name; shape = shape }) (field_shape i)) (field_name i)

  fields_named : (n : ℕ) (fs : List Field) → named texts (codes "field") (field_trees n fs) ≡ field_trees n fs
  fields_named n [] = refl
  fields_named n (f ∷ fs) = ap (λ z. field_tree n f ∷ z) (fields_named (n + 2) fs)

  no_annotations : (n : ℕ) (fs : List Field) → named texts (codes "annotation") (field_trees n fs) ≡ []
  no_annotations n [] = refl
  no_annotations n (f ∷ fs) = no_annotations (n + 2) fs

  fields_read : (n : ℕ) (fs : List Field) → AllByRecursion GoodField fs → At texts n (flat_map field_texts fs) → filter_map (field_of texts) (field_trees n fs) ≡ fs
  fields_read n [] g a = refl
  fields_read n (f ∷ fs) g a =
      let rest = fields_read (n + 2) fs g.1 (at_place texts (n + 1 + 1) (n + 2) (flat_map field_texts fs) (omega arith) a.1.1) in
      ap (λ o. cons_option o (filter_map (field_of texts) (field_trees (n + 2) fs))) (field_read n f g.0 (a.0, (a.1.0, tt))) ∙ ap (λ z. f ∷ z) rest

  fields_flawless : (n : ℕ) (fs : List Field) → AllByRecursion GoodField fs → At texts n (flat_map field_texts fs) → flat_map (field_flaws texts) (field_trees n fs) ≡ []
  fields_flawless n [] g a = refl
  fields_flawless n (f ∷ fs) g a =
      let rest = fields_flawless (n + 2) fs g.1 (at_place texts (n + 1 + 1) (n + 2) (flat_map field_texts fs) (omega arith) a.1.1) in
      ap (λ z. z ++ flat_map (field_flaws texts) (field_trees (n + 2) fs))
      (good_none (is_some (field_of texts (field_tree n f))) (field_tree n f) FieldBad (ap is_some (field_read n f g.0 (a.0, (a.1.0, tt))))) ∙ rest

  -- A class element.
  super_read : (n : ℕ) (o : Option (List ℕ)) → IsSuper o → option_and_then not_empty (first_value texts (codes "superType") ((3, n) ∷ (4, n + 1) ∷ super_pairs o)) ≡ o
  super_read n None s = refl
  super_read n (Some name) s = ap (λ z. Some z) (sym s)

  module _ (n : ℕ) (c : Class) (good : GoodClass c) (at : At texts n (class_texts c)) where
    abbrev t : Tree
    t = class_tree n c

    at_fields : At texts (n + 2) (flat_map field_texts c.fields)
    at_fields = at_place texts (n + 1 + 1) (n + 2) (flat_map field_texts c.fields) (omega arith) at.1.1

    children : children_of t ≡ field_trees (n + 2) c.fields
    children = list_of-trees_of (field_trees (n + 2) c.fields)

    elements : field_elements texts t ≡ field_trees (n + 2) c.fields
    elements = ap (named texts (codes "field")) children ∙ fields_named (n + 2) c.fields

    class_name : attribute texts t (codes "name") ≡ Some c.name
    class_name = ap (option_and_then not_empty) (ap (λ z. Some z) at.0) ∙ good.name.some

    class_id : id_attribute texts t (codes "id") ≡ Some c.id
    class_id = decimal_id (text_at texts (n + 1)) c.id at.1.0 good.id

    head_read : class_head texts t ≡ Some (c.id, c.name)
    head_read = λ i. option_and_then (λ name. option_map (λ id. (id, name)) (class_id i)) (class_name i)

    own_fields : filter_map (field_of texts) (field_elements texts t) ≡ c.fields
    own_fields = ap (filter_map (field_of texts)) elements ∙ fields_read (n + 2) c.fields good.fields at_fields

    no_categories : (hs : List (ℕ × List ℕ)) → categories_of texts hs t ≡ c.categories
    no_categories hs =
        let none : annotations_of texts t ≡ [] = ap (named texts (codes "annotation")) children ∙ no_annotations (n + 2) c.fields in
        ap (λ z. option_map_or (values_of texts) (find (is_category texts hs) z) []) none ∙ sym good.categories

    class_made : (hs : List (ℕ × List ℕ)) → class_with texts hs t (c.id, c.name) ≡ c
    class_made hs = λ i. record { id = c.id; name = c.name; super_name = super_read n c.super_name good.super i; fields = own_fields i; categories = no_categories hs i }

    class_read : (hs : List (ℕ × List ℕ)) → class_of texts hs t ≡ Some c
    unfolding class_of
    class_read hs = ap (option_map (class_with texts hs t)) head_read ∙ ap (λ z. Some z) (class_made hs)

    class_flawless : class_flaws texts t ≡ []
    unfolding class_flaws
    class_flawless =
        ap (λ z. z ++ flat_map (field_flaws texts) (field_elements texts t)) (good_none (is_some (class_head texts t)) t ClassBad (ap is_some head_read))
        ∙ (ap (flat_map (field_flaws texts)) elements ∙ fields_flawless (n + 2) c.fields good.fields at_fields)

  -- All class elements.
  classes_named : (n : ℕ) (k : Classes) → named texts (codes "class") (class_trees n k) ≡ class_trees n k
  classes_named n [] = refl
  classes_named n (c ∷ cs) = ap (λ z. class_tree n c ∷ z) (classes_named (n + length (class_texts c)) cs)

  classes_read : (hs : List (ℕ × List ℕ)) (n : ℕ) (k : Classes) → AllByRecursion GoodClass k → At texts n (flat_map class_texts k) → filter_map (class_of texts hs) (class_trees n k) ≡ k
  classes_read hs n [] g a = refl
  classes_read hs n (c ∷ cs) g a =
      let p = at_parts texts n (class_texts c) (flat_map class_texts cs) a in
      ap (λ o. cons_option o (filter_map (class_of texts hs) (class_trees (n + length (class_texts c)) cs))) (class_read n c g.0 p.0 hs)
      ∙ ap (λ z. c ∷ z) (classes_read hs (n + length (class_texts c)) cs g.1 p.1)

  classes_flawless : (n : ℕ) (k : Classes) → AllByRecursion GoodClass k → At texts n (flat_map class_texts k) → flat_map (class_flaws texts) (class_trees n k) ≡ []
  classes_flawless n [] g a = refl
  classes_flawless n (c ∷ cs) g a =
      let p = at_parts texts n (class_texts c) (flat_map class_texts cs) a in
      ap (λ z. z ++ flat_map (class_flaws texts) (class_trees (n + length (class_texts c)) cs)) (class_flawless n c g.0 p.0) ∙ classes_flawless (n + length (class_texts c)) cs g.1 p.1

-- The whole tree.
pub body_described : (k : Classes) (region : Option Region) → AllByRecursion GoodClass k → class_faults k ≡ [] → described (body_of k region) ≡ Ok k
unfolding described classes_of
body_described k region g s =
    let more : List (List ℕ) = flat_map class_texts k ++ region_texts region in
    let strings : List (List ℕ) = fixed_texts ++ more in
    let ts : List Tree = class_trees 15 k in
    let at : At strings 15 (flat_map class_texts k) = (at_parts strings 15 (flat_map class_texts k) (region_texts region) (at_behind strings fixed_texts more refl)).0 in
    let there : class_elements strings (body_of k region).root ≡ Some ts = ap (λ z. Some (named strings (codes "class") z)) (list_of-trees_of ts) ∙ ap (λ z. Some z) (classes_named more 15 k) in
    let same : classes_of strings ts ≡ k = classes_read more (heads strings ts) 15 k g at in
    let none : tree_flaws strings ts ≡ [] = no_flaws strings ts k (classes_flawless more 15 k g at) (sym same) (record { none = s }) in
    ap (described_classes strings 0) there ∙ (ap (λ fs. first_or fs (classes_of strings ts)) none ∙ ap (λ z. Ok z) same)
