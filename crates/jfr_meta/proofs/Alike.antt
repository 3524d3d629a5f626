-- Two elements with the same texts, each over its own table of strings, describe the same.
use Rattle.std.specs.Prelude.{◌≡◌, ℕ, zero, suc, ◌+◌, Bool, true, false, List, [], ◌∷◌, ◌++◌, length, find, Option, Some, None, is_some, option_map, option_and_then, codes, ⊤}
use Rattle.std.specs.List.{AllZip, filter_map, flat_map}
use Rattle.std.specs.Option.{option_map_or, option_to_list}
use Rattle.std.specs.Str.{bytes_eq}
use Rattle.std.proofs.Common.{ap, refl, ◌∙◌}
use Rattle.jfr_base.specs.declared.flaw.Flaw.{Flaw}
use Rattle.jfr_base.specs.declared.reason.Reason.{Reason}
use Rattle.jfr_base.specs.declared.reason.Reason.TheVariants.{ClassBad, FieldBad}
use Rattle.jfr_layout.specs.Classes.{Class, Field}
use Rattle.jfr_meta.specs.Trees.{Tree, Node, Trees, Nil, Cons, list_of, name_of, pairs_of, children_of}
use Rattle.jfr_meta.specs.Attributes.{text_at, first_value, not_empty, attribute, named, id_of, flag_of, values_from, value_key, or_else, values_of}
use Rattle.jfr_meta.specs.Described.{class_elements, field_elements, id_attribute, class_head, shape_of, field_of, flaw_unless, field_flaws, class_flaws, is_category_id, is_category, annotations_of, category_annotation, categories_of, class_of}
use Rattle.jfr_meta.proofs.Lists.{filter_zip, find_zip, filter_map_zip, Beside, zip_length, flat_map_none, nothing_each}

module _ (texts table : List (List ℕ)) where
  abbrev pub SameIndex : ℕ → ℕ → Type 0
  SameIndex i j = text_at texts i ≡ text_at table j

  abbrev pub SamePair : ℕ × ℕ → ℕ × ℕ → Type 0
  SamePair p q = SameIndex p.0 q.0 × SameIndex p.1 q.1

  -- Equal texts at each place of two trees of one form; offsets may differ.
  abbrev mutual
    pub Alike : Tree → Tree → Type 0
    Alike (Node p n ps ts) (Node q m qs us) = SameIndex n m × AllZip SamePair ps qs × AllAlike ts us

    pub AllAlike : Trees → Trees → Type 0
    AllAlike Nil Nil = ⊤
    AllAlike Nil (Cons u us) = ⊥
    AllAlike (Cons t ts) Nil = ⊥
    AllAlike (Cons t ts) (Cons u us) = Alike t u × AllAlike ts us

  alike_list : (ts us : Trees) → AllAlike ts us → AllZip Alike (list_of ts) (list_of us)
  alike_list Nil Nil a = tt
  alike_list Nil (Cons u us) a = absurd a
  alike_list (Cons t ts) Nil a = absurd a
  alike_list (Cons t ts) (Cons u us) a = (a.0, alike_list ts us a.1)

  pub children_alike : (t u : Tree) → Alike t u → AllZip Alike (children_of t) (children_of u)
  children_alike (Node p n ps ts) (Node q m qs us) a = alike_list ts us a.2

  pub name_alike : (t u : Tree) → Alike t u → SameIndex (name_of t) (name_of u)
  name_alike (Node p n ps ts) (Node q m qs us) a = a.0

  pub pairs_alike : (t u : Tree) → Alike t u → AllZip SamePair (pairs_of t) (pairs_of u)
  pairs_alike (Node p n ps ts) (Node q m qs us) a = a.1

  is_named_alike : (key : List ℕ) (t u : Tree) → Alike t u → bytes_eq (text_at texts (name_of t)) key ≡ bytes_eq (text_at table (name_of u)) key
  is_named_alike key t u a = ap (λ z. bytes_eq z key) (name_alike t u a)

  pub named_alike : (key : List ℕ) (ts us : List Tree) → AllZip Alike ts us → AllZip Alike (named texts key ts) (named table key us)
  named_alike key ts us z = filter_zip Alike (λ t. bytes_eq (text_at texts (name_of t)) key) (λ u. bytes_eq (text_at table (name_of u)) key) (is_named_alike key) ts us z

  -- Attributes.
  first_alike : (key : List ℕ) (ps qs : List (ℕ × ℕ)) → AllZip SamePair ps qs → first_value texts key ps ≡ first_value table key qs
  first_alike key ps qs z =
      by_found (find (λ p. bytes_eq (text_at texts p.0) key) ps) (find (λ q. bytes_eq (text_at table q.0) key) qs)
      (find_zip SamePair (λ p. bytes_eq (text_at texts p.0) key) (λ q. bytes_eq (text_at table q.0) key) (λ p q s. ap (λ z. bytes_eq z key) s.0) ps qs z)
    where
      by_found : (o p : Option (ℕ × ℕ)) → Beside SamePair o p → option_map (λ p. text_at texts p.1) o ≡ option_map (λ p. text_at table p.1) p
      by_found None None b = refl
      by_found None (Some q) b = absurd b
      by_found (Some p) None b = absurd b
      by_found (Some p) (Some q) b = ap (λ z. Some z) b.1

  pub attribute_alike : (key : List ℕ) (t u : Tree) → Alike t u → attribute texts t key ≡ attribute table u key
  attribute_alike key t u a = ap (option_and_then not_empty) (first_alike key (pairs_of t) (pairs_of u) (pairs_alike t u a))

  pub id_alike : (key : List ℕ) (t u : Tree) → Alike t u → id_attribute texts t key ≡ id_attribute table u key
  id_alike key t u a = ap (option_and_then id_of) (attribute_alike key t u a)

  pub head_alike : (t u : Tree) → Alike t u → class_head texts t ≡ class_head table u
  head_alike t u a = λ i. option_and_then (λ name. option_map (λ id. (id, name)) (id_alike (codes "id") t u a i)) (attribute_alike (codes "name") t u a i)

  shape_alike : (t u : Tree) → Alike t u → shape_of texts t ≡ shape_of table u
  unfolding shape_of
  shape_alike t u a = λ i.
      option_and_then (λ id. option_and_then (λ constant. option_map (λ array. record { class = id; constant = constant; array = array })
      (flag_of (first_alike (codes "dimension") (pairs_of t) (pairs_of u) (pairs_alike t u a) i) (codes "1") (codes "0")))
      (flag_of (first_alike (codes "constantPool") (pairs_of t) (pairs_of u) (pairs_alike t u a) i) (codes "true") (codes "false")))
      (id_alike (codes "class") t u a i)

  pub field_alike : (t u : Tree) → Alike t u → field_of texts t ≡ field_of table u
  unfolding field_of
  field_alike t u a = λ i. option_and_then (λ name. option_map (λ shape. record { name = name; shape = shape }) (shape_alike t u a i)) (attribute_alike (codes "name") t u a i)

  pub fields_alike : (t u : Tree) → Alike t u → filter_map (field_of texts) (field_elements texts t) ≡ filter_map (field_of table) (field_elements table u)
  fields_alike t u a = filter_map_zip Alike (field_of texts) (field_of table) field_alike (field_elements texts t) (field_elements table u)
      (named_alike (codes "field") (children_of t) (children_of u) (children_alike t u a))

  -- Categories.
  is_category_alike : (hs : List (ℕ × List ℕ)) (t u : Tree) → Alike t u → is_category texts hs t ≡ is_category table hs u
  is_category_alike hs t u a = ap (λ o. option_map_or (is_category_id hs) o false) (id_alike (codes "class") t u a)

  values_from_alike : (f g : ℕ → Option (List ℕ)) → ((i : ℕ) → f i ≡ g i) → (i n : ℕ) → values_from f i n ≡ values_from g i n
  values_from_alike f g s i zero = refl
  values_from_alike f g s i (suc n) = λ j. option_map_or (λ v. v ∷ values_from_alike f g s (i + 1) n j) (s i j) []

  values_alike : (t u : Tree) → Alike t u → values_of texts t ≡ values_of table u
  values_alike t u a =
      let l : length (pairs_of t) ≡ length (pairs_of u) = zip_length SamePair (pairs_of t) (pairs_of u) (pairs_alike t u a) in
      let v : values_from (λ i. attribute texts t (value_key i)) 0 (length (pairs_of t)) ≡ values_from (λ i. attribute table u (value_key i)) 0 (length (pairs_of u)) =
      values_from_alike (λ i. attribute texts t (value_key i)) (λ i. attribute table u (value_key i)) (λ i. attribute_alike (value_key i) t u a) 0 (length (pairs_of t))
      ∙ ap (values_from (λ i. attribute table u (value_key i)) 0) l in
      λ i. or_else (v i) (option_to_list (attribute_alike (codes "value") t u a i))

  pub categories_alike : (hs : List (ℕ × List ℕ)) (t u : Tree) → Alike t u → categories_of texts hs t ≡ categories_of table hs u
  categories_alike hs t u a =
      by_found (category_annotation texts hs t) (category_annotation table hs u)
      (find_zip Alike (is_category texts hs) (is_category table hs) (is_category_alike hs) (annotations_of texts t) (annotations_of table u)
      (named_alike (codes "annotation") (children_of t) (children_of u) (children_alike t u a)))
    where
      by_found : (o p : Option Tree) → Beside Alike o p → option_map_or (values_of texts) o [] ≡ option_map_or (values_of table) p []
      by_found None None b = refl
      by_found None (Some q) b = absurd b
      by_found (Some p) None b = absurd b
      by_found (Some p) (Some q) b = values_alike p q b

  abbrev made : Option (ℕ × List ℕ) → Option (List ℕ) → List Field → List (List ℕ) → Option Class
  made o s f c = option_map (λ h. record { id = h.0; name = h.1; super_name = s; fields = f; categories = c }) o

  pub class_alike : (hs : List (ℕ × List ℕ)) (t u : Tree) → Alike t u → class_of texts hs t ≡ class_of table hs u
  unfolding class_of
  class_alike hs t u a = λ i. made (head_alike t u a i) (attribute_alike (codes "superType") t u a i) (fields_alike t u a i) (categories_alike hs t u a i)

  -- Where nothing is faulty about one, nothing is about the other.
  good_alike : (g h : Bool) (t u : Tree) (why : Reason) → g ≡ h → flaw_unless g t why ≡ [] → flaw_unless h u why ≡ []
  good_alike true true t u why e n = refl
  good_alike false false t u why e n = cc
  good_alike true false t u why e n = cc
  good_alike false true t u why e n = cc

  field_good : (t u : Tree) → Alike t u → field_flaws texts t ≡ [] → field_flaws table u ≡ []
  field_good t u a n = good_alike (is_some (field_of texts t)) (is_some (field_of table u)) t u FieldBad (ap is_some (field_alike t u a)) n

  two_parts : (xs ys : List Flaw) → xs ++ ys ≡ [] → (xs ≡ []) × (ys ≡ [])
  two_parts [] ys e = (refl, e)
  two_parts (x ∷ xs) ys e = cc

  pub class_good : (t u : Tree) → Alike t u → class_flaws texts t ≡ [] → class_flaws table u ≡ []
  unfolding class_flaws
  class_good t u a n =
      let p = two_parts (flaw_unless (is_some (class_head texts t)) t ClassBad) (flat_map (field_flaws texts) (field_elements texts t)) n in
      ap (λ z. z ++ flat_map (field_flaws table) (field_elements table u)) (good_alike (is_some (class_head texts t)) (is_some (class_head table u)) t u ClassBad (ap is_some (head_alike t u a)) p.0)
      ∙ flat_map_none Alike (field_flaws texts) (field_flaws table) field_good (field_elements texts t) (field_elements table u)
      (named_alike (codes "field") (children_of t) (children_of u) (children_alike t u a))
      (nothing_each (field_flaws texts) (field_elements texts t) p.1)

  -- The elements for the classes.
  pub elements_alike : (t u : Tree) → Alike t u → Beside (AllZip Alike) (class_elements texts t) (class_elements table u)
  elements_alike t u a =
      by_found (find (λ t. bytes_eq (text_at texts (name_of t)) (codes "metadata")) (children_of t)) (find (λ u. bytes_eq (text_at table (name_of u)) (codes "metadata")) (children_of u))
      (find_zip Alike (λ t. bytes_eq (text_at texts (name_of t)) (codes "metadata")) (λ u. bytes_eq (text_at table (name_of u)) (codes "metadata")) (is_named_alike (codes "metadata")) (children_of t)
      (children_of u) (children_alike t u a))
    where
      by_found : (o p : Option Tree) → Beside Alike o p
          → Beside (AllZip Alike) (option_map (λ m. named texts (codes "class") (children_of m)) o) (option_map (λ m. named table (codes "class") (children_of m)) p)
      by_found None None b = tt
      by_found None (Some q) b = absurd b
      by_found (Some p) None b = absurd b
      by_found (Some p) (Some q) b = named_alike (codes "class") (children_of p) (children_of q) (children_alike p q b)
