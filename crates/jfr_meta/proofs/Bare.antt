-- The classes that a tree describes don't depend on the offsets of its elements.
use Rattle.std.specs.Prelude.{◌≡◌, ℕ, Bool, true, false, List, [], ◌∷◌, ◌++◌, map, filter, find, Option, Some, None, is_some, Result, Ok, Err, option_map, slice_get, if◌then◌else◌, codes}
use Rattle.std.specs.List.{flat_map, filter_map, cons_option}
use Rattle.std.specs.Option.{option_map_or}
use Rattle.std.specs.Str.{bytes_eq}
use Rattle.std.proofs.Common.{ap, refl, sym, ◌∙◌}
use Rattle.std.proofs.lemmas.Option.{slice_get-map}
use Rattle.jfr_base.specs.declared.reason.Reason.{Reason}
use Rattle.jfr_base.specs.declared.reason.Reason.TheVariants.{ClassBad, FieldBad}
use Rattle.jfr_base.specs.declared.flaw.Flaw.{Flaw}
use Rattle.jfr_layout.specs.Classes.{Class, Classes, Field, ClassFlaw, class_faults}
use Rattle.jfr_meta.specs.Trees.{Tree, Node, Trees, Nil, Cons, list_of, element_offset, name_of, children_of}
use Rattle.jfr_meta.specs.Attributes.{text_at, attribute, named, values_of}
use Rattle.jfr_meta.specs.Described.{class_elements, field_elements, class_head, shape_of, field_of, flaw_unless, field_flaws, class_flaws, heads, is_category, annotations_of, categories_of, class_of, classes_of, element_place, flaw_place, placed, list_flaws, tree_flaws, first_or, described_classes, described}
use Rattle.jfr_meta.specs.Written.{bare, bares}

-- Parts of a bare tree.
pub children_bare : (t : Tree) → children_of (bare t) ≡ map bare (children_of t)
children_bare (Node place name pairs children) = these children
  where
    these : (ts : Trees) → list_of (bares ts) ≡ map bare (list_of ts)
    these Nil = refl
    these (Cons t ts) = ap (λ z. bare t ∷ z) (these ts)

pub name_bare : (t : Tree) → name_of (bare t) ≡ name_of t
name_bare (Node place name pairs children) = refl

place_bare : (t : Tree) → element_offset (bare t) ≡ 0
place_bare (Node place name pairs children) = refl

-- A test that gives the same on a bare tree.
pub filter_bare : (q : Tree → Bool) → ((t : Tree) → q (bare t) ≡ q t) → (ts : List Tree) → filter q (map bare ts) ≡ map bare (filter q ts)
filter_bare q s [] = refl
filter_bare q s (t ∷ ts) = ap (λ z. if z then bare t ∷ filter q (map bare ts) else filter q (map bare ts)) (s t) ∙ by_test (q t) (filter_bare q s ts)
  where
    by_test : (u : Bool) → filter q (map bare ts) ≡ map bare (filter q ts)
        → (if u then bare t ∷ filter q (map bare ts) else filter q (map bare ts)) ≡ map bare (if u then t ∷ filter q ts else filter q ts)
    by_test true h = ap (λ z. bare t ∷ z) h
    by_test false h = h

pub find_bare : (q : Tree → Bool) → ((t : Tree) → q (bare t) ≡ q t) → (ts : List Tree) → find q (map bare ts) ≡ option_map bare (find q ts)
find_bare q s [] = refl
find_bare q s (t ∷ ts) = ap (λ z. if z then Some (bare t) else find q (map bare ts)) (s t) ∙ by_test (q t) (find_bare q s ts)
  where
    by_test : (u : Bool) → find q (map bare ts) ≡ option_map bare (find q ts) → (if u then Some (bare t) else find q (map bare ts)) ≡ option_map bare (if u then Some t else find q ts)
    by_test true h = refl
    by_test false h = h

pub filter_map_bare : {X : Type 0} (g : Tree → Option X) → ((t : Tree) → g (bare t) ≡ g t) → (ts : List Tree) → filter_map g (map bare ts) ≡ filter_map g ts
filter_map_bare g s [] = refl
filter_map_bare g s (t ∷ ts) = ap (λ z. cons_option z (filter_map g (map bare ts))) (s t) ∙ ap (cons_option (g t)) (filter_map_bare g s ts)

-- What a bare element says.
pub named_bare : (texts : List (List ℕ)) (key : List ℕ) (t : Tree) → named texts key (children_of (bare t)) ≡ map bare (named texts key (children_of t))
named_bare texts key t = ap (named texts key) (children_bare t) ∙ filter_bare (λ t. bytes_eq (text_at texts (name_of t)) key) (λ t. ap (λ z. bytes_eq (text_at texts z) key) (name_bare t))
    (children_of t)

pub elements_bare : (texts : List (List ℕ)) (root : Tree) → class_elements texts (bare root) ≡ option_map (map bare) (class_elements texts root)
elements_bare texts root =
    ap (λ z. option_map (λ m. named texts (codes "class") (children_of m)) (find (λ t. bytes_eq (text_at texts (name_of t)) (codes "metadata")) z)) (children_bare root)
    ∙ (ap (option_map (λ m. named texts (codes "class") (children_of m)))
    (find_bare (λ t. bytes_eq (text_at texts (name_of t)) (codes "metadata")) (λ t. ap (λ z. bytes_eq (text_at texts z) (codes "metadata")) (name_bare t)) (children_of root))
    ∙ by_one (find (λ t. bytes_eq (text_at texts (name_of t)) (codes "metadata")) (children_of root)))
  where
    by_one : (o : Option Tree)
        → option_map (λ m. named texts (codes "class") (children_of m)) (option_map bare o) ≡ option_map (map bare) (option_map (λ m. named texts (codes "class") (children_of m)) o)
    by_one None = refl
    by_one (Some t) = ap Some (named_bare texts (codes "class") t)

field_bare : (texts : List (List ℕ)) (t : Tree) → field_of texts (bare t) ≡ field_of texts t
unfolding field_of shape_of
field_bare texts (Node place name pairs children) = refl

pub head_bare : (texts : List (List ℕ)) (t : Tree) → class_head texts (bare t) ≡ class_head texts t
head_bare texts (Node place name pairs children) = refl

super_bare : (texts : List (List ℕ)) (t : Tree) → attribute texts (bare t) (codes "superType") ≡ attribute texts t (codes "superType")
super_bare texts (Node place name pairs children) = refl

is_category_bare : (texts : List (List ℕ)) (hs : List (ℕ × List ℕ)) (t : Tree) → is_category texts hs (bare t) ≡ is_category texts hs t
is_category_bare texts hs (Node place name pairs children) = refl

fields_bare : (texts : List (List ℕ)) (t : Tree) → filter_map (field_of texts) (field_elements texts (bare t)) ≡ filter_map (field_of texts) (field_elements texts t)
fields_bare texts t = ap (filter_map (field_of texts)) (named_bare texts (codes "field") t) ∙ filter_map_bare (field_of texts) (field_bare texts) (field_elements texts t)

categories_bare : (texts : List (List ℕ)) (hs : List (ℕ × List ℕ)) (t : Tree) → categories_of texts hs (bare t) ≡ categories_of texts hs t
categories_bare texts hs t =
    ap (λ z. option_map_or (values_of texts) z [])
    (ap (find (is_category texts hs)) (named_bare texts (codes "annotation") t) ∙ find_bare (is_category texts hs) (is_category_bare texts hs) (annotations_of texts t))
    ∙ by_one (find (is_category texts hs) (annotations_of texts t))
  where
    by_one : (o : Option Tree) → option_map_or (values_of texts) (option_map bare o) [] ≡ option_map_or (values_of texts) o []
    by_one None = refl
    by_one (Some (Node place name pairs children)) = refl

abbrev made : Option (ℕ × List ℕ) → Option (List ℕ) → List Field → List (List ℕ) → Option Class
made o s f c = option_map (λ h. record { id = h.0; name = h.1; super_name = s; fields = f; categories = c }) o

class_bare : (texts : List (List ℕ)) (hs : List (ℕ × List ℕ)) (t : Tree) → class_of texts hs (bare t) ≡ class_of texts hs t
unfolding class_of
class_bare texts hs t = λ i. made (head_bare texts t i) (super_bare texts t i) (fields_bare texts t i) (categories_bare texts hs t i)

classes_bare : (texts : List (List ℕ)) (ts : List Tree) → classes_of texts (map bare ts) ≡ classes_of texts ts
unfolding classes_of
classes_bare texts ts =
    ap (λ hs. filter_map (class_of texts hs) (map bare ts)) (filter_map_bare (class_head texts) (head_bare texts) ts)
    ∙ filter_map_bare (class_of texts (heads texts ts)) (class_bare texts (heads texts ts)) ts

-- What is faulty about a bare tree is faulty about the tree.
abbrev erased : Flaw → Flaw
erased f = record { offset = 0; reason = f.reason }

erased_append : (fs gs : List Flaw) → map erased (fs ++ gs) ≡ map erased fs ++ map erased gs
erased_append [] gs = refl
erased_append (f ∷ fs) gs = ap (λ z. erased f ∷ z) (erased_append fs gs)

unless_bare : (t : Tree) (g h : Bool) (why : Reason) → g ≡ h → flaw_unless g (bare t) why ≡ map erased (flaw_unless h t why)
unless_bare (Node place name pairs children) g h why e = ap (λ z. flaw_unless z (Node 0 name pairs (bares children)) why) e ∙ by_test h
  where
    by_test : (h : Bool) → flaw_unless h (Node 0 name pairs (bares children)) why ≡ map erased (flaw_unless h (Node place name pairs children) why)
    by_test true = refl
    by_test false = refl

field_flaws_bare : (texts : List (List ℕ)) (ts : List Tree) → flat_map (field_flaws texts) (map bare ts) ≡ map erased (flat_map (field_flaws texts) ts)
field_flaws_bare texts [] = refl
field_flaws_bare texts (t ∷ ts) =
    ap (λ z. z ++ flat_map (field_flaws texts) (map bare ts)) (unless_bare t (is_some (field_of texts (bare t))) (is_some (field_of texts t)) FieldBad (ap is_some (field_bare texts t)))
    ∙ (ap (λ z. map erased (field_flaws texts t) ++ z) (field_flaws_bare texts ts) ∙ sym (erased_append (field_flaws texts t) (flat_map (field_flaws texts) ts)))

one_bare : (texts : List (List ℕ)) (t : Tree) → class_flaws texts (bare t) ≡ map erased (class_flaws texts t)
unfolding class_flaws
one_bare texts t =
    let own : List Flaw = flaw_unless (is_some (class_head texts t)) t ClassBad in
    ap (λ z. z ++ flat_map (field_flaws texts) (field_elements texts (bare t)))
    (unless_bare t (is_some (class_head texts (bare t))) (is_some (class_head texts t)) ClassBad (ap is_some (head_bare texts t)))
    ∙ (ap (λ z. map erased own ++ z) (ap (flat_map (field_flaws texts)) (named_bare texts (codes "field") t) ∙ field_flaws_bare texts (field_elements texts t))
    ∙ sym (erased_append own (flat_map (field_flaws texts) (field_elements texts t))))

attributes_bare : (texts : List (List ℕ)) (ts : List Tree) → flat_map (class_flaws texts) (map bare ts) ≡ map erased (flat_map (class_flaws texts) ts)
attributes_bare texts [] = refl
attributes_bare texts (t ∷ ts) =
    ap (λ z. z ++ flat_map (class_flaws texts) (map bare ts)) (one_bare texts t)
    ∙ (ap (λ z. map erased (class_flaws texts t) ++ z) (attributes_bare texts ts) ∙ sym (erased_append (class_flaws texts t) (flat_map (class_flaws texts) ts)))

no_place : (o : Option Tree) → option_map_or element_offset (option_map bare o) 0 ≡ 0
no_place None = refl
no_place (Some t) = place_bare t

no_element_place : (texts : List (List ℕ)) (t : Tree) (field : Option ℕ) → element_place texts (bare t) field ≡ 0
no_element_place texts t None = place_bare t
no_element_place texts t (Some n) =
    ap (λ z. option_map_or element_offset z 0) (ap (λ z. slice_get z n) (named_bare texts (codes "field") t) ∙ slice_get-map bare (field_elements texts t) n)
    ∙ no_place (slice_get (field_elements texts t) n)

no_flaw_place : (texts : List (List ℕ)) (ts : List Tree) (class : ℕ) (field : Option ℕ) → flaw_place texts (map bare ts) class field ≡ 0
no_flaw_place texts ts class field = ap (λ z. option_map_or (λ t. element_place texts t field) z 0) (slice_get-map bare ts class) ∙ by_one (slice_get ts class)
  where
    by_one : (o : Option Tree) → option_map_or (λ t. element_place texts t field) (option_map bare o) 0 ≡ 0
    by_one None = refl
    by_one (Some t) = no_element_place texts t field

placed_bare : (texts : List (List ℕ)) (ts : List Tree) (es : List ClassFlaw) → map (placed texts (map bare ts)) es ≡ map erased (map (placed texts ts) es)
placed_bare texts ts [] = refl
placed_bare texts ts (e ∷ es) = λ i. record { offset = no_flaw_place texts ts e.class e.field i; reason = e.reason } ∷ placed_bare texts ts es i

flaws_bare : (texts : List (List ℕ)) (ts : List Tree) → tree_flaws texts (map bare ts) ≡ map erased (tree_flaws texts ts)
flaws_bare texts ts =
    ap (λ z. z ++ list_flaws texts (map bare ts)) (attributes_bare texts ts)
    ∙ (ap (λ z. map erased (flat_map (class_flaws texts) ts) ++ z)
    (ap (λ k. map (placed texts (map bare ts)) (class_faults k)) (classes_bare texts ts) ∙ placed_bare texts ts (class_faults (classes_of texts ts)))
    ∙ sym (erased_append (flat_map (class_flaws texts) ts) (list_flaws texts ts)))

-- The classes, if they have no flaw.
abbrev classes_in : Result Classes Flaw → Option Classes
classes_in (Ok k) = Some k
classes_in (Err f) = None

first_bare : (fs : List Flaw) (k : Classes) → classes_in (first_or (map erased fs) k) ≡ classes_in (first_or fs k)
first_bare [] k = refl
first_bare (f ∷ fs) k = refl

told_bare : (texts : List (List ℕ)) (at from : ℕ) (o : Option (List Tree)) → classes_in (described_classes texts at (option_map (map bare) o)) ≡ classes_in (described_classes texts from o)
told_bare texts at from None = refl
told_bare texts at from (Some ts) =
    ap (λ z. classes_in (first_or z (classes_of texts (map bare ts)))) (flaws_bare texts ts)
    ∙ (ap (λ z. classes_in (first_or (map erased (tree_flaws texts ts)) z)) (classes_bare texts ts) ∙ first_bare (tree_flaws texts ts) (classes_of texts ts))

abbrev told_of : List (List ℕ) → Tree → Result Classes Flaw
told_of texts root = described_classes texts (element_offset root) (class_elements texts root)

same_told : (texts : List (List ℕ)) (t u : Tree) → bare t ≡ bare u → classes_in (told_of texts t) ≡ classes_in (told_of texts u)
same_told texts t u e = sym (to_bare t) ∙ (ap (λ z. classes_in (told_of texts z)) e ∙ to_bare u)
  where
    to_bare : (t : Tree) → classes_in (told_of texts (bare t)) ≡ classes_in (told_of texts t)
    to_bare t = ap (λ z. classes_in (described_classes texts (element_offset (bare t)) z)) (elements_bare texts t)
        ∙ told_bare texts (element_offset (bare t)) (element_offset t) (class_elements texts t)

-- Two trees that are the same but for their places describe the same classes.
pub described_bare : (start duration id : ℕ) (strings : List (List ℕ)) (t u : Tree) (k : Classes) → bare t ≡ bare u
    → described (record { start = start; duration = duration; id = id; strings = strings; root = t }) ≡ Ok k
    → described (record { start = start; duration = duration; id = id; strings = strings; root = u }) ≡ Ok k
unfolding described
described_bare start duration id strings t u k e d = by_answer (told_of strings u) refl
  where
    there : classes_in (told_of strings u) ≡ Some k
    there = sym (same_told strings t u e) ∙ ap classes_in d

    by_answer : (r : Result Classes Flaw) → told_of strings u ≡ r → told_of strings u ≡ Ok k
    by_answer (Ok m) f = let g : Some m ≡ Some k = sym (ap classes_in f) ∙ there in let h : m ≡ k = cc in f ∙ ap (λ z. Ok z) h
    by_answer (Err w) f = let g : None ≡ Some k = sym (ap classes_in f) ∙ there in cc
