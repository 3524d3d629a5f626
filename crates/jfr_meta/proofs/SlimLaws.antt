-- The slim body describes the classes that stay.
use Rattle.std.specs.Prelude.{◌≡◌, ℕ, Bool, true, List, [], ◌∷◌, ◌++◌, map, filter, Option, Some, None, Ok, option_map, Contains}
use Rattle.std.specs.List.{AllZip, AllByRecursion, filter_map, flat_map}
use Rattle.std.proofs.Common.{ap, refl, sym, ◌∙◌, arith, subst}
use Rattle.jfr_base.specs.declared.flaw.Flaw.{Flaw}
use Rattle.jfr_layout.specs.Classes.{Classes, Sound, class_faults, has_id}
use Rattle.jfr_meta.specs.Trees.{Tree, element_offset}
use Rattle.jfr_meta.specs.Body.{Body}
use Rattle.jfr_meta.specs.Described.{class_elements, class_flaws, class_head, class_of, heads, classes_of, placed, list_flaws, tree_flaws, first_or, described_classes, described}
use Rattle.jfr_meta.proofs.Told.{no_flaws}
use Rattle.jfr_layout.specs.Staying.{staying}
use Rattle.jfr_meta.specs.Stays.{ids_below, HasHead}
use Rattle.jfr_meta.specs.Slimmed.{head_is_needed, slim_root, table_of, retabled, slim_body, IsSlim}
use Rattle.jfr_layout.proofs.StayingLaws.{staying_sound}
use Rattle.jfr_meta.proofs.Lists.{Beside, nothing_each, all_filter, filter_map_zip, flat_map_none}
use Rattle.jfr_meta.proofs.Alike.{Alike, head_alike, class_alike, class_good, elements_alike}
use Rattle.jfr_meta.proofs.SlimClasses.{slim_elements, remaining_classes, fields_closed}
use Rattle.jfr_meta.proofs.Tables.{retabled_alike, retabled_below, retabled_depth, table_texts, slim_depth}

-- What a body that describes classes has: elements for them, of which none is faulty.
pub record Describes (texts : List (List ℕ)) (o : Option (List Tree)) (k : Classes) : Type 0 where
  pub elements : List Tree
  pub there : o ≡ Some elements
  pub classes : classes_of texts elements ≡ k
  pub good : flat_map (class_flaws texts) elements ≡ []
  pub sound : Sound k

two_parts : {A : Type 0} (xs ys : List A) → xs ++ ys ≡ [] → (xs ≡ []) × (ys ≡ [])
two_parts [] ys e = (refl, e)
two_parts (x ∷ xs) ys e = cc

none_mapped : {A B : Type 0} (f : A → B) (xs : List A) → map f xs ≡ [] → xs ≡ []
none_mapped f [] e = refl
none_mapped f (x ∷ xs) e = cc

pub told_well : (texts : List (List ℕ)) (at : ℕ) (o : Option (List Tree)) (k : Classes) → described_classes texts at o ≡ Ok k → Describes texts o k
told_well texts at None k e = cc
told_well texts at (Some ts) k e = by_flaws (tree_flaws texts ts) refl e
  where
    by_flaws : (fs : List Flaw) → tree_flaws texts ts ≡ fs → first_or fs (classes_of texts ts) ≡ Ok k → Describes texts (Some ts) k
    by_flaws (f ∷ fs) q e = cc
    by_flaws [] q e =
        let h : classes_of texts ts ≡ k = cc in
        let p = two_parts (flat_map (class_flaws texts) ts) (list_flaws texts ts) q in
        record { elements = ts; there = refl; classes = h; good = p.0; sound = record { none = ap class_faults (sym h) ∙ none_mapped (placed texts ts) (class_faults (classes_of texts ts)) p.1 } }

same_classes : (texts table : List (List ℕ)) (ts us : List Tree) → AllZip (Alike texts table) ts us → classes_of table us ≡ classes_of texts ts
unfolding classes_of
same_classes texts table ts us z =
    sym (ap (λ hs. filter_map (class_of texts hs) ts) (filter_map_zip (Alike texts table) (class_head texts) (class_head table) (head_alike texts table) ts us z)
    ∙ filter_map_zip (Alike texts table) (class_of texts (heads table us)) (class_of table (heads table us)) (class_alike texts table (heads table us)) ts us z)

module _ (b : Body) (k : Classes) (stays : ℕ → Bool) (told : described b ≡ Ok k) where
  d : Describes b.strings (class_elements b.strings b.root) k
  unfolding described
  d = told_well b.strings (element_offset b.root) (class_elements b.strings b.root) k told

  abbrev left : Tree
  left = slim_root b.strings stays b.root

  abbrev table : List (List ℕ)
  table = table_of b.strings left

  abbrev over : Tree
  over = retabled b.strings left

  module _ (closed : (ts : List Tree) → class_elements b.strings b.root ≡ Some ts → (t : Tree) (id other : ℕ) → Contains ts t → HasHead b.strings t id → stays id ≡ true → Contains (ids_below b.strings t) other → has_id k other ≡ true → stays other ≡ true) where
    abbrev ts : List Tree
    ts = d.elements

    abbrev ts_left : List Tree
    ts_left = filter (head_is_needed b.strings stays) ts

    good_each : AllByRecursion (λ t. class_flaws b.strings t ≡ []) ts
    good_each = nothing_each (class_flaws b.strings) ts d.good

    left_classes : classes_of b.strings ts_left ≡ staying stays k
    left_classes = remaining_classes b.strings ts k stays (sym d.classes) (closed ts d.there) good_each

    sound : Sound (staying stays k)
    sound = staying_sound k stays d.sound (fields_closed b.strings ts k stays (sym d.classes) (closed ts d.there) good_each d.sound)

    there : class_elements b.strings left ≡ Some ts_left
    there = slim_elements b.strings stays b.root ∙ ap (option_map (filter (head_is_needed b.strings stays))) d.there

    told_over : (at : ℕ) (o : Option (List Tree)) → Beside (AllZip (Alike b.strings table)) (Some ts_left) o → described_classes table at o ≡ Ok (staying stays k)
    told_over at None z = absurd z
    told_over at (Some us) z =
        let classes : classes_of table us ≡ staying stays k = same_classes b.strings table ts_left us z ∙ left_classes in
        let none : flat_map (class_flaws table) us ≡ [] =
        flat_map_none (Alike b.strings table) (class_flaws b.strings) (class_flaws table) (class_good b.strings table) ts_left us z
        (all_filter (λ t. class_flaws b.strings t ≡ []) (head_is_needed b.strings stays) ts good_each) in
        ap (λ fs. first_or fs (classes_of table us)) (no_flaws table us (staying stays k) none (sym classes) sound) ∙ ap (λ z. Ok z) classes

    pub is_slim : IsSlim b k stays
    unfolding slim_body described
    is_slim = record {
      classes = told_over (element_offset over) (class_elements table over)
          (subst (λ o. Beside (AllZip (Alike b.strings table)) o (class_elements table over)) there (elements_alike b.strings table left over (retabled_alike b.strings left)));
      indices = retabled_below b.strings left;
      levels = omega (arith, retabled_depth b.strings left, slim_depth b.strings stays b.root);
      texts = table_texts b.strings left;
    }
