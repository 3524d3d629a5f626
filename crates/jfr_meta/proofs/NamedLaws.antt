-- The strings that name the class of a class element.
use Rattle.std.specs.Prelude.{◌≡◌, ◌<◌, ◌+◌, ℕ, true, false, List, [], ◌∷◌, ◌++◌, length, map, take, Option, Some, None, is_some, option_map, option_and_then, codes}
use Rattle.std.specs.Borrow.{Bor}
use Rattle.std.specs.List.{AllZip, cons_option, filter_map}
use Rattle.std.specs.Option.{option_to_list}
use Rattle.std.proofs.Common.{ap, refl, sym, ◌∙◌, subst, append-nil, get_or}
use Rattle.std.proofs.lemmas.List.Elements.{filter_map-append}
use Rattle.jfr_layout.specs.Classes.{Class, Classes, Field}
use Rattle.jfr_layout.proofs.Lists.{zip_push}
use Rattle.jfr_meta.specs.declared.named.ClassNames.{ClassNames}
use Rattle.jfr_meta.specs.Attributes.{attribute, text_at}
use Rattle.jfr_meta.specs.Described.{IsNamedBy, class_head, class_of, class_with, categories_of, field_elements, field_of, id_attribute}
use Rattle.jfr_meta.specs.Trees.{Tree}
use Rattle.jfr_meta.proofs.Judging.{refs_next}

-- What is there, is there when it is mapped.
pub as_there : {A B : Type 0} (f : A → B) (o : Option A) (p : Option B) → option_map f o ≡ p → is_some p ≡ is_some o
as_there f None p e = sym (ap is_some e)
as_there f (Some a) p e = sym (ap is_some e)

none_there : {A : Type 0} (o : Option A) → is_some o ≡ false → o ≡ None
none_there None e = refl
none_there (Some a) e = let z : true ≡ false = e in cc

abbrev with_name : List ℕ → ℕ → ℕ × List ℕ
with_name name id = (id, name)

-- The strings with these indices are the name of the super type of a class element, those of its fields, and its
-- categories.
pub record ArePartNames (texts : List (List ℕ)) (hs : List (ℕ × List ℕ)) (t : Tree) (names : ClassNames) : Type 0 where
  pub super_name : option_map (text_at texts) names.super_name ≡ attribute texts t (codes "superType")
  pub fields : map (text_at texts) names.fields.items ≡ map (λ f. f.name) (filter_map (field_of texts) (field_elements texts t))
  pub categories : map (text_at texts) names.categories.items ≡ categories_of texts hs t

module _ (texts : List (List ℕ)) (hs : List (ℕ × List ℕ)) (t : Tree) where
  -- The class by the name and the id of the element.
  name_first : (name : List ℕ) (id : Option ℕ) (names : ClassNames) → text_at texts names.name ≡ name → ArePartNames texts hs t names
      → is_some id ≡ true → class_head texts t ≡ option_map (with_name name) id
      → (c : Class) × (class_of texts hs t ≡ Some c) × IsNamedBy texts c names
  unfolding class_of
  name_first name None names e f s h = let z : false ≡ true = s in cc
  name_first name (Some i) names e f s h =
      (class_with texts hs t (i, name), ap (option_map (class_with texts hs t)) h, record { name = e; super_name = f.super_name; fields = f.fields; categories = f.categories })

  -- A class element with a head and with these names is a class that they name.
  pub named : (names : ClassNames) → Some (text_at texts names.name) ≡ attribute texts t (codes "name") → ArePartNames texts hs t names
      → is_some (class_head texts t) ≡ true → (c : Class) × (class_of texts hs t ≡ Some c) × IsNamedBy texts c names
  named names e f s =
      let head : class_head texts t ≡ option_map (with_name (text_at texts names.name)) (id_attribute texts t (codes "id")) =
      ap (option_and_then (λ (name : List ℕ). option_map (with_name name) (id_attribute texts t (codes "id")))) (sym e) in
      name_first (text_at texts names.name) (id_attribute texts t (codes "id")) names refl f
      (sym (as_there (with_name (text_at texts names.name)) (id_attribute texts t (codes "id")) (class_head texts t) (sym head)) ∙ s) head

  -- One more class, and its names.
  pub names_next : (ks : Classes) (old : List ClassNames) (names : ClassNames) → AllZip (IsNamedBy texts) ks old
      → Some (text_at texts names.name) ≡ attribute texts t (codes "name") → ArePartNames texts hs t names → is_some (class_head texts t) ≡ true
      → AllZip (IsNamedBy texts) (ks ++ option_to_list (class_of texts hs t)) (old ++ names ∷ [])
  names_next ks old names z e f s =
      let n = named names e f s in
      subst (λ o. AllZip (IsNamedBy texts) (ks ++ option_to_list o) (old ++ names ∷ [])) (sym n.1) (zip_push (IsNamedBy texts) ks old n.0 names z n.2)

  -- A class element without a head is no class.
  pub unnamed : (ks : Classes) (names : List ClassNames) → AllZip (IsNamedBy texts) ks names → is_some (class_head texts t) ≡ false
      → AllZip (IsNamedBy texts) (ks ++ option_to_list (class_of texts hs t)) names
  unfolding class_of
  unnamed ks names z s = rw (none_there (class_head texts t) s) (subst (λ k. AllZip (IsNamedBy texts) k names) (sym (append-nil ks)) z)

-- The names of the fields so far, and that of one element more.
pub fields_next : (texts : List (List ℕ)) (refs : List (Bor Tree)) (i : ℕ) (r : Bor Tree) (old new : List ℕ) → i < length refs → r ≡ get_or refs i r
    → map (text_at texts) old ≡ map (λ f. f.name) (filter_map (field_of texts) (map (λ e. e.now) (take i refs)))
    → map (text_at texts) new ≡ map (text_at texts) old ++ option_to_list (option_map (λ f. f.name) (field_of texts r.now))
    → map (text_at texts) new ≡ map (λ f. f.name) (filter_map (field_of texts) (map (λ e. e.now) (take (i + 1) refs)))
fields_next texts refs i r old new l e a b =
    let before : List Tree = map (λ e. e.now) (take i refs) in
    b ∙ (ap (λ z. z ++ option_to_list (option_map (λ f. f.name) (field_of texts r.now))) a
    ∙ (one (filter_map (field_of texts) before) (field_of texts r.now)
    ∙ sym (ap (λ z. map (λ f. f.name) (filter_map (field_of texts) z)) (refs_next refs i r l e)
    ∙ ap (map (λ f. f.name)) (filter_map-append (field_of texts) before (r.now ∷ [])))))
  where
    one : (fs : List Field) (o : Option Field) → map (λ f. f.name) fs ++ option_to_list (option_map (λ f. f.name) o) ≡ map (λ f. f.name) (fs ++ cons_option o [])
    one [] None = refl
    one [] (Some f) = refl
    one (f ∷ fs) o = ap (λ z. f.name ∷ z) (one fs o)

-- The names so far, and those of one element more.
pub elements_next : (texts : List (List ℕ)) (hs : List (ℕ × List ℕ)) (refs : List (Bor Tree)) (i : ℕ) (r : Bor Tree) (names : List ClassNames) → i < length refs → r ≡ get_or refs i r
    → AllZip (IsNamedBy texts) (filter_map (class_of texts hs) (map (λ e. e.now) (take i refs)) ++ option_to_list (class_of texts hs r.now)) names
    → AllZip (IsNamedBy texts) (filter_map (class_of texts hs) (map (λ e. e.now) (take (i + 1) refs))) names
elements_next texts hs refs i r names l e z = subst (λ k. AllZip (IsNamedBy texts) k names)
    (sym (ap (filter_map (class_of texts hs)) (refs_next refs i r l e)
    ∙ (filter_map-append (class_of texts hs) (map (λ e. e.now) (take i refs)) (r.now ∷ [])
    ∙ ap (λ z. filter_map (class_of texts hs) (map (λ e. e.now) (take i refs)) ++ z) (as_list (class_of texts hs r.now)))))
    z
  where
    as_list : (o : Option Class) → cons_option o [] ≡ option_to_list o
    as_list None = refl
    as_list (Some c) = refl
