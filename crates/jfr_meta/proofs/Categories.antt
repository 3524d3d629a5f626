-- The classes of categories, and the first annotation with one.
use Rattle.std.specs.Prelude.{◌≡◌, ℕ, zero, suc, ◌+◌, ◌<◌, ◌≤◌, Bool, true, false, ◌||◌, List, [], ◌∷◌, ◌++◌, length, map, take, drop, find, Option, Some, None, slice_get, if◌then◌else◌}
use Rattle.std.specs.List.{cons_option}
use Rattle.std.specs.Option.{option_to_list}
use Rattle.std.specs.Ordering.{nat_cmp}
use Rattle.std.specs.BTreeSet.{BTreeSet, contains}
use Rattle.std.specs.Borrow.{Bor}
use Rattle.std.proofs.Common.{ap, arith, refl, sym, ◌∙◌, get_or}
use Rattle.std.proofs.lemmas.List.{drop_all}
use Rattle.std.proofs.lemmas.List.Folds.{list_any-append}
use Rattle.std.proofs.lemmas.List.Elements.{filter_map-append}
use Rattle.jfr_meta.specs.Trees.{Tree}
use Rattle.jfr_meta.specs.Described.{AreCategoryIds, is_category_id, is_category_head, class_head, heads}
use Rattle.jfr_meta.proofs.Judging.{refs_next}

-- One more class element.
pub ids_next : (texts : List (List ℕ)) (refs : List (Bor Tree)) (i : ℕ) (r : Bor Tree) (ids later : BTreeSet ℕ) → AreCategoryIds (heads texts (map (λ e. e.now) (take i refs))) ids
    → i < length refs → r ≡ get_or refs i r
    → ((q : ℕ) → contains nat_cmp later q ≡ (contains nat_cmp ids q || is_category_id (option_to_list (class_head texts r.now)) q))
    → AreCategoryIds (heads texts (map (λ e. e.now) (take (i + 1) refs))) later
ids_next texts refs i r ids later known l e h = λ q.
    h q ∙ (ap (λ z. z || is_category_id (option_to_list (class_head texts r.now)) q) (known q)
    ∙ sym (ap (λ z. is_category_id (heads texts z) q) (refs_next refs i r l e)
    ∙ (ap (λ z. is_category_id z q) (filter_map-append (class_head texts) (map (λ e. e.now) (take i refs)) (r.now ∷ [])
    ∙ ap (λ z. heads texts (map (λ e. e.now) (take i refs)) ++ z) (one (class_head texts r.now)))
    ∙ list_any-append (is_category_head q) (heads texts (map (λ e. e.now) (take i refs))) (option_to_list (class_head texts r.now)))))
  where
    one : (o : Option (ℕ × List ℕ)) → cons_option o [] ≡ option_to_list o
    one None = refl
    one (Some h) = refl

-- What is found from a place on.
pub find_at : {A : Type 0} (p : A → Bool) (xs : List A) (i : ℕ) (x : A) → slice_get xs i ≡ Some x → find p (drop i xs) ≡ (if p x then Some x else find p (drop (i + 1) xs))
find_at p [] i x e = cc
find_at p (y ∷ xs) zero x e = let f : y ≡ x = cc in ap (λ z. if p z then Some z else find p xs) f
find_at p (y ∷ xs) (suc i) x e = let n : suc i + 1 ≡ suc (i + 1) = omega arith in rw n (find_at p xs i x e)

-- The element at a place is found, or is passed over.
pub found_at : {A : Type 0} (p : A → Bool) (xs : List A) (i : ℕ) (x : A) → slice_get xs i ≡ Some x → p x ≡ true → find p (drop i xs) ≡ Some x
found_at p xs i x e t = find_at p xs i x e ∙ ap (λ z. if z then Some x else find p (drop (i + 1) xs)) t

pub passed_at : {A : Type 0} (p : A → Bool) (xs : List A) (i : ℕ) (x : A) → slice_get xs i ≡ Some x → p x ≡ false → find p (drop i xs) ≡ find p (drop (i + 1) xs)
passed_at p xs i x e t = find_at p xs i x e ∙ ap (λ z. if z then Some x else find p (drop (i + 1) xs)) t

pub none_left : {A : Type 0} (p : A → Bool) (xs : List A) (i : ℕ) → length xs ≤ i → find p (drop i xs) ≡ None
none_left p xs i h = ap (find p) (drop_all i xs h)
