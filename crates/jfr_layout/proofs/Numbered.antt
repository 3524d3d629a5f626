-- The names of fields and their numbers, field by field.
use Rattle.std.proofs.Common.{◌≡◌, ℕ, ◌+◌, ◌≤◌, List, [], ◌∷◌, ◌++◌, length, take, Option, Some, None, Bool, true, false, cond, sym, ◌∙◌, ap, refl, subst}
use Rattle.std.specs.Prelude.{option_map}
use Rattle.std.specs.List.{AllZip, slice_get}
use Rattle.std.specs.BTreeMap as tree
use Rattle.std.specs.BTreeMap.{BTreeMap}
use Rattle.std.specs.Borrow.{Bor}
use Rattle.std.specs.Cmp.Lexicographic.{slice_cmp}
use Rattle.std.specs.Ordering.{nat_cmp}
use Rattle.std.specs.Str.{bytes_eq, chars, encode_utf8_all, IsUtf8}
use Rattle.std.proofs.lemmas.List.{take_all}
use Rattle.std.proofs.lemmas.Map.Text.{btree_map_updates_str}
use Rattle.std.proofs.lemmas.Option.{same_Some}
use Rattle.std.proofs.lemmas.Slice.Eq.{bytes_eq-Decides}
use Rattle.std.proofs.lemmas.Str.{encodes-chars}
use Rattle.jfr_base.proofs.TextLaws.{bytes_eq-encodes}
use Rattle.jfr_layout.specs.Classes.{Field}
use Rattle.jfr_layout.specs.Names.{AreNumbered, value_under}
use Rattle.jfr_layout.proofs.Lists.{take_next, zip_push}

abbrev Numbers : Type 0
Numbers = BTreeMap (Bor (List ℕ)) ℕ

-- What relates two members relates them in a weaker way.
pub zip_weaken : {X Y : Type 0} (R S : X → Y → Type 0) → ((x : X) (y : Y) → R x y → S x y) → (xs : List X) (ys : List Y) → AllZip R xs ys → AllZip S xs ys
zip_weaken R S h [] [] a = tt
zip_weaken R S h [] (y ∷ ys) a = absurd a
zip_weaken R S h (x ∷ xs) [] a = absurd a
zip_weaken R S h (x ∷ xs) (y ∷ ys) a = (h x y a.0, zip_weaken R S h xs ys a.1)

module _ (numbers : Numbers) (b name : List ℕ) (u : IsUtf8 b) (is : chars b ≡ name) where
  -- The bytes are the name, spelled.
  spelled : b ≡ encode_utf8_all name
  spelled = sym (encodes-chars b u) ∙ ap encode_utf8_all is

  -- What is found by the bytes is the number under the name.
  pub number_found : (o : Option ℕ) → o ≡ tree.get_by (λ k. slice_cmp nat_cmp b k.now) numbers → o ≡ value_under numbers name
  number_found o e = e ∙ ap (λ z. tree.get_by (λ (k : Bor (List ℕ)). slice_cmp nat_cmp z k.now) numbers) spelled

  module _ (later : Numbers) (n : ℕ) (none : None ≡ tree.get_by (λ k. slice_cmp nat_cmp b k.now) numbers) (up : tree.UpdatesBy (λ x y. slice_cmp nat_cmp x.now y.now) (λ k. slice_cmp nat_cmp b k.now) numbers later (Some n)) where
    with_more : (q : List ℕ) → value_under later q ≡ cond (bytes_eq name q) (Some n) (value_under numbers q)
    with_more q = btree_map_updates_str b numbers later (Some n) up (encode_utf8_all q)
        ∙ ap (λ t. cond t (Some n) (value_under numbers q)) (ap (λ z. bytes_eq z (encode_utf8_all q)) spelled ∙ bytes_eq-encodes name q)

    -- The name has its number now.
    pub number_added : Some n ≡ value_under later name
    number_added = sym (with_more name ∙ ap (λ t. cond t (Some n) (value_under numbers name)) ((bytes_eq-Decides name name).1 refl))

    -- Every other keeps its own.
    pub number_kept : (q : List ℕ) (m : ℕ) → value_under numbers q ≡ Some m → value_under later q ≡ Some m
    number_kept q m e = with_more q ∙ by_test (bytes_eq name q) refl
      where
        by_test : (t : Bool) → bytes_eq name q ≡ t → cond t (Some n) (value_under numbers q) ≡ Some m
        by_test true f = let clash : None ≡ Some m = number_found None none ∙ (ap (value_under numbers) ((bytes_eq-Decides name q).0 f) ∙ e) in cc
        by_test false f = e

    -- What is true of each name and its number is true of all with the new one.
    pub number_each : (P : List ℕ → ℕ → Type 0) → ((q : List ℕ) (m : ℕ) → value_under numbers q ≡ Some m → P q m) → P name n → (q : List ℕ) (m : ℕ) → value_under later q ≡ Some m → P q m
    number_each P old new q m e = by_test (bytes_eq name q) refl (sym (with_more q) ∙ e)
      where
        by_test : (t : Bool) → bytes_eq name q ≡ t → cond t (Some n) (value_under numbers q) ≡ Some m → P q m
        by_test true f g = subst (λ z. P z m) ((bytes_eq-Decides name q).0 f) (subst (P name) (same_Some n m g) new)
        by_test false f g = old q m g

-- The name of the field of this number.
abbrev name_of : List Field → ℕ → Option (List ℕ)
name_of fs n = option_map (λ f. f.name) (slice_get fs n)

-- The fields before this one have their numbers.
pub record NumberedSoFar (fs : List Field) (i : ℕ) (firsts : Numbers) (numbers : List ℕ) : Type 0 where
  pub first : (q : List ℕ) (n : ℕ) → value_under firsts q ≡ Some n → name_of fs n ≡ Some q
  pub each : AllZip (λ f n. value_under firsts f.name ≡ Some n) (take i fs) numbers

module _ (fs : List Field) (i : ℕ) (firsts : Numbers) (numbers : List ℕ) (f : Field) (b : List ℕ) (s : NumberedSoFar fs i firsts numbers) (there : slice_get fs i ≡ Some f) (u : IsUtf8 b) (is : chars b ≡ f.name) where
  -- A name that has a number.
  pub numbered_again : (n : ℕ) → Some n ≡ tree.get_by (λ k. slice_cmp nat_cmp b k.now) firsts → NumberedSoFar fs (i + 1) firsts (numbers ++ n ∷ [])
  numbered_again n e = record {
    first = s.first;
    each = subst (λ z. AllZip (λ f n. value_under firsts f.name ≡ Some n) z (numbers ++ n ∷ [])) (sym (take_next fs i f there))
        (zip_push (λ f n. value_under firsts f.name ≡ Some n) (take i fs) numbers f n s.each (sym (number_found firsts b f.name u is (Some n) e)));
  }

  -- A name that has none yet.
  pub numbered_new : (later : Numbers) → None ≡ tree.get_by (λ k. slice_cmp nat_cmp b k.now) firsts
      → tree.UpdatesBy (λ x y. slice_cmp nat_cmp x.now y.now) (λ k. slice_cmp nat_cmp b k.now) firsts later (Some i) → NumberedSoFar fs (i + 1) later (numbers ++ i ∷ [])
  numbered_new later none up = record {
    first = number_each firsts b f.name u is later i none up (λ q n. name_of fs n ≡ Some q) s.first (ap (option_map (λ (f : Field). f.name)) there);
    each = subst (λ z. AllZip (λ f n. value_under later f.name ≡ Some n) z (numbers ++ i ∷ [])) (sym (take_next fs i f there))
        (zip_push (λ f n. value_under later f.name ≡ Some n) (take i fs) numbers f i
        (zip_weaken (λ f n. value_under firsts f.name ≡ Some n) (λ f n. value_under later f.name ≡ Some n) (λ g m. number_kept firsts b f.name u is later i none up g.name m)
        (take i fs) numbers s.each)
        (sym (number_added firsts b f.name u is later i none up)));
  }

-- All have their numbers.
pub numbered_all : (fs : List Field) (i : ℕ) (firsts : Numbers) (numbers : List ℕ) → NumberedSoFar fs i firsts numbers → length fs ≤ i → AreNumbered fs numbers
numbered_all fs i firsts numbers s l = record {
  number = value_under firsts;
  one_name = λ p q n e f. same_Some p q (sym (s.first p n e) ∙ s.first q n f);
  each = subst (λ z. AllZip (λ f n. value_under firsts f.name ≡ Some n) z numbers) (take_all i fs l) s.each;
}
