-- What options say of strings is kept by index, and says which classes a filter allows.
use Rattle.std.specs.Prelude.{◌≡◌, ℕ, ◌+◌, ◌≤◌, Bool, true, false, ◌&&◌, ◌||◌, not, List, [], ◌∷◌, length, drop, map, slice_get, Option, Some, IfSome, unwrap_or, cond, is_some}
use Rattle.std.specs.List.{AllZip, list_any}
use Rattle.std.specs.Borrow.{Bor}
use Rattle.std.specs.Str.{chars}
use Rattle.std.specs.BTreeMap as tree
use Rattle.std.specs.BTreeMap.{BTreeMap, is_at}
use Rattle.std.specs.Cmp.{Equal-is}
use Rattle.std.specs.Ordering.{nat_cmp}
use Rattle.std.proofs.Common.{ap, refl, sym, ◌∙◌, subst}
use Rattle.std.proofs.lemmas.Map.Lookups.{exact_unsigned}
use Rattle.std.proofs.lemmas.Option.{unwrap_or-slice_get}
use Rattle.jfr_base.specs.Texts.{text_in}
use Rattle.jfr_filter.specs.declared.side.Side.TheVariants.{IncludeEvents, ExcludeEvents, IncludeCategories, ExcludeCategories}
use Rattle.jfr_filter.specs.Filters.{Given, allows_class, allows_texts, given_at, some_matches}
use Rattle.jfr_filter.proofs.AnyLaws.{any_end, any_found, any_next, drop_at_get}
use Rattle.jfr_filter.proofs.TextsLaws.{class_by_texts}
use Rattle.jfr_layout.specs.Classes.{Classes}
use Rattle.jfr_meta.specs.declared.named.ClassNames.{ClassNames}
use Rattle.jfr_meta.specs.Attributes.{text_at}
use Rattle.jfr_meta.specs.Described.{IsNamedBy}
use Rattle.jfr_meta.proofs.Texts.{text_or}
use Rattle.jfr_path.specs.Strings.{AreMatches, Options, is_allowed, is_named_allowed, matches_of}

-- The text of an index, as the code reads it.
pub text_of_index : (texts : List (List ℕ)) (i : ℕ) (o : Option (Bor (List ℕ))) (d : Bor (List ℕ)) → text_in o ≡ slice_get texts i → chars d.now ≡ [] → chars (unwrap_or o d).now ≡ text_at texts i
text_of_index texts i o d e n = text_or o d n ∙ (ap (λ z. unwrap_or z []) e ∙ unwrap_or-slice_get texts i [])

module _ (o : Options) where
  -- What was kept.
  pub match_kept : (matches : BTreeMap ℕ (Bool × Bool)) (i : ℕ) (found : Bool × Bool) → AreMatches o matches → Some found ≡ tree.get nat_cmp matches i → found ≡ matches_of o i
  match_kept matches i found a e = subst (λ z. IfSome z (λ found. found ≡ matches_of o i)) (sym e) (a i)

  -- What is found of both options.
  pub of_both : (i : ℕ) (text : List ℕ) (first second : Bool) → text ≡ text_at o.strings i → first ≡ some_matches o.filter o.include text → second ≡ some_matches o.filter o.exclude text
      → (first, second) ≡ matches_of o i
  of_both i text first second e f g =
      ap (λ b. (b, second)) (f ∙ ap (some_matches o.filter o.include) e) ∙ ap (λ b. (some_matches o.filter o.include (text_at o.strings i), b)) (g ∙ ap (some_matches o.filter o.exclude) e)

  -- What is kept more.
  pub matches_next : (old new : BTreeMap ℕ (Bool × Bool)) (i : ℕ) (found : Bool × Bool) → AreMatches o old → found ≡ matches_of o i → tree.Updates nat_cmp old new i (Some found) → AreMatches o new
  matches_next old new i found a e up = λ j. subst (λ z. IfSome z (λ found. found ≡ matches_of o j)) (sym (up.0 j)) (by_index j (is_at (nat_cmp i) j) refl)
    where
      by_index : (j : ℕ) (b : Bool) → is_at (nat_cmp i) j ≡ b → IfSome (cond b (Some found) (tree.get nat_cmp old j)) (λ found. found ≡ matches_of o j)
      by_index j true q = e ∙ ap (matches_of o) (exact_unsigned i j ((Equal-is (nat_cmp i j)).0 q))
      by_index j false q = a j

  -- Whether the string of an index is matched.
  abbrev pub is_included : ℕ → Bool
  is_included i = some_matches o.filter o.include (text_at o.strings i)

  abbrev pub is_excluded : ℕ → Bool
  is_excluded i = some_matches o.filter o.exclude (text_at o.strings i)

  -- The options allow the strings of these indices.
  abbrev pub allowed_by : List ℕ → Bool
  allowed_by indices = (not (is_some (given_at o.include o.filter)) || list_any is_included indices) && not (list_any is_excluded indices)

  any_map : {X Y : Type 0} (f : Y → Bool) (g : X → Y) (xs : List X) → list_any f (map g xs) ≡ list_any (λ x. f (g x)) xs
  any_map f g [] = refl
  any_map f g (x ∷ xs) = ap (λ b. f (g x) || b) (any_map f g xs)

  pub by_indices : (indices : List ℕ) → allows_texts o.filter o.include o.exclude (map (text_at o.strings) indices) ≡ allowed_by indices
  by_indices indices =
      ap (λ b. (not (is_some (given_at o.include o.filter)) || b) && not (list_any (some_matches o.filter o.exclude) (map (text_at o.strings) indices)))
      (any_map (some_matches o.filter o.include) (text_at o.strings) indices)
      ∙ ap (λ b. (not (is_some (given_at o.include o.filter)) || list_any is_included indices) && not b) (any_map (some_matches o.filter o.exclude) (text_at o.strings) indices)

  -- The indices so far: whether one is included, and none is excluded.
  pub record IsAsked (indices : List ℕ) (i : ℕ) (so_far : Bool) : Type 0 where
    pub included : (so_far || list_any is_included (drop i indices)) ≡ (not (is_some (given_at o.include o.filter)) || list_any is_included indices)
    pub excluded : list_any is_excluded (drop i indices) ≡ list_any is_excluded indices

  or_assoc : (a b c : Bool) → ((a || b) || c) ≡ (a || (b || c))
  or_assoc true b c = refl
  or_assoc false b c = refl

  or_false : (b : Bool) → (b || false) ≡ b
  or_false true = refl
  or_false false = refl

  and_false : (b : Bool) → (b && false) ≡ false
  and_false true = refl
  and_false false = refl

  and_true : (b : Bool) → (b && true) ≡ b
  and_true true = refl
  and_true false = refl

  -- One more index, which is not excluded.
  pub asked_next : (indices : List ℕ) (i x : ℕ) (included : Bool) → IsAsked indices i included → slice_get indices i ≡ Some x → is_excluded x ≡ false
      → IsAsked indices (i + 1) (included || is_included x)
  asked_next indices i x included k e f = record {
    included = or_assoc included (is_included x) (list_any is_included (drop (i + 1) indices)) ∙ (sym (ap (λ z. included || list_any is_included z) (drop_at_get indices i x e)) ∙ k.included);
    excluded = any_next is_excluded indices i x e f ∙ k.excluded;
  }

  -- One that is excluded.
  pub asked_excluded : (indices : List ℕ) (i x : ℕ) (included : Bool) → IsAsked indices i included → slice_get indices i ≡ Some x → is_excluded x ≡ true
      → allows_texts o.filter o.include o.exclude (map (text_at o.strings) indices) ≡ false
  asked_excluded indices i x included k e t =
      let there : list_any is_excluded indices ≡ true = sym k.excluded ∙ any_found is_excluded indices i x e t in
      let allowed = not (is_some (given_at o.include o.filter)) || list_any is_included indices in
      by_indices indices ∙ (ap (λ b. allowed && not b) there ∙ and_false allowed)

  -- All of them.
  pub asked_all : (indices : List ℕ) (i : ℕ) (included : Bool) → IsAsked indices i included → length indices ≤ i
      → included ≡ allows_texts o.filter o.include o.exclude (map (text_at o.strings) indices)
  asked_all indices i included k l =
      let none : list_any is_excluded indices ≡ false = sym k.excluded ∙ any_end is_excluded indices i l in
      let allowed = not (is_some (given_at o.include o.filter)) || list_any is_included indices in
      let some : included ≡ allowed = sym (or_false included) ∙ (sym (ap (λ b. included || b) (any_end is_included indices i l)) ∙ k.included) in
      some ∙ (sym (and_true allowed) ∙ (sym (ap (λ b. allowed && not b) none) ∙ sym (by_indices indices)))

module _ (g : Given) (texts : List (List ℕ)) where
  -- A class by its name and by its categories.
  pub class_by_names : (names : ClassNames)
      → is_named_allowed g texts names ≡ (allows_texts g IncludeEvents ExcludeEvents (text_at texts names.name ∷ []) && allows_texts g IncludeCategories ExcludeCategories (map (text_at texts) names.categories.items))
  class_by_names names = class_by_texts g (text_at texts names.name) (map (text_at texts) names.categories.items)

  -- The classes, by the strings that name them.
  pub classes_by_names : (classes : Classes) (names : List ClassNames) → AllZip (IsNamedBy texts) classes names → map (is_named_allowed g texts) names ≡ map (is_allowed g) classes
  classes_by_names [] [] z = refl
  classes_by_names [] (n ∷ ns) z = absurd z
  classes_by_names (c ∷ cs) [] z = absurd z
  classes_by_names (c ∷ cs) (n ∷ ns) z =
      ap (λ b. b ∷ map (is_named_allowed g texts) ns) (ap (λ t. allows_class g t (map (text_at texts) n.categories.items)) z.0.name ∙ ap (allows_class g c.name) z.0.categories)
      ∙ ap (λ bs. is_allowed g c ∷ bs) (classes_by_names cs ns z.1)
