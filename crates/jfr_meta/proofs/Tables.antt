-- A tree over the table of the texts that it uses.
use Rattle.std.specs.Prelude.{◌≡◌, ℕ, zero, suc, ◌<◌, ◌≤◌, max, Bool, true, false, not, List, [], ◌∷◌, length, map, filter, if◌then◌else◌, ◌⊎◌, codes}
use Rattle.std.specs.List.{AllZip, AllByRecursion, flat_map}
use Rattle.std.specs.Str.{bytes_eq}
use Rattle.std.proofs.Common.{ap, refl, sym, ◌∙◌, arith, inl, inr}
use Rattle.std.proofs.lemmas.Slice.Eq.{bytes_eq-Decides}
use Rattle.std.proofs.lemmas.Str.{chars-nil}
use Rattle.jfr_meta.specs.Trees.{Tree, Node, Trees, Nil, Cons, list_of, trees_of}
use Rattle.jfr_meta.specs.Attributes.{text_at}
use Rattle.jfr_meta.specs.Written.{IsText, HasIndices, HaveIndices, depth, depths}
use Rattle.jfr_meta.specs.Slimmed.{is_named, element_is_needed, first_changed, slim_holder, slim_root, uses, all_uses, firsts, table_of, index_in, renumbered, all_renumbered, retabled}
use Rattle.jfr_worklist.specs.Members.{In}
use Rattle.jfr_worklist.proofs.Members.{in_left, in_right}
use Rattle.jfr_meta.proofs.Lists.{in_map, filter_in, all_filter}
use Rattle.jfr_meta.proofs.Alike.{Alike, AllAlike, SamePair}

same_bytes : (x y : List ℕ) → bytes_eq x y ≡ true → x ≡ y
same_bytes x y e = (bytes_eq-Decides x y).0 e

-- A text of the table is at its index.
pub text_there : (table : List (List ℕ)) (x : List ℕ) → In table x → (text_at table (index_in table x) ≡ x) × (index_in table x < length table)
text_there [] x i = absurd i
text_there (t ∷ ts) x i = by_test (bytes_eq t x) refl i (text_there ts x)
  where
    by_test : (b : Bool) → bytes_eq t x ≡ b → (t ≡ x) ⊎ In ts x → (In ts x → (text_at ts (index_in ts x) ≡ x) × (index_in ts x < length ts))
        → (text_at (t ∷ ts) (if b then 0 else suc (index_in ts x)) ≡ x) × ((if b then 0 else suc (index_in ts x)) < suc (length ts))
    by_test true e i f = (same_bytes t x e, omega arith)
    by_test false e (inl h) f = let z : true ≡ false = sym ((bytes_eq-Decides t x).1 h) ∙ e in cc
    by_test false e (inr i) f = let r = f i in let l : index_in ts x < length ts = r.1 in (r.0, omega arith)

-- Each text is in the table.
pub in_firsts : (xs : List (List ℕ)) (x : List ℕ) → In xs x → In (firsts xs) x
in_firsts [] x i = absurd i
in_firsts (y ∷ xs) x (inl e) = inl e
in_firsts (y ∷ xs) x (inr i) = by_test (bytes_eq y x) refl (in_firsts xs x i)
  where
    by_test : (b : Bool) → bytes_eq y x ≡ b → In (firsts xs) x → (y ≡ x) ⊎ In (filter (λ z. not (bytes_eq y z)) (firsts xs)) x
    by_test true e j = inl (same_bytes y x e)
    by_test false e j = inr (filter_in (λ z. not (bytes_eq y z)) (firsts xs) x j (ap not e))

pub all_firsts : (P : List ℕ → Type 0) (xs : List (List ℕ)) → AllByRecursion P xs → AllByRecursion P (firsts xs)
all_firsts P [] a = tt
all_firsts P (x ∷ xs) a = (a.0, all_filter P (λ y. not (bytes_eq x y)) (firsts xs) (all_firsts P xs a.1))

-- What holds of all indices that a tree uses holds of the renumbered tree.
module _ (f : ℕ → ℕ) where
  pairs_used : (R : ℕ × ℕ → ℕ × ℕ → Type 0) (S : ℕ → ℕ → Type 0) (ps : List (ℕ × ℕ)) → ((i : ℕ) → In (flat_map (λ p. p.0 ∷ p.1 ∷ []) ps) i → S i (f i))
      → ((p : ℕ × ℕ) → S p.0 (f p.0) → S p.1 (f p.1) → R p (f p.0, f p.1)) → AllZip R ps (map (λ p. (f p.0, f p.1)) ps)
  pairs_used R S [] h g = tt
  pairs_used R S (p ∷ ps) h g = (g p (h p.0 (inl refl)) (h p.1 (inr (inl refl))), pairs_used R S ps (λ i j. h i (inr (inr j))) g)

  module _ (texts table : List (List ℕ)) where
    abbrev Same : ℕ → ℕ → Type 0
    Same i j = text_at texts i ≡ text_at table j

    mutual
      pub renumbered_alike : (t : Tree) → ((i : ℕ) → In (uses t) i → Same i (f i)) → Alike texts table t (renumbered f t)
      renumbered_alike (Node place name pairs children) h = (
        h name (inl refl),
        pairs_used (SamePair texts table) Same pairs (λ i j. h i (inr (in_left (flat_map (λ p. p.0 ∷ p.1 ∷ []) pairs) (all_uses children) i j))) (λ p a b. (a, b)),
        all_renumbered_alike children (λ i j. h i (inr (in_right (flat_map (λ p. p.0 ∷ p.1 ∷ []) pairs) (all_uses children) i j))),
      )

      all_renumbered_alike : (ts : Trees) → ((i : ℕ) → In (all_uses ts) i → Same i (f i)) → AllAlike texts table ts (all_renumbered f ts)
      all_renumbered_alike Nil h = tt
      all_renumbered_alike (Cons t ts) h = (renumbered_alike t (λ i j. h i (in_left (uses t) (all_uses ts) i j)), all_renumbered_alike ts (λ i j. h i (in_right (uses t) (all_uses ts) i j)))

  pairs_below : (limit : ℕ) (ps : List (ℕ × ℕ)) → ((i : ℕ) → In (flat_map (λ p. p.0 ∷ p.1 ∷ []) ps) i → f i < limit)
      → AllByRecursion (λ (p : ℕ × ℕ). (p.0 < limit) × (p.1 < limit)) (map (λ p. (f p.0, f p.1)) ps)
  pairs_below limit [] h = tt
  pairs_below limit (p ∷ ps) h = ((h p.0 (inl refl), h p.1 (inr (inl refl))), pairs_below limit ps (λ i j. h i (inr (inr j))))

  mutual
    pub renumbered_below : (limit : ℕ) (t : Tree) → ((i : ℕ) → In (uses t) i → f i < limit) → HasIndices limit (renumbered f t)
    renumbered_below limit (Node place name pairs children) h = (
      h name (inl refl),
      pairs_below limit pairs (λ i j. h i (inr (in_left (flat_map (λ p. p.0 ∷ p.1 ∷ []) pairs) (all_uses children) i j))),
      all_renumbered_below limit children (λ i j. h i (inr (in_right (flat_map (λ p. p.0 ∷ p.1 ∷ []) pairs) (all_uses children) i j))),
    )

    all_renumbered_below : (limit : ℕ) (ts : Trees) → ((i : ℕ) → In (all_uses ts) i → f i < limit) → HaveIndices limit (all_renumbered f ts)
    all_renumbered_below limit Nil h = tt
    all_renumbered_below limit (Cons t ts) h =
        (renumbered_below limit t (λ i j. h i (in_left (uses t) (all_uses ts) i j)), all_renumbered_below limit ts (λ i j. h i (in_right (uses t) (all_uses ts) i j)))

  mutual
    pub renumbered_depth : (t : Tree) → depth (renumbered f t) ≡ depth t
    renumbered_depth (Node place name pairs children) = ap (λ n. suc n) (all_renumbered_depth children)

    all_renumbered_depth : (ts : Trees) → depths (all_renumbered f ts) ≡ depths ts
    all_renumbered_depth Nil = refl
    all_renumbered_depth (Cons t ts) = λ i. max (renumbered_depth t i) (all_renumbered_depth ts i)

-- A tree over its own table says the same.
module _ (texts : List (List ℕ)) (t : Tree) where
  abbrev table : List (List ℕ)
  table = table_of texts t

  pub used_there : (i : ℕ) → In (uses t) i → In table (text_at texts i)
  unfolding table_of
  used_there i j = in_firsts (map (text_at texts) (uses t)) (text_at texts i) (in_map (text_at texts) (uses t) i j)

  pub retabled_alike : Alike texts table t (retabled texts t)
  unfolding retabled
  retabled_alike = renumbered_alike (λ i. index_in table (text_at texts i)) texts table t (λ i j. sym (text_there table (text_at texts i) (used_there i j)).0)

  pub retabled_below : HasIndices (length table) (retabled texts t)
  unfolding retabled
  retabled_below = renumbered_below (λ i. index_in table (text_at texts i)) (length table) t (λ i j. (text_there table (text_at texts i) (used_there i j)).1)

  pub retabled_depth : depth (retabled texts t) ≡ depth t
  unfolding retabled
  retabled_depth = renumbered_depth (λ i. index_in table (text_at texts i)) t

  empty_text : IsText []
  empty_text = ([], ([], (refl, refl)), chars-nil)

  text_at_text : (xs : List (List ℕ)) (i : ℕ) → AllByRecursion IsText xs → IsText (text_at xs i)
  text_at_text [] i a = empty_text
  text_at_text (x ∷ xs) zero a = a.0
  text_at_text (x ∷ xs) (suc i) a = text_at_text xs i a.1

  all_text : (is : List ℕ) → AllByRecursion IsText texts → AllByRecursion IsText (map (text_at texts) is)
  all_text [] a = tt
  all_text (i ∷ is) a = (text_at_text texts i a, all_text is a)

  pub table_texts : AllByRecursion IsText texts → AllByRecursion IsText table
  unfolding table_of
  table_texts a = all_firsts IsText (map (text_at texts) (uses t)) (all_text (uses t) a)

-- The slim tree is no deeper.
depths_of : (ts : Trees) → depths (trees_of (list_of ts)) ≡ depths ts
depths_of Nil = refl
depths_of (Cons t ts) = ap (max (depth t)) (depths_of ts)

filter_depths : (p : Tree → Bool) (ts : List Tree) → depths (trees_of (filter p ts)) ≤ depths (trees_of ts)
filter_depths p [] = omega arith
filter_depths p (t ∷ ts) = by_test (p t) (filter_depths p ts)
  where
    by_test : (b : Bool) → depths (trees_of (filter p ts)) ≤ depths (trees_of ts) → depths (trees_of (if b then t ∷ filter p ts else filter p ts)) ≤ max (depth t) (depths (trees_of ts))
    by_test true h = omega arith
    by_test false h = omega arith

changed_depths : (p : Tree → Bool) (f : Tree → Tree) → ((t : Tree) → depth (f t) ≤ depth t) → (ts : List Tree) → depths (trees_of (first_changed p f ts)) ≤ depths (trees_of ts)
changed_depths p f s [] = omega arith
changed_depths p f s (t ∷ ts) = by_test (p t) (changed_depths p f s ts)
  where
    by_test : (b : Bool) → depths (trees_of (first_changed p f ts)) ≤ depths (trees_of ts) → depths (trees_of (if b then f t ∷ ts else t ∷ first_changed p f ts)) ≤ max (depth t) (depths (trees_of ts))
    by_test true h = omega (arith, s t)
    by_test false h = omega arith

holder_depth : (texts : List (List ℕ)) (stays : ℕ → Bool) (t : Tree) → depth (slim_holder texts stays t) ≤ depth t
holder_depth texts stays (Node place name pairs children) = omega (arith, filter_depths (element_is_needed texts stays) (list_of children), depths_of children)

pub slim_depth : (texts : List (List ℕ)) (stays : ℕ → Bool) (t : Tree) → depth (slim_root texts stays t) ≤ depth t
unfolding slim_root
slim_depth texts stays (Node place name pairs children) =
    omega (arith, changed_depths (is_named texts (codes "metadata")) (slim_holder texts stays) (holder_depth texts stays) (list_of children), depths_of children)
