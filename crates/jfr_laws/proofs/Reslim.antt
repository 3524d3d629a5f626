-- What is slim already stays as it is, and places in trees don't matter.
use Rattle.std.specs.Prelude.{◌≡◌, ℕ, suc, ◌+◌, Bool, true, false, not, ◌||◌, List, [], ◌∷◌, ◌++◌, length, map, filter, replicate, Option, Some, None, option_map, slice_get, if◌then◌else◌, codes}
use Rattle.std.specs.List.{filter_map, flat_map}
use Rattle.std.specs.Option.{option_map_or}
use Rattle.std.specs.Str.{bytes_eq}
use Rattle.std.proofs.Common.{ap, refl, sym, ◌∙◌}
use Rattle.std.proofs.lemmas.Option.{slice_get-map}
use Rattle.jfr_base.specs.Integer.{spell, spell_in}
use Rattle.jfr_layout.specs.Classes.{Classes, class_index}
use Rattle.jfr_meta.specs.Trees.{Tree, Node, Trees, Nil, Cons, list_of, trees_of, name_of, pairs_of, tree}
use Rattle.jfr_meta.specs.Attributes.{text_at}
use Rattle.jfr_meta.specs.Body.{Body, how_many}
use Rattle.jfr_meta.specs.Described.{class_elements, id_attribute}
use Rattle.jfr_meta.specs.Written.{bare, bares, tree_bytes, trees_bytes, pair_bytes, text_bytes}
use Rattle.jfr_meta.specs.Stays.{below, all_below, ids_below, first_ids, next_classes, stay_marks, stay_of}
use Rattle.jfr_worklist.specs.Marks.{those, swept, marked_at, is_marked}
use Rattle.jfr_meta.specs.Slimmed.{with_children, is_named, element_is_needed, first_changed, slim_holder, slim_root, uses, all_uses, firsts, table_of, index_in, renumbered, all_renumbered, retabled, slim_body, bytes_of_body, table_len}
use Rattle.jfr_laws.proofs.Metadata.{SameBody}
use Rattle.jfr_meta.proofs.Bare.{children_bare, name_bare, filter_bare, filter_map_bare, elements_bare, head_bare}

-- Places in trees.
bares_of : (ts : List Tree) → bares (trees_of ts) ≡ trees_of (map bare ts)
bares_of [] = refl
bares_of (t ∷ ts) = ap (λ z. Cons (bare t) z) (bares_of ts)

with_bare : (ts : List Tree) (t : Tree) → bare (with_children ts t) ≡ Node 0 (name_of t) (pairs_of t) (trees_of (map bare ts))
with_bare ts t = ap (λ z. Node 0 (name_of t) (pairs_of t) z) (bares_of ts)

mutual
  uses_bare : (t : Tree) → uses (bare t) ≡ uses t
  uses_bare (Node place name pairs children) = ap (λ z. name ∷ (flat_map (λ p. p.0 ∷ p.1 ∷ []) pairs ++ z)) (all_uses_bare children)

  all_uses_bare : (ts : Trees) → all_uses (bares ts) ≡ all_uses ts
  all_uses_bare Nil = refl
  all_uses_bare (Cons t ts) = λ i. uses_bare t i ++ all_uses_bare ts i

mutual
  renumbered_bare : (f : ℕ → ℕ) (t : Tree) → renumbered f (bare t) ≡ bare (renumbered f t)
  renumbered_bare f (Node place name pairs children) = ap (λ z. Node 0 (f name) (map (λ p. (f p.0, f p.1)) pairs) z) (all_renumbered_bare f children)

  all_renumbered_bare : (f : ℕ → ℕ) (ts : Trees) → all_renumbered f (bares ts) ≡ bares (all_renumbered f ts)
  all_renumbered_bare f Nil = refl
  all_renumbered_bare f (Cons t ts) = λ i. Cons (renumbered_bare f t i) (all_renumbered_bare f ts i)

how_many_bare : (ts : Trees) → how_many (bares ts) ≡ how_many ts
how_many_bare Nil = refl
how_many_bare (Cons t ts) = ap (λ n. suc n) (how_many_bare ts)

mutual
  bytes_bare : (t : Tree) → tree_bytes (bare t) ≡ tree_bytes t
  bytes_bare (Node place name pairs children) = λ i. spell name ++ (spell (length pairs) ++ (flat_map pair_bytes pairs ++ (spell (how_many_bare children i) ++ all_bytes_bare children i)))

  all_bytes_bare : (ts : Trees) → trees_bytes (bares ts) ≡ trees_bytes ts
  all_bytes_bare Nil = refl
  all_bytes_bare (Cons t ts) = λ i. bytes_bare t i ++ all_bytes_bare ts i

module _ (texts : List (List ℕ)) where
  id_bare : (t : Tree) → id_attribute texts (bare t) (codes "class") ≡ id_attribute texts t (codes "class")
  id_bare (Node place name pairs children) = refl

  map_append : (xs ys : List Tree) → map bare (xs ++ ys) ≡ map bare xs ++ map bare ys
  map_append [] ys = refl
  map_append (x ∷ xs) ys = ap (λ z. bare x ∷ z) (map_append xs ys)

  mutual
    below_map : (t : Tree) → below (bare t) ≡ map bare (below t)
    below_map (Node place name pairs children) = all_below_map children

    all_below_map : (ts : Trees) → all_below (bares ts) ≡ map bare (all_below ts)
    all_below_map Nil = refl
    all_below_map (Cons t ts) = ap (λ z. bare t ∷ z) ((λ i. below_map t i ++ all_below_map ts i) ∙ sym (map_append (below t) (all_below ts)))

  ids_bare : (t : Tree) → ids_below texts (bare t) ≡ ids_below texts t
  ids_bare t = ap (filter_map (λ e. id_attribute texts e (codes "class"))) (below_map t) ∙ filter_map_bare (λ e. id_attribute texts e (codes "class")) id_bare (below t)

  is_named_bare : (key : List ℕ) (t : Tree) → is_named texts key (bare t) ≡ is_named texts key t
  is_named_bare key t = ap (λ z. bytes_eq (text_at texts z) key) (name_bare t)

  -- Which classes stay.
  next_bare : (ts : List Tree) (k : Classes) (i : ℕ) → next_classes texts (map bare ts) k i ≡ next_classes texts ts k i
  next_bare ts k i = ap (λ o. those (class_index k) (option_map_or (ids_below texts) o [])) (slice_get-map bare ts i) ∙ ap (those (class_index k)) (by_one (slice_get ts i))
    where
      by_one : (o : Option Tree) → option_map_or (ids_below texts) (option_map bare o) [] ≡ option_map_or (ids_below texts) o []
      by_one None = refl
      by_one (Some t) = ids_bare t

  marks_bare : (ts : List Tree) (k : Classes) (used : ℕ → Bool) → stay_marks texts (map bare ts) k used ≡ stay_marks texts ts k used
  unfolding stay_marks
  marks_bare ts k used = λ i. swept (length k) (λ j. next_bare ts k j i) (marked_at (replicate (length k) false) (those (class_index k) (first_ids k used)))

  stay_bare : (ts : List Tree) (k : Classes) (used : ℕ → Bool) (id : ℕ) → stay_of texts (map bare ts) k used id ≡ stay_of texts ts k used id
  stay_bare ts k used id = ap (λ m. option_map_or (is_marked m) (class_index k id) false) (marks_bare ts k used)

  pub stay_root : (root : Tree) (k : Classes) (used : ℕ → Bool) (id : ℕ)
      → option_map_or (λ ts. stay_of texts ts k used id) (class_elements texts (bare root)) false ≡ option_map_or (λ ts. stay_of texts ts k used id) (class_elements texts root) false
  stay_root root k used id = ap (λ o. option_map_or (λ ts. stay_of texts ts k used id) o false) (elements_bare texts root) ∙ by_one (class_elements texts root)
    where
      by_one : (o : Option (List Tree)) → option_map_or (λ ts. stay_of texts ts k used id) (option_map (map bare) o) false ≡ option_map_or (λ ts. stay_of texts ts k used id) o false
      by_one None = refl
      by_one (Some ts) = stay_bare ts k used id

  -- The slim tree.
  module _ (stays : ℕ → Bool) where
    element_bare : (t : Tree) → element_is_needed texts stays (bare t) ≡ element_is_needed texts stays t
    element_bare t = λ i. not (is_named_bare (codes "class") t i) || option_map_or (λ h. stays h.0) (head_bare texts t i) false

    holder_bare : (t : Tree) → slim_holder texts stays (bare t) ≡ bare (slim_holder texts stays t)
    holder_bare (Node place name pairs children) =
        ap (λ z. Node 0 name pairs (trees_of (filter (element_is_needed texts stays) z))) (children_bare (Node place name pairs children))
        ∙ (ap (λ z. Node 0 name pairs (trees_of z)) (filter_bare (element_is_needed texts stays) element_bare (list_of children))
        ∙ sym (ap (λ z. Node 0 name pairs z) (bares_of (filter (element_is_needed texts stays) (list_of children)))))

    changed_bare : (ts : List Tree)
        → first_changed (is_named texts (codes "metadata")) (slim_holder texts stays) (map bare ts) ≡ map bare (first_changed (is_named texts (codes "metadata")) (slim_holder texts stays) ts)
    changed_bare [] = refl
    changed_bare (t ∷ ts) =
        ap (λ z. if z then slim_holder texts stays (bare t) ∷ map bare ts else bare t ∷ first_changed (is_named texts (codes "metadata")) (slim_holder texts stays) (map bare ts))
        (is_named_bare (codes "metadata") t)
        ∙ by_test (is_named texts (codes "metadata") t) (changed_bare ts)
      where
        by_test : (u : Bool) → first_changed (is_named texts (codes "metadata")) (slim_holder texts stays) (map bare ts) ≡ map bare (first_changed (is_named texts (codes "metadata")) (slim_holder texts stays) ts)
            → (if u then slim_holder texts stays (bare t) ∷ map bare ts else bare t ∷ first_changed (is_named texts (codes "metadata")) (slim_holder texts stays) (map bare ts))
            ≡ map bare (if u then slim_holder texts stays t ∷ ts else t ∷ first_changed (is_named texts (codes "metadata")) (slim_holder texts stays) ts)
        by_test true h = ap (λ z. z ∷ map bare ts) (holder_bare t)
        by_test false h = ap (λ z. bare t ∷ z) h

    slim_bare : (root : Tree) → slim_root texts stays (bare root) ≡ bare (slim_root texts stays root)
    unfolding slim_root
    slim_bare (Node place name pairs children) =
        ap (λ z. Node 0 name pairs (trees_of (first_changed (is_named texts (codes "metadata")) (slim_holder texts stays) z))) (children_bare (Node place name pairs children))
        ∙ (ap (λ z. Node 0 name pairs (trees_of z)) (changed_bare (list_of children))
        ∙ sym (ap (λ z. Node 0 name pairs z) (bares_of (first_changed (is_named texts (codes "metadata")) (slim_holder texts stays) (list_of children)))))

    table_bare : (t : Tree) → table_of texts (bare t) ≡ table_of texts t
    unfolding table_of
    table_bare t = ap (λ z. firsts (map (text_at texts) z)) (uses_bare t)

    retabled_bytes : (t : Tree) → tree_bytes (retabled texts (bare t)) ≡ tree_bytes (retabled texts t)
    unfolding retabled
    retabled_bytes t =
        ap (λ z. tree_bytes (renumbered (λ i. index_in z (text_at texts i)) (bare t))) (table_bare t)
        ∙ (ap tree_bytes (renumbered_bare (λ i. index_in (table_of texts t) (text_at texts i)) t) ∙ bytes_bare (renumbered (λ i. index_in (table_of texts t) (text_at texts i)) t))

    -- What is written doesn't depend on places.
    pub table_same : (root : Tree) → table_of texts (slim_root texts stays (bare root)) ≡ table_of texts (slim_root texts stays root)
    table_same root = ap (table_of texts) (slim_bare root) ∙ table_bare (slim_root texts stays root)

    pub bytes_same : (root : Tree) → tree_bytes (retabled texts (slim_root texts stays (bare root))) ≡ tree_bytes (retabled texts (slim_root texts stays root))
    bytes_same root = ap (λ z. tree_bytes (retabled texts z)) (slim_bare root) ∙ retabled_bytes (slim_root texts stays root)

-- Two bodies that are the same but for places have the same slim bodies, but for places.
pub record SameBytes (b d : Body) : Type 0 where
  pub bytes : bytes_of_body b ≡ bytes_of_body d
  pub len : table_len b ≡ table_len d
  pub strings : b.strings ≡ d.strings

abbrev bytes_with : ℕ → ℕ → ℕ → List (List ℕ) → List ℕ → List ℕ
bytes_with start duration id strings tree = let body =
    spell start ++ (spell duration ++ (spell id ++ (spell (length strings) ++ (flat_map text_bytes strings ++ tree)))) in spell_in 5 (6 + length body) ++ (0 ∷ body)

pub same_slim : (b d : Body) (s t : ℕ → Bool) → SameBody b d → s ≡ t → SameBytes (slim_body b s) (slim_body d t)
unfolding slim_body
same_slim b d s t e f =
    let table : table_of b.strings (slim_root b.strings s b.root) ≡ table_of d.strings (slim_root d.strings t d.root) =
    sym (table_same b.strings s b.root) ∙ ((λ i. table_of (e.strings i) (slim_root (e.strings i) (f i) (e.root i))) ∙ table_same d.strings t d.root) in
    let tree : tree_bytes (retabled b.strings (slim_root b.strings s b.root)) ≡ tree_bytes (retabled d.strings (slim_root d.strings t d.root)) =
    sym (bytes_same b.strings s b.root) ∙ ((λ i. tree_bytes (retabled (e.strings i) (slim_root (e.strings i) (f i) (e.root i)))) ∙ bytes_same d.strings t d.root) in
    record {
      bytes = λ i. bytes_with (e.start i) (e.duration i) (e.id i) (table i) (tree i);
      len = λ i. length (flat_map text_bytes (table i) ++ tree i);
      strings = table;
    }
