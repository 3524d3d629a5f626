-- The classes that a scrubbed chunk needs: those that aren't event classes, those that kept events use, and
-- those to which the class elements of needed classes refer, at any depth.
use Rattle.std.specs.Prelude.{◌≡◌, ℕ, Bool, true, false, not, ◌&&◌, ◌||◌, nat_lt, List, [], ◌∷◌, ◌++◌, length, map, filter, replicate, slice_get, Some, option_map, Contains, codes}
use Rattle.std.specs.Option.{option_map_or, option_to_list}
use Rattle.std.specs.Ordering.{nat_cmp}
use Rattle.std.specs.BTreeSet.{contains}
use Rattle.jfr_meta.specs.declared.ids.Ids.{Ids}
use Rattle.jfr_worklist.specs.Marks.{those, is_marked, marked_at, swept}
use Rattle.std.specs.List.{filter_map}
use Rattle.jfr_layout.specs.Classes.{Classes, has_id, class_index, is_event_class}
use Rattle.jfr_meta.specs.Trees.{Tree, Node, Trees, Nil, Cons}
use Rattle.jfr_meta.specs.Described.{class_head, id_attribute}

-- The elements below an element, at any depth, in order.
abbrev mutual
  pub below : Tree → List Tree
  below (Node place name pairs children) = all_below children

  pub all_below : Trees → List Tree
  all_below Nil = []
  all_below (Cons t ts) = t ∷ (below t ++ all_below ts)

-- The ids of the classes to which the elements below an element refer: the values of their attributes
-- `class`.
abbrev pub ids_below : List (List ℕ) → Tree → List ℕ
ids_below texts t = filter_map (λ e. id_attribute texts e (codes "class")) (below t)

-- The class element has this id.
abbrev pub HasHead : List (List ℕ) → Tree → ℕ → Type 0
HasHead texts t id = option_map (λ h. h.0) (class_head texts t) ≡ Some id

-- The set has each class that isn't an event class, each used class, and each class to which the class
-- element of a class in the set refers.
pub record HasNamed (texts : List (List ℕ)) (ts : List Tree) (k : Classes) (used stays : ℕ → Bool) : Type 0 where
  pub plain : (id : ℕ) → has_id k id ≡ true → is_event_class k id ≡ false → stays id ≡ true
  pub uses : (id : ℕ) → has_id k id ≡ true → used id ≡ true → stays id ≡ true
  pub names : (t : Tree) (id other : ℕ) → Contains ts t → HasHead texts t id → stays id ≡ true → Contains (ids_below texts t) other → has_id k other ≡ true → stays other ≡ true

-- The set is the smallest with these classes.
pub record IsStay (texts : List (List ℕ)) (ts : List Tree) (k : Classes) (used stays : ℕ → Bool) : Type 0 where
  pub has : HasNamed texts ts k used stays
  pub least : (others : ℕ → Bool) → HasNamed texts ts k used others → (id : ℕ) → stays id ≡ true → others id ≡ true

-- The ids of the classes that aren't event classes or are used.
abbrev pub first_ids : Classes → (ℕ → Bool) → List ℕ
first_ids k used = map (λ c. c.id) (filter (λ c. not (is_event_class k c.id) || used c.id) k)

-- The indices of the classes to which the class element with this index refers.
abbrev pub next_classes : List (List ℕ) → List Tree → Classes → ℕ → List ℕ
next_classes texts ts k i = those (class_index k) (option_map_or (ids_below texts) (slice_get ts i) [])

-- Whether each class is needed, in order. In each round, marked classes mark those to which they refer; after
-- n rounds, for n classes, nothing is added any more.
unfoldable pub stay_marks : List (List ℕ) → List Tree → Classes → (ℕ → Bool) → List Bool
stay_marks texts ts k used = swept (length k) (next_classes texts ts k) (marked_at (replicate (length k) false) (those (class_index k) (first_ids k used)))

-- Whether the class with this id is needed.
abbrev pub stay_of : List (List ℕ) → List Tree → Classes → (ℕ → Bool) → ℕ → Bool
stay_of texts ts k used id = option_map_or (is_marked (stay_marks texts ts k used)) (class_index k id) false

-- The ids of the classes to which an element and those below it refer.
abbrev pub ids_with : List (List ℕ) → Tree → List ℕ
ids_with texts t = option_to_list (id_attribute texts t (codes "class")) ++ ids_below texts t

-- Whether the id is in the set.
abbrev pub is_in : Ids → ℕ → Bool
is_in set id = contains nat_cmp set.ids id

-- Whether the class with this id is marked and its index is below this one.
abbrev pub marked_below : List Bool → Classes → ℕ → ℕ → Bool
marked_below marks k at id = option_map_or (λ i. nat_lt i at && is_marked marks i) (class_index k id) false
