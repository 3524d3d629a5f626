-- A slim body stays as it is: all its classes stay, and its table has each text once, in order of first use.
use Rattle.std.specs.Prelude.{◌≡◌, ℕ, Bool, true, false, not, ◌||◌, ◌&&◌, ◌==◌, List, [], ◌∷◌, ◌++◌, map, filter, find, Option, Some, None, Ok, option_map, if◌then◌else◌, codes, Contains}
use Rattle.std.specs.List.{AllZip, flat_map}
use Rattle.std.specs.Option.{option_map_or}
use Rattle.std.proofs.Common.{ap, refl, sym, ◌∙◌, subst, inl, inr}
use Rattle.std.proofs.lemmas.Bool.{eqb-true}
use Rattle.jfr_layout.specs.Classes.{Classes, has_id, class_index, is_event_class}
use Rattle.jfr_meta.specs.Trees.{Tree, Node, Trees, Nil, Cons, list_of, trees_of, element_offset, children_of}
use Rattle.jfr_meta.specs.Attributes.{text_at, named}
use Rattle.jfr_meta.specs.Body.{Body}
use Rattle.jfr_meta.specs.Described.{class_elements, class_head, class_flaws, described, id_attribute}
use Rattle.jfr_layout.specs.Staying.{staying}
use Rattle.jfr_meta.specs.Stays.{below, all_below, ids_below, HasHead, HasNamed, IsStay, stay_marks, stay_of}
use Rattle.jfr_worklist.specs.Marks.{is_marked}
use Rattle.jfr_meta.specs.Slimmed.{with_children, is_named, head_is_needed, element_is_needed, first_changed, slim_holder, slim_root, uses, all_uses, firsts, table_of, index_in, renumbered, all_renumbered, retabled, slim_body}
use Rattle.jfr_worklist.specs.Members.{In}
use Rattle.jfr_worklist.proofs.Members.{get_in, contains_in, in_contains}
use Rattle.jfr_meta.proofs.Lists.{in_filter, filter_in, nothing_each}
use Rattle.jfr_meta.proofs.Alike.{Alike, AllAlike, head_alike, id_alike, elements_alike}
use Rattle.jfr_meta.proofs.Lists as lists
use Rattle.jfr_worklist.proofs.Members as members
use Rattle.jfr_meta.proofs.SlimClasses.{slim_elements}
use Rattle.jfr_meta.proofs.SlimLaws.{Describes, told_well, is_slim}
use Rattle.jfr_meta.proofs.StayLaws.{at_any, index_at, in_get, class_at, is_stay}
use Rattle.jfr_layout.proofs.StayingLaws.{events_staying}
use Rattle.jfr_meta.proofs.Tables.{retabled_alike, used_there, text_there}

-- Among those that stay.
staying_has : (stays : ℕ → Bool) (k : Classes) (id : ℕ) → has_id (staying stays k) id ≡ true → (stays id ≡ true) × (has_id k id ≡ true)
staying_has stays [] id e = cc
staying_has stays (c ∷ k) id e = by_test (stays c.id) refl e (staying_has stays k id)
  where
    or_true : (b : Bool) → (b || true) ≡ true
    or_true true = refl
    or_true false = refl

    by_id : (t : Bool) → (c.id == id) ≡ t → stays c.id ≡ true → (t || has_id (staying stays k) id) ≡ true → (has_id (staying stays k) id ≡ true → (stays id ≡ true) × (has_id k id ≡ true))
        → (stays id ≡ true) × ((t || has_id k id) ≡ true)
    by_id true q s e f = (ap stays (sym (eqb-true c.id id q)) ∙ s, refl)
    by_id false q s e f = f e

    by_test : (s : Bool) → stays c.id ≡ s → has_id (if s then c ∷ staying stays k else staying stays k) id ≡ true → (has_id (staying stays k) id ≡ true → (stays id ≡ true) × (has_id k id ≡ true))
        → (stays id ≡ true) × (has_id (c ∷ k) id ≡ true)
    by_test true s e f = by_id (c.id == id) refl s e f
    by_test false s e f = let r = f e in (r.0, ap (λ b. (c.id == id) || b) r.1 ∙ or_true (c.id == id))

has_staying : (stays : ℕ → Bool) (k : Classes) (id : ℕ) → has_id k id ≡ true → stays id ≡ true → has_id (staying stays k) id ≡ true
has_staying stays [] id e s = cc
has_staying stays (c ∷ k) id e s = by_test (c.id == id) refl (stays c.id) refl e (λ h. has_staying stays k id h s)
  where
    or_true : (b : Bool) → (b || true) ≡ true
    or_true true = refl
    or_true false = refl

    by_test : (t : Bool) → (c.id == id) ≡ t → (u : Bool) → stays c.id ≡ u → (t || has_id k id) ≡ true → (has_id k id ≡ true → has_id (staying stays k) id ≡ true)
        → has_id (if u then c ∷ staying stays k else staying stays k) id ≡ true
    by_test true q true r e f = ap (λ b. b || has_id (staying stays k) id) q
    by_test true q false r e f = let z : false ≡ true = sym r ∙ (ap stays (eqb-true c.id id q) ∙ s) in cc
    by_test false q true r e f = ap (λ b. (c.id == id) || b) (f e) ∙ or_true (c.id == id)
    by_test false q false r e f = f e

zip_in : {A B : Type 0} (R : A → B → Type 0) (xs : List A) (ys : List B) (x : A) → AllZip R xs ys → In xs x → (y : B) × In ys y × R x y
zip_in R [] ys x z i = absurd i
zip_in R (w ∷ xs) [] x z i = absurd z
zip_in R (w ∷ xs) (y ∷ ys) x z (inl e) = (y, inl refl, subst (λ u. R u y) e z.0)
zip_in R (w ∷ xs) (y ∷ ys) x z (inr i) = let r = zip_in R xs ys x z.1 i in (r.0, inr r.1, r.2)

-- What alike elements name.
module _ (texts table : List (List ℕ)) where
  zip_append : (xs : List Tree) (ys : List Tree) (us vs : List Tree) → AllZip (Alike texts table) xs ys → AllZip (Alike texts table) us vs → AllZip (Alike texts table) (xs ++ us) (ys ++ vs)
  zip_append [] [] us vs a b = b
  zip_append [] (y ∷ ys) us vs a b = absurd a
  zip_append (x ∷ xs) [] us vs a b = absurd a
  zip_append (x ∷ xs) (y ∷ ys) us vs a b = (a.0, zip_append xs ys us vs a.1 b)

  mutual
    below_alike : (t u : Tree) → Alike texts table t u → AllZip (Alike texts table) (below t) (below u)
    below_alike (Node p n ps ts) (Node q m qs us) a = all_below_alike ts us a.2

    all_below_alike : (ts us : Trees) → AllAlike texts table ts us → AllZip (Alike texts table) (all_below ts) (all_below us)
    all_below_alike Nil Nil a = tt
    all_below_alike Nil (Cons u us) a = absurd a
    all_below_alike (Cons t ts) Nil a = absurd a
    all_below_alike (Cons t ts) (Cons u us) a = (a.0, zip_append (below t) (below u) (all_below ts) (all_below us) (below_alike t u a.0) (all_below_alike ts us a.1))

  ids_alike : (t u : Tree) → Alike texts table t u → ids_below texts t ≡ ids_below table u
  ids_alike t u a =
      lists.filter_map_zip (Alike texts table) (λ e. id_attribute texts e (codes "class")) (λ e. id_attribute table e (codes "class")) (id_alike texts table (codes "class")) (below t) (below u)
      (below_alike t u a)

-- A list of which all pass.
all_pass : {A : Type 0} (p : A → Bool) (xs : List A) → ((x : A) → In xs x → p x ≡ true) → filter p xs ≡ xs
all_pass p [] f = refl
all_pass p (x ∷ xs) f = ap (λ t. if t then x ∷ filter p xs else filter p xs) (f x (inl refl)) ∙ ap (λ z. x ∷ z) (all_pass p xs (λ y i. f y (inr i)))

same_changed : {A : Type 0} (p : A → Bool) (f : A → A) (xs : List A) → ((m : A) → find p xs ≡ Some m → f m ≡ m) → first_changed p f xs ≡ xs
same_changed p f [] g = refl
same_changed p f (x ∷ xs) g = by_test (p x) refl g (same_changed p f xs)
  where
    by_test : (t : Bool) → p x ≡ t → ((m : _) → (if t then Some x else find p xs) ≡ Some m → f m ≡ m) → (((m : _) → find p xs ≡ Some m → f m ≡ m) → first_changed p f xs ≡ xs)
        → (if t then f x ∷ xs else x ∷ first_changed p f xs) ≡ x ∷ xs
    by_test true e g h = ap (λ z. z ∷ xs) (g x refl)
    by_test false e g h = ap (λ z. x ∷ z) (h g)

trees_back : (ts : Trees) → trees_of (list_of ts) ≡ ts
trees_back Nil = refl
trees_back (Cons t ts) = ap (λ z. Cons t z) (trees_back ts)

same_children : (t : Tree) (ts : List Tree) → ts ≡ children_of t → with_children ts t ≡ t
same_children (Node place name pairs children) ts e = ap (λ z. Node place name pairs (trees_of z)) e ∙ ap (λ z. Node place name pairs z) (trees_back children)

-- What a renumbered tree uses.
module _ (f : ℕ → ℕ) where
  map_append : (xs ys : List ℕ) → map f (xs ++ ys) ≡ map f xs ++ map f ys
  map_append [] ys = refl
  map_append (x ∷ xs) ys = ap (λ z. f x ∷ z) (map_append xs ys)

  pairs_used : (ps : List (ℕ × ℕ)) → flat_map (λ (p : ℕ × ℕ). p.0 ∷ p.1 ∷ []) (map (λ p. (f p.0, f p.1)) ps) ≡ map f (flat_map (λ (p : ℕ × ℕ). p.0 ∷ p.1 ∷ []) ps)
  pairs_used [] = refl
  pairs_used (p ∷ ps) = ap (λ z. f p.0 ∷ f p.1 ∷ z) (pairs_used ps)

  mutual
    uses_renumbered : (t : Tree) → uses (renumbered f t) ≡ map f (uses t)
    uses_renumbered (Node place name pairs children) =
        ap (λ z. f name ∷ z) ((λ i. pairs_used pairs i ++ all_uses_renumbered children i) ∙ sym (map_append (flat_map (λ (p : ℕ × ℕ). p.0 ∷ p.1 ∷ []) pairs) (all_uses children)))

    all_uses_renumbered : (ts : Trees) → all_uses (all_renumbered f ts) ≡ map f (all_uses ts)
    all_uses_renumbered Nil = refl
    all_uses_renumbered (Cons t ts) = (λ i. uses_renumbered t i ++ all_uses_renumbered ts i) ∙ sym (map_append (uses t) (all_uses ts))

  module _ (g : ℕ → ℕ) where
    pairs_again : (ps : List (ℕ × ℕ)) → map {B = ℕ × ℕ} (λ p. (g p.0, g p.1)) (map {B = ℕ × ℕ} (λ p. (f p.0, f p.1)) ps) ≡ map {B = ℕ × ℕ} (λ p. (g (f p.0), g (f p.1))) ps
    pairs_again [] = refl
    pairs_again (p ∷ ps) = ap (λ z. (g (f p.0), g (f p.1)) ∷ z) (pairs_again ps)

    same_pairs : (ps : List (ℕ × ℕ)) → ((i : ℕ) → In (flat_map (λ (p : ℕ × ℕ). p.0 ∷ p.1 ∷ []) ps) i → g (f i) ≡ f i)
        → map {B = ℕ × ℕ} (λ p. (g (f p.0), g (f p.1))) ps ≡ map {B = ℕ × ℕ} (λ p. (f p.0, f p.1)) ps
    same_pairs [] h = refl
    same_pairs (p ∷ ps) h = λ i. (h p.0 (inl refl) i, h p.1 (inr (inl refl)) i) ∷ same_pairs ps (λ j k. h j (inr (inr k))) i

    mutual
      renumbered_again : (t : Tree) → ((i : ℕ) → In (uses t) i → g (f i) ≡ f i) → renumbered g (renumbered f t) ≡ renumbered f t
      renumbered_again (Node place name pairs children) h =
          λ i. Node place (h name (inl refl) i)
          ((pairs_again pairs ∙ same_pairs pairs (λ j k. h j (inr (members.in_left (flat_map (λ (p : ℕ × ℕ). p.0 ∷ p.1 ∷ []) pairs) (all_uses children) j k)))) i)
          (all_renumbered_again children (λ j k. h j (inr (members.in_right (flat_map (λ (p : ℕ × ℕ). p.0 ∷ p.1 ∷ []) pairs) (all_uses children) j k))) i)

      all_renumbered_again : (ts : Trees) → ((i : ℕ) → In (all_uses ts) i → g (f i) ≡ f i) → all_renumbered g (all_renumbered f ts) ≡ all_renumbered f ts
      all_renumbered_again Nil h = refl
      all_renumbered_again (Cons t ts) h =
          λ i. Cons (renumbered_again t (λ j k. h j (members.in_left (uses t) (all_uses ts) j k)) i) (all_renumbered_again ts (λ j k. h j (members.in_right (uses t) (all_uses ts) j k)) i)

-- A tree over its own table.
module _ (texts : List (List ℕ)) (t : Tree) where
  abbrev own : List (List ℕ)
  own = table_of texts t

  abbrev at_own : ℕ → ℕ
  at_own i = index_in own (text_at texts i)

  text_kept : (i : ℕ) → In (uses t) i → text_at own (at_own i) ≡ text_at texts i
  text_kept i j = (text_there own (text_at texts i) (used_there texts t i j)).0

  texts_kept : (is : List ℕ) → ((i : ℕ) → In is i → In (uses t) i) → map (text_at own) (map at_own is) ≡ map (text_at texts) is
  texts_kept [] f = refl
  texts_kept (i ∷ is) f = λ z. text_kept i (f i (inl refl)) z ∷ texts_kept is (λ j k. f j (inr k)) z

  pub table_again : table_of own (retabled texts t) ≡ own
  unfolding table_of retabled
  table_again = ap (λ z. firsts (map (text_at own) z)) (uses_renumbered at_own t) ∙ ap firsts (texts_kept (uses t) (λ i j. j))

  pub retabled_again : retabled own (retabled texts t) ≡ retabled texts t
  unfolding retabled
  retabled_again =
      ap (λ z. renumbered (λ i. index_in z (text_at own i)) (renumbered at_own t)) table_again
      ∙ renumbered_again at_own (λ i. index_in own (text_at own i)) t (λ i j. ap (index_in own) (text_kept i j))

module _ (b : Body) (k : Classes) (used stays : ℕ → Bool) (told : described b ≡ Ok k) (is : (ts : List Tree) → class_elements b.strings b.root ≡ Some ts → IsStay b.strings ts k used stays) where
  d : Describes b.strings (class_elements b.strings b.root) k
  unfolding described
  d = told_well b.strings (element_offset b.root) (class_elements b.strings b.root) k told

  abbrev ts : List Tree
  ts = d.elements

  stay : IsStay b.strings ts k used stays
  stay = is ts d.there

  abbrev remaining : Tree
  remaining = slim_root b.strings stays b.root

  abbrev table : List (List ℕ)
  table = table_of b.strings remaining

  abbrev over : Tree
  over = retabled b.strings remaining

  abbrev m : Classes
  m = staying stays k

  told_slim : described (slim_body b stays) ≡ Ok m
  told_slim = (is_slim b k stays told (λ us e t id other i h s n o. (is us e).has.names t id other i h s n o)).classes

  pub c : Describes table (class_elements table over) m
  unfolding described slim_body
  c = told_well table (element_offset over) (class_elements table over) m told_slim

  abbrev us : List Tree
  us = c.elements

  abbrev pub again : ℕ → Bool
  again = stay_of table us m used

  stay_again : IsStay table us m used again
  stay_again = is_stay table us m used (sym c.classes) c.sound (nothing_each (class_flaws table) us c.good)

  zip : AllZip (Alike b.strings table) (filter (head_is_needed b.strings stays) ts) us
  zip =
      let there : class_elements b.strings remaining ≡ Some (filter (head_is_needed b.strings stays) ts) =
      slim_elements b.strings stays b.root ∙ ap (option_map (filter (head_is_needed b.strings stays))) d.there in
      subst (λ o. lists.Beside (AllZip (Alike b.strings table)) (Some (filter (head_is_needed b.strings stays) ts)) o) c.there
      (subst (λ o. lists.Beside (AllZip (Alike b.strings table)) o (class_elements table over)) there (elements_alike b.strings table remaining over (retabled_alike b.strings remaining)))

  again_has : (id : ℕ) → again id ≡ true → has_id m id ≡ true
  again_has id e = by_index (class_index m id) refl e
    where
      by_index : (o : Option ℕ) → class_index m id ≡ o → option_map_or (is_marked (stay_marks table us m used)) o false ≡ true → has_id m id ≡ true
      by_index None q e = cc
      by_index (Some i) q e = let x = index_at m id i q in ap (has_id m) (sym x.2) ∙ at_any m i x.0 x.1

  head_test : (t : Tree) (id : ℕ) (test : ℕ → Bool) → HasHead b.strings t id → head_is_needed b.strings test t ≡ test id
  head_test t id test e = by_head (class_head b.strings t) e
    where
      by_head : (o : Option (ℕ × List ℕ)) → option_map (λ (h : ℕ × List ℕ). h.0) o ≡ Some id → option_map_or (λ (h : ℕ × List ℕ). test h.0) o false ≡ test id
      by_head None e = cc
      by_head (Some h) e = let q : h.0 ≡ id = cc in ap test q

  -- What stays again has what its members name in the first place.
  named_again : HasNamed b.strings ts k used again
  named_again = record {
    plain = λ id h n.
        (let s = stay.has.plain id h n in
        stay_again.has.plain id (has_staying stays k id h s) (events_staying k stays id ∙ (ap (λ t. t && is_event_class k id) s ∙ n)));
    uses = λ id h u. stay_again.has.uses id (has_staying stays k id h (stay.has.uses id h u)) u;
    names = λ t id other i h s n o.
        (let here = (staying_has stays k id (again_has id s)).0 in
        let there = stay.has.names t id other i h here n o in
        let x = zip_in (Alike b.strings table) (filter (head_is_needed b.strings stays) ts) us t zip
        (filter_in (head_is_needed b.strings stays) ts t (contains_in ts t i) (head_test t id stays h ∙ here)) in
        stay_again.has.names x.0 id other (in_contains us x.0 x.1) (ap (option_map (λ (h : ℕ × List ℕ). h.0)) (sym (head_alike b.strings table t x.0 x.2)) ∙ h) s
        (subst (λ z. Contains z other) (ids_alike b.strings table t x.0 x.2) n) (has_staying stays k other o there));
  }

  pub all_again : (id : ℕ) → has_id m id ≡ true → again id ≡ true
  all_again id h = stay.least again named_again id (staying_has stays k id h).0

  -- So no class element goes.
  element_again : (u : Tree) → In us u → head_is_needed table again u ≡ true
  element_again u i =
      let p = in_get us u i in
      let x = class_at table us m used (sym c.classes) c.sound (nothing_each (class_flaws table) us c.good) p.0 u p.1 in
      by_head (class_head table u) x.0.id x.2 (all_again x.0.id (at_any m p.0 x.0 x.1))
    where
      by_head : (o : Option (ℕ × List ℕ)) (id : ℕ) → option_map (λ (h : ℕ × List ℕ). h.0) o ≡ Some id → again id ≡ true → option_map_or (λ (h : ℕ × List ℕ). again h.0) o false ≡ true
      by_head None id e s = cc
      by_head (Some h) id e s = let q : h.0 ≡ id = cc in ap again q ∙ s

  holder_again : (x : Tree) → find (is_named table (codes "metadata")) (children_of over) ≡ Some x → slim_holder table again x ≡ x
  holder_again x e =
      let q : us ≡ named table (codes "class") (children_of x) =
      (let z : Some us ≡ Some (named table (codes "class") (children_of x)) = sym c.there ∙ ap (option_map (λ m. named table (codes "class") (children_of m))) e in cc) in
      same_children x (filter (element_is_needed table again) (children_of x))
      (all_pass (element_is_needed table again) (children_of x)
      (λ y i. one y (is_named table (codes "class") y) refl (λ t. element_again y (subst (λ z. In z y) (sym q) (filter_in (is_named table (codes "class")) (children_of x) y i t)))))
    where
      one : (y : Tree) (t : Bool) → is_named table (codes "class") y ≡ t → (is_named table (codes "class") y ≡ true → head_is_needed table again y ≡ true) → element_is_needed table again y ≡ true
      one y true e f = ap (λ t. not t || head_is_needed table again y) e ∙ f e
      one y false e f = ap (λ t. not t || head_is_needed table again y) e

  root_again : slim_root table again over ≡ over
  unfolding slim_root
  root_again = same_children over (first_changed (is_named table (codes "metadata")) (slim_holder table again) (children_of over))
      (same_changed (is_named table (codes "metadata")) (slim_holder table again) (children_of over) holder_again)

  pub body_again : slim_body (slim_body b stays) again ≡ slim_body b stays
  unfolding slim_body
  body_again = λ i. record {
    start = b.start;
    duration = b.duration;
    id = b.id;
    strings = (ap (table_of table) root_again ∙ table_again b.strings remaining) i;
    root = (ap (retabled table) root_again ∙ retabled_again b.strings remaining) i;
  }

  pub again_is : (id : ℕ) → option_map_or (λ xs. stay_of (slim_body b stays).strings xs m used id) (class_elements (slim_body b stays).strings (slim_body b stays).root) false ≡ again id
  unfolding slim_body
  again_is id = ap (λ o. option_map_or (λ xs. stay_of table xs m used id) o false) c.there
