-- The classes that are marked are the least set with three properties.
use Rattle.std.specs.Prelude.{◌≡◌, ◌↔◌, ℕ, zero, suc, Bool, true, false, not, ◌||◌, ◌==◌, List, [], ◌∷◌, length, map, filter, Option, Some, None, option_map, slice_get, Contains}
use Rattle.std.specs.List.{AllByRecursion, filter_map, cons_option}
use Rattle.std.specs.Option.{option_map_or}
use Rattle.std.proofs.Common.{ap, refl, sym, ◌∙◌, subst, inl, inr}
use Rattle.std.proofs.lemmas.Bool.{eqb-true, eq-eqb}
use Rattle.std.proofs.lemmas.List.Quantifiers.{position-Some}
use Rattle.std.proofs.lemmas.Option.{slice_get_within, get_or_from_slice_get}
use Rattle.jfr_layout.specs.Classes.{Class, Classes, Sound, class_index, has_id, is_event_class}
use Rattle.jfr_layout.proofs.Lists.{present}
use Rattle.jfr_layout.proofs.SoundLaws.{are_found}
use Rattle.jfr_meta.specs.Trees.{Tree}
use Rattle.jfr_meta.specs.Described.{class_head, class_flaws, class_with, class_of, classes_of, heads}
use Rattle.jfr_worklist.specs.Marks.{those, is_marked, IsMarked}
use Rattle.jfr_meta.specs.Stays.{ids_below, HasHead, HasNamed, IsStay, first_ids, next_classes, stay_marks, stay_of}
use Rattle.jfr_worklist.specs.Members.{In}
use Rattle.jfr_worklist.proofs.Members.{contains_in, in_contains, get_in, those_in, in_those}
use Rattle.jfr_meta.proofs.Lists.{in_map, in_filter, filter_in, all_in, all_members}
use Rattle.jfr_worklist.proofs.SweepLaws.{Reach, root, more, AllBelow, marks_reach}
use Rattle.jfr_meta.proofs.SlimClasses.{has_head}

-- If a function has a value for each member, its values are at the members' indices.
pub mapped_at : {A B : Type 0} (f : A → Option B) (xs : List A) → AllByRecursion (λ x. (y : B) × (f x ≡ Some y)) xs → (i : ℕ) (x : A) → slice_get xs i ≡ Some x → slice_get (filter_map f xs) i ≡ f x
mapped_at f [] a i x e = cc
mapped_at f (z ∷ xs) a zero x e = let h : z ≡ x = cc in ap (λ o. slice_get (cons_option o (filter_map f xs)) 0) a.0.1 ∙ (sym a.0.1 ∙ ap f h)
mapped_at f (z ∷ xs) a (suc i) x e = ap (λ o. slice_get (cons_option o (filter_map f xs)) (suc i)) a.0.1 ∙ mapped_at f xs a.1 i x e

pub mapped_from : {A B : Type 0} (f : A → Option B) (xs : List A) → AllByRecursion (λ x. (y : B) × (f x ≡ Some y)) xs → (i : ℕ) (y : B) → slice_get (filter_map f xs) i ≡ Some y
    → (x : A) × (slice_get xs i ≡ Some x) × (f x ≡ Some y)
mapped_from f [] a i y e = cc
mapped_from f (z ∷ xs) a zero y e = (z, refl, a.0.1 ∙ (sym (ap (λ o. slice_get (cons_option o (filter_map f xs)) 0) a.0.1) ∙ e))
mapped_from f (z ∷ xs) a (suc i) y e = mapped_from f xs a.1 i y (sym (ap (λ o. slice_get (cons_option o (filter_map f xs)) (suc i)) a.0.1) ∙ e)

pub in_get : {A : Type 0} (xs : List A) (x : A) → In xs x → (i : ℕ) × (slice_get xs i ≡ Some x)
in_get [] x j = absurd j
in_get (y ∷ xs) x (inl e) = (0, ap (λ z. Some z) e)
in_get (y ∷ xs) x (inr j) = let r = in_get xs x j in (suc r.0, r.1)

-- The class with an id, if there is one.
pub any_at : (k : Classes) (id : ℕ) → has_id k id ≡ true → (i : ℕ) × (c : Class) × (slice_get k i ≡ Some c) × (c.id ≡ id)
any_at [] id e = cc
any_at (c ∷ k) id e = by_test (c.id == id) refl e (any_at k id)
  where
    by_test : (t : Bool) → (c.id == id) ≡ t → (t || has_id k id) ≡ true → (has_id k id ≡ true → (i : ℕ) × (d : Class) × (slice_get k i ≡ Some d) × (d.id ≡ id))
        → (i : ℕ) × (d : Class) × (slice_get (c ∷ k) i ≡ Some d) × (d.id ≡ id)
    by_test true q e f = (0, c, refl, eqb-true c.id id q)
    by_test false q e f = let r = f e in (suc r.0, r.1, r.2, r.3)

pub at_any : (k : Classes) (i : ℕ) (c : Class) → slice_get k i ≡ Some c → has_id k c.id ≡ true
at_any [] i c e = cc
at_any (d ∷ k) zero c e = let h : d ≡ c = cc in ap (λ b. b || has_id k c.id) (ap (λ (z : Class). z.id == c.id) h ∙ eq-eqb c.id c.id refl)
at_any (d ∷ k) (suc i) c e = ap (λ b. (d.id == c.id) || b) (at_any k i c e) ∙ or_true (d.id == c.id)
  where
    or_true : (b : Bool) → (b || true) ≡ true
    or_true true = refl
    or_true false = refl

-- The index of an id is that of a class of the id.
pub index_at : (k : Classes) (id i : ℕ) → class_index k id ≡ Some i → (c : Class) × (slice_get k i ≡ Some c) × (c.id ≡ id)
index_at [] id i e = cc
index_at (d ∷ k) id i e =
    let p = position-Some (λ (c : Class). c.id == id) (d ∷ k) i d e in
    let c = present (d ∷ k) i p.0 in
    (c.0, c.1, eqb-true c.0.id id (ap (λ (z : Class). z.id == id) (sym (get_or_from_slice_get (d ∷ k) i c.0 d c.1)) ∙ p.1))

module _ (texts : List (List ℕ)) (ts : List Tree) (k : Classes) (used : ℕ → Bool) (made : k ≡ classes_of texts ts) (sound : Sound k) (good : AllByRecursion (λ t. class_flaws texts t ≡ []) ts) where
  abbrev hs : List (ℕ × List ℕ)
  hs = heads texts ts

  made_each : k ≡ filter_map (class_of texts hs) ts
  unfolding classes_of
  made_each = made

  class_here : (t : Tree) (h : ℕ × List ℕ) → class_head texts t ≡ Some h → class_of texts hs t ≡ Some (class_with texts hs t h)
  unfolding class_of
  class_here t h e = ap (option_map (class_with texts hs t)) e

  each_made : AllByRecursion (λ t. (c : Class) × (class_of texts hs t ≡ Some c)) ts
  each_made =
      all_members (λ t. (c : Class) × (class_of texts hs t ≡ Some c)) ts
      (λ t i. (let h = has_head texts t (all_in (λ t. class_flaws texts t ≡ []) ts t good i) in (class_with texts hs t h.0, class_here t h.0 h.1)))

  head_of : (t : Tree) (c : Class) → class_of texts hs t ≡ Some c → HasHead texts t c.id
  unfolding class_of
  head_of t c e = by_head (class_head texts t) e
    where
      by_head : (o : Option (ℕ × List ℕ)) → option_map (class_with texts hs t) o ≡ Some c → option_map (λ (h : ℕ × List ℕ). h.0) o ≡ Some c.id
      by_head None e = cc
      by_head (Some h) e = let q : class_with texts hs t h ≡ c = cc in ap (λ (z : Class). Some z.id) q

  -- The class element of a place has the id of the class there.
  element_at : (i : ℕ) (c : Class) → slice_get k i ≡ Some c → (t : Tree) × (slice_get ts i ≡ Some t) × HasHead texts t c.id
  element_at i c e = let r = mapped_from (class_of texts hs) ts each_made i c (sym (ap (λ z. slice_get z i) made_each) ∙ e) in (r.0, r.1, head_of r.0 c r.2)

  pub class_at : (i : ℕ) (t : Tree) → slice_get ts i ≡ Some t → (c : Class) × (slice_get k i ≡ Some c) × HasHead texts t c.id
  class_at i t e =
      let c = all_in (λ t. (c : Class) × (class_of texts hs t ≡ Some c)) ts t each_made (get_in ts i t e) in
      (c.0, ap (λ z. slice_get z i) made_each ∙ (mapped_at (class_of texts hs) ts each_made i t e ∙ c.1), head_of t c.0 c.1)

  index_of : (i : ℕ) (c : Class) → slice_get k i ≡ Some c → class_index k c.id ≡ Some i
  index_of i c e = ((are_found k sound).id i c e).0

  abbrev next : ℕ → List ℕ
  next = next_classes texts ts k

  abbrev roots : List ℕ
  roots = those (class_index k) (first_ids k used)

  abbrev marks : List Bool
  marks = stay_marks texts ts k used

  abbrev stays : ℕ → Bool
  stays = stay_of texts ts k used

  below : (ids : List ℕ) → AllBelow (length k) (those (class_index k) ids)
  below ids i j = let r = in_those (class_index k) ids i j in let c = index_at k r.0 i r.2 in slice_get_within k i c.0 c.1

  is_reached : (i : ℕ) → IsMarked marks i ↔ Reach next roots i
  unfolding stay_marks
  is_reached i = marks_reach (length k) next roots (below (first_ids k used)) (λ j. below (option_map_or (ids_below texts) (slice_get ts j) [])) i

  stays_at : (id i : ℕ) → class_index k id ≡ Some i → IsMarked marks i → stays id ≡ true
  stays_at id i e m = ap (λ o. option_map_or (is_marked marks) o false) e ∙ m

  at_stays : (id : ℕ) → stays id ≡ true → (i : ℕ) × (class_index k id ≡ Some i) × IsMarked marks i
  at_stays id e = by_index (class_index k id) refl e
    where
      by_index : (o : Option ℕ) → class_index k id ≡ o → option_map_or (is_marked marks) o false ≡ true → (i : ℕ) × (class_index k id ≡ Some i) × IsMarked marks i
      by_index None q e = cc
      by_index (Some i) q e = (i, q, e)

  -- One that stays in any case.
  first_stays : (id : ℕ) → has_id k id ≡ true → (not (is_event_class k id) || used id) ≡ true → stays id ≡ true
  first_stays id e t =
      let c = any_at k id e in
      let i : class_index k id ≡ Some c.0 = ap (class_index k) (sym c.3) ∙ index_of c.0 c.1 c.2 in
      let p : (not (is_event_class k c.1.id) || used c.1.id) ≡ true = ap (λ z. not (is_event_class k z) || used z) c.3 ∙ t in
      let m : In (first_ids k used) c.1.id = in_map (λ (c : Class). c.id) (filter (λ (c : Class). not (is_event_class k c.id) || used c.id) k) c.1
      (filter_in (λ (c : Class). not (is_event_class k c.id) || used c.id) k c.1 (get_in k c.0 c.1 c.2) p) in
      stays_at id c.0 i ((is_reached c.0).1 (root (those_in (class_index k) (first_ids k used) c.1.id c.0 m (index_of c.0 c.1 c.2))))

  or_true : (b : Bool) → (b || true) ≡ true
  or_true true = refl
  or_true false = refl

  same_id : (t : Tree) (a b : ℕ) → HasHead texts t a → HasHead texts t b → a ≡ b
  same_id t a b p q = let e : Some a ≡ Some b = sym p ∙ q in cc

  -- One that a member names.
  named_stays : (t : Tree) (id other : ℕ) → Contains ts t → HasHead texts t id → stays id ≡ true → Contains (ids_below texts t) other → has_id k other ≡ true → stays other ≡ true
  named_stays t id other i h s n o =
      let p = in_get ts t (contains_in ts t i) in
      let c = class_at p.0 t p.1 in
      let e : c.0.id ≡ id = same_id t c.0.id id c.2 h in
      let at : class_index k id ≡ Some p.0 = ap (class_index k) (sym e) ∙ index_of p.0 c.0 c.1 in
      let a = at_stays id s in
      let same : a.0 ≡ p.0 = (let z : Some a.0 ≡ Some p.0 = sym a.1 ∙ at in cc) in
      let r : Reach next roots p.0 = subst (Reach next roots) same ((is_reached a.0).0 a.2) in
      let d = any_at k other o in
      let q : class_index k other ≡ Some d.0 = ap (class_index k) (sym d.3) ∙ index_of d.0 d.1 d.2 in
      let j : In (next p.0) d.0 = those_in (class_index k) (option_map_or (ids_below texts) (slice_get ts p.0) []) other d.0
      (subst (λ z. In (option_map_or (ids_below texts) z []) other) (sym p.1) (contains_in (ids_below texts t) other n)) q in
      stays_at other d.0 q ((is_reached d.0).1 (more r j))

  -- Each such set has all that is reached.
  module _ (others : ℕ → Bool) (has : HasNamed texts ts k used others) where
    abbrev Has : ℕ → Type 0
    Has i = (c : Class) → slice_get k i ≡ Some c → others c.id ≡ true

    first_has : (i : ℕ) → In roots i → Has i
    first_has i j c e =
        let r = in_those (class_index k) (first_ids k used) i j in
        let m = from_map (filter (λ (c : Class). not (is_event_class k c.id) || used c.id) k) r.0 r.1 in
        let f = in_filter (λ (c : Class). not (is_event_class k c.id) || used c.id) k m.0 m.1 in
        let d = index_at k r.0 i r.2 in
        let q : d.0 ≡ c = (let z : Some d.0 ≡ Some c = sym d.1 ∙ e in cc) in
        let id : c.id ≡ m.0.id = ap (λ (z : Class). z.id) (sym q) ∙ (d.2 ∙ sym m.2) in
        by_test (is_event_class k c.id) refl (ap (λ z. not (is_event_class k z) || used z) id ∙ f.1) (at_any k i c e)
      where
        from_map : (cs : List Class) (id : ℕ) → In (map (λ (c : Class). c.id) cs) id → (c : Class) × In cs c × (c.id ≡ id)
        from_map [] id j = absurd j
        from_map (c ∷ cs) id (inl h) = (c, inl refl, h)
        from_map (c ∷ cs) id (inr j) = let r = from_map cs id j in (r.0, inr r.1, r.2)

        by_test : (b : Bool) → is_event_class k c.id ≡ b → (not b || used c.id) ≡ true → has_id k c.id ≡ true → others c.id ≡ true
        by_test false q t h = has.plain c.id h q
        by_test true q t h = has.uses c.id h t

    reached_has : {i : ℕ} → Reach next roots i → Has i
    reached_has {i} (root j) = first_has i j
    reached_has {i} (more {j = p} r j) = λ c e. step c e (reached_has r)
      where
        step : (c : Class) → slice_get k i ≡ Some c → Has p → others c.id ≡ true
        step c e h = by_element (slice_get ts p) refl (in_those (class_index k) (option_map_or (ids_below texts) (slice_get ts p) []) i j)
          where
            by_element : (o : Option Tree) → slice_get ts p ≡ o → ((x : ℕ) × In (option_map_or (ids_below texts) o []) x × (class_index k x ≡ Some i)) → others c.id ≡ true
            by_element None q r = absurd r.1
            by_element (Some t) q r =
                let d = class_at p t q in
                let x = index_at k r.0 i r.2 in
                let same : x.0 ≡ c = (let z : Some x.0 ≡ Some c = sym x.1 ∙ e in cc) in
                let id : c.id ≡ r.0 = ap (λ (z : Class). z.id) (sym same) ∙ x.2 in
                ap others id ∙ has.names t d.0.id r.0 (in_contains ts t (get_in ts p t q)) d.2 (h d.0 d.1) (in_contains (ids_below texts t) r.0 r.1) (ap (has_id k) (sym id) ∙ at_any k i c e)

    least : (id : ℕ) → stays id ≡ true → others id ≡ true
    least id s =
        let a = at_stays id s in
        let c = index_at k id a.0 a.1 in
        ap others (sym c.2) ∙ reached_has ((is_reached a.0).0 a.2) c.0 c.1

  -- The computed set is the least one.
  pub is_stay : IsStay texts ts k used stays
  is_stay = record {
    has = record {
      plain = λ id e q. first_stays id e (ap (λ b. not b || used id) q);
      uses = λ id e q. first_stays id e (ap (λ b. not (is_event_class k id) || b) q ∙ or_true (not (is_event_class k id)));
      names = named_stays;
    };
    least = least;
  }
