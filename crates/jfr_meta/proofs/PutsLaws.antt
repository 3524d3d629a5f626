-- What is put one after another.
use Rattle.std.specs.Prelude.{◌≡◌, ℕ, zero, suc, ◌+◌, ◌<◌, ◌≤◌, Bool, true, false, not, ◌&&◌, ◌||◌, ◌==◌, nat_lt, List, [], ◌∷◌, ◌++◌, length, take, map, filter, replicate, slice_get, slice_index, Option, Some, None, if◌then◌else◌, codes}
use Rattle.std.specs.List.{flat_map, filter_map, cons_option}
use Rattle.std.specs.Option.{option_map_or, option_to_list}
use Rattle.std.proofs.Common.{ap, refl, sym, ◌∙◌, arith, subst, append-nil}
use Rattle.std.proofs.lemmas.Bool.{eqb-true, eq-eqb}
use Rattle.std.proofs.lemmas.Bool.Decides.{nat_tests}
use Rattle.std.proofs.lemmas.List.{length-replicate, take_all}
use Rattle.std.proofs.lemmas.List.Elements.{filter_map-append}
use Rattle.std.proofs.lemmas.Grind.{flat_map-append}
use Rattle.jfr_layout.specs.Classes.{Class, Classes, Sound, class_index, is_event_class}
use Rattle.jfr_layout.proofs.Lists.{take_next}
use Rattle.jfr_layout.proofs.SoundLaws.{are_found}
use Rattle.jfr_meta.specs.Trees.{Tree, Node, Trees, Nil, Cons, list_of, children_of}
use Rattle.jfr_meta.specs.Described.{id_attribute}
use Rattle.jfr_worklist.specs.Marks.{those, is_marked, marked_at, swept}
use Rattle.jfr_worklist.specs.Worklists.{ordered_all}
use Rattle.jfr_worklist.specs.Putting.{Puts}
use Rattle.jfr_meta.specs.Stays.{below, all_below, ids_below, ids_with, first_ids, next_classes, stay_marks, marked_below}
use Rattle.jfr_worklist.specs.declared.worklist.Worklist.{Worklist}
use Rattle.jfr_worklist.proofs.Members.{in_those, those_append}
use Rattle.jfr_worklist.proofs.SweepLaws.{AllBelow, marks_reach}
use Rattle.jfr_worklist.proofs.MarkLaws.{all_size, same_flags, swept_size}
use Rattle.jfr_worklist.proofs.PuttingLaws.{puts_then}
use Rattle.jfr_worklist.proofs.WalkLaws.{Walking, walking_ends, started, went_on}
use Rattle.jfr_meta.proofs.StayLaws.{index_at}

-- Ids that are put one after another.
pub ids_then : (k : Classes) (xs ys : List ℕ) (a b c : Worklist) → Puts (those (class_index k) xs) a b → Puts (those (class_index k) ys) b c → Puts (those (class_index k) (xs ++ ys)) a c
ids_then k xs ys a b c p q = subst (λ z. Puts z a c) (sym (those_append (class_index k) xs ys)) (puts_then (those (class_index k) xs) (those (class_index k) ys) a b c p q)

-- The ids below an element are those with its children.
module _ (texts : List (List ℕ)) where
  abbrev own : Tree → Option ℕ
  own t = id_attribute texts t (codes "class")

  with_each : (ts : Trees) → filter_map own (all_below ts) ≡ flat_map (ids_with texts) (list_of ts)
  with_each Nil = refl
  with_each (Cons t ts) =
      by_own (own t) (filter_map-append own (below t) (all_below ts) ∙ ap (λ z. filter_map own (below t) ++ z) (with_each ts))
    where
      by_own : (o : Option ℕ) → filter_map own (below t ++ all_below ts) ≡ ids_below texts t ++ flat_map (ids_with texts) (list_of ts)
          → cons_option o (filter_map own (below t ++ all_below ts)) ≡ (option_to_list o ++ ids_below texts t) ++ flat_map (ids_with texts) (list_of ts)
      by_own None e = e
      by_own (Some id) e = ap (λ z. id ∷ z) e

  pub below_each : (t : Tree) → ids_below texts t ≡ flat_map (ids_with texts) (children_of t)
  below_each (Node place name pairs children) = with_each children

  flat_next : (ts : List Tree) (i : ℕ) (t : Tree) → slice_get ts i ≡ Some t → flat_map (ids_with texts) (take (i + 1) ts) ≡ flat_map (ids_with texts) (take i ts) ++ ids_with texts t
  flat_next ts i t e =
      ap (flat_map (ids_with texts)) (take_next ts i t e)
      ∙ (flat_map-append (ids_with texts) (take i ts) (t ∷ []) ∙ ap (λ z. flat_map (ids_with texts) (take i ts) ++ z) (append-nil (ids_with texts t)))

  -- One element more.
  pub each_next : (k : Classes) (ts : List Tree) (i : ℕ) (t : Tree) (a b c d : Worklist) → slice_get ts i ≡ Some t → Puts (those (class_index k) (flat_map (ids_with texts) (take i ts))) a b
      → Puts (those (class_index k) (option_to_list (own t))) b c → Puts (those (class_index k) (ids_below texts t)) c d
      → Puts (those (class_index k) (flat_map (ids_with texts) (take (i + 1) ts))) a d
  each_next k ts i t a b c d e p q r =
      subst (λ z. Puts (those (class_index k) z) a d) (sym (flat_next ts i t e))
      (ids_then k (flat_map (ids_with texts) (take i ts)) (ids_with texts t) a b d p (ids_then k (option_to_list (own t)) (ids_below texts t) b c d q r))

-- The classes that stay in any case, one by one.
module _ (k : Classes) (used : ℕ → Bool) where
  abbrev is_first : Class → Bool
  is_first c = not (is_event_class k c.id) || used c.id

  abbrev pub first_of : List Class → List ℕ
  first_of cs = map (λ (c : Class). c.id) (filter is_first cs)

  abbrev pub one_first : Class → List ℕ
  one_first c = if is_first c then c.id ∷ [] else []

  first_append : (xs : List Class) (c : Class) → first_of (xs ++ c ∷ []) ≡ first_of xs ++ one_first c
  first_append [] c = by_test (is_first c)
    where
      by_test : (t : Bool) → map (λ (c : Class). c.id) (if t then c ∷ [] else []) ≡ (if t then c.id ∷ [] else [])
      by_test true = refl
      by_test false = refl
  first_append (x ∷ xs) c = by_test (is_first x) (first_append xs c)
    where
      by_test : (t : Bool) → first_of (xs ++ c ∷ []) ≡ first_of xs ++ one_first c
          → map (λ (c : Class). c.id) (if t then x ∷ filter is_first (xs ++ c ∷ []) else filter is_first (xs ++ c ∷ [])) ≡ map (λ (c : Class). c.id) (if t then x ∷ filter is_first xs else filter is_first xs) ++ one_first c
      by_test true e = ap (λ z. x.id ∷ z) e
      by_test false e = e

  pub first_next : (i : ℕ) (c : Class) (a b d : Worklist) → slice_get k i ≡ Some c → Puts (those (class_index k) (first_of (take i k))) a b → Puts (those (class_index k) (one_first c)) b d
      → Puts (those (class_index k) (first_of (take (i + 1) k))) a d
  first_next i c a b d e p q =
      subst (λ z. Puts (those (class_index k) z) a d) (sym (ap first_of (take_next k i c e) ∙ first_append (take i k) c))
      (ids_then k (first_of (take i k)) (one_first c) a b d p q)

  pub first_end : (i : ℕ) (a b : Worklist) → length k ≤ i → Puts (those (class_index k) (first_of (take i k))) a b → Puts (those (class_index k) (first_ids k used)) a b
  first_end i a b h p = subst (λ z. Puts (those (class_index k) (first_of z)) a b) (take_all i k h) p

-- The loop over what is marked.
module _ (texts : List (List ℕ)) (ts : List Tree) (k : Classes) (used : ℕ → Bool) where
  abbrev next : ℕ → List ℕ
  next = next_classes texts ts k

  abbrev roots : List ℕ
  roots = those (class_index k) (first_ids k used)

  those_below : (ids : List ℕ) → AllBelow (length k) (those (class_index k) ids)
  those_below ids i j = let r = in_those (class_index k) ids i j in let c = index_at k r.0 i r.2 in within k i c.0 c.1
    where
      within : (xs : List Class) (i : ℕ) (x : Class) → slice_get xs i ≡ Some x → i < length xs
      within [] i x e = cc
      within (y ∷ xs) zero x e = omega arith
      within (y ∷ xs) (suc i) x e = omega (arith, within xs i x e)

  abbrev pub Going : List Bool → List ℕ → ℕ → Type 0
  Going f o at = Walking (length k) next roots (λ i. 0) 0 f o at 0

  next_below : (j : ℕ) → AllBelow (length k) (next j)
  next_below j = those_below (option_map_or (ids_below texts) (slice_get ts j) [])

  pub going_starts : (a b : Worklist) → a.flags.items ≡ replicate (length k) false → a.order.items ≡ [] → Puts roots a b → Going b.flags.items b.order.items 0
  going_starts a b e o p =
      started (length k) next roots (λ i. 0) (those_below (first_ids k used)) next_below 0 0 b.flags.items b.order.items
      (p.marks ∙ ap (λ z. marked_at z roots) e) (p.order ∙ (ap (λ z. ordered_all z a.order.items roots) e ∙ ap (λ z. ordered_all (replicate (length k) false) z roots) o)) (omega arith)

  pub going_on : (a b : Worklist) (at j : ℕ) → at < length a.order.items → Going a.flags.items a.order.items at → j ≡ slice_index a.order.items at → Puts (next j) a b
      → Going b.flags.items b.order.items (at + 1)
  going_on a b at j h w e p =
      went_on (length k) next roots (λ i. 0) (those_below (first_ids k used)) next_below 0 a.flags.items b.flags.items a.order.items b.order.items at 0 0 j h w e p.marks p.order (omega arith)

  pub marks_size : length (stay_marks texts ts k used) ≡ length k
  unfolding stay_marks
  marks_size = swept_size next (length k) (marked_at (replicate (length k) false) roots) ∙ (all_size (replicate (length k) false) roots ∙ length-replicate (length k) false)

  pub going_ends : (a : Worklist) (at : ℕ) → length a.order.items ≤ at → Going a.flags.items a.order.items at → a.flags.items ≡ stay_marks texts ts k used
  unfolding stay_marks
  going_ends a at h w =
      let e = walking_ends (length k) next roots (λ i. 0) 0 a.flags.items a.order.items at 0 h w in
      let m = marks_reach (length k) next roots (those_below (first_ids k used)) next_below in
      same_flags a.flags.items (swept (length k) next (marked_at (replicate (length k) false) roots)) (e.size ∙ sym marks_size)
      (λ i. ((λ g. (m i).1 ((e.exact i).0 g)), (λ g. (e.exact i).1 ((m i).0 g))))

-- Anything and false is false, and anything or false is the same.
never : (b : Bool) → (b && false) ≡ false
never true = refl
never false = refl

keep : (b : Bool) → (b || false) ≡ b
keep true = refl
keep false = refl

-- The ids of the classes that are marked, one by one.
module _ (marks : List Bool) (k : Classes) (sound : Sound k) where
  pub below_none : (id : ℕ) → marked_below marks k 0 id ≡ false
  below_none id = by_index (class_index k id)
    where
      by_index : (o : Option ℕ) → option_map_or (λ i. nat_lt i 0 && is_marked marks i) o false ≡ false
      by_index None = refl
      by_index (Some i) = ap (λ t. t && is_marked marks i) (let e : nat_lt i 0 ≡ false = grind (arith, nat_tests) in e)

  pub below_all : (at id : ℕ) → length k ≤ at → marked_below marks k at id ≡ option_map_or (is_marked marks) (class_index k id) false
  below_all at id h = by_index (class_index k id) refl
    where
      by_index : (o : Option ℕ) → class_index k id ≡ o → option_map_or (λ i. nat_lt i at && is_marked marks i) o false ≡ option_map_or (is_marked marks) o false
      by_index None q = refl
      by_index (Some i) q =
          let c = index_at k id i q in
          let l : i < length k = within k i c.0 c.1 in
          ap (λ t. t && is_marked marks i) (let e : nat_lt i at ≡ true = grind (arith, nat_tests) in e)
        where
          within : (xs : List Class) (i : ℕ) (x : Class) → slice_get xs i ≡ Some x → i < length xs
          within [] i x e = cc
          within (y ∷ xs) zero x e = omega arith
          within (y ∷ xs) (suc i) x e = omega (arith, within xs i x e)

  -- One class more.
  pub below_next : (at id : ℕ) (c : Class) → slice_get k at ≡ Some c → marked_below marks k (at + 1) id ≡ (marked_below marks k at id || ((c.id == id) && is_marked marks at))
  below_next at id c e = by_index (class_index k id) refl
    where
      own : class_index k c.id ≡ Some at
      own = ((are_found k sound).id at c e).0

      by_place : (i : ℕ) → class_index k id ≡ Some i → (t : Bool) → (c.id == id) ≡ t → (nat_lt i (at + 1) && is_marked marks i) ≡ ((nat_lt i at && is_marked marks i) || (t && is_marked marks at))
      by_place i q true h =
          let f : c.id ≡ id = eqb-true c.id id h in
          let g : i ≡ at = (let z : Some i ≡ Some at = sym q ∙ (ap (class_index k) (sym f) ∙ own) in cc) in
          let l : nat_lt i (at + 1) ≡ true = grind (arith, nat_tests) in
          let m : nat_lt i at ≡ false = grind (arith, nat_tests) in
          ap (λ t. t && is_marked marks i) l ∙ (ap (is_marked marks) g ∙ ap (λ t. (t && is_marked marks i) || is_marked marks at) (sym m))
      by_place i q false h =
          let d = index_at k id i q in
          let n : nat_lt i (at + 1) ≡ nat_lt i at = other i (not_at i d.0 d.1 d.2 h) in
          ap (λ t. t && is_marked marks i) n ∙ sym (keep (nat_lt i at && is_marked marks i))
        where
          not_at : (i : ℕ) (d : Class) → slice_get k i ≡ Some d → d.id ≡ id → (c.id == id) ≡ false → i ≡ at → ⊥
          not_at i d g f h u =
              let s : Some d ≡ Some c = sym g ∙ (ap (slice_get k) u ∙ e) in
              let v : d ≡ c = cc in
              let w : c.id ≡ id = ap (λ (z : Class). z.id) (sym v) ∙ f in
              let x : true ≡ false = sym (eq-eqb c.id id w) ∙ h in
              cc

          other : (i : ℕ) → (i ≡ at → ⊥) → nat_lt i (at + 1) ≡ nat_lt i at
          other i n = by_less (nat_lt i at) refl
            where
              by_less : (t : Bool) → nat_lt i at ≡ t → nat_lt i (at + 1) ≡ t
              by_less true h = grind (arith, nat_tests)
              by_less false h = by_more (nat_lt i (at + 1)) refl
                where
                  by_more : (t : Bool) → nat_lt i (at + 1) ≡ t → t ≡ false
                  by_more false g = refl
                  by_more true g = let u : i ≡ at = grind (arith, nat_tests) in absurd (n u)

      by_index : (o : Option ℕ) → class_index k id ≡ o
          → option_map_or (λ i. nat_lt i (at + 1) && is_marked marks i) o false ≡ (option_map_or (λ i. nat_lt i at && is_marked marks i) o false || ((c.id == id) && is_marked marks at))
      by_index None q = by_test (c.id == id) refl
        where
          by_test : (t : Bool) → (c.id == id) ≡ t → false ≡ (t && is_marked marks at)
          by_test false h = refl
          by_test true h = let z : None ≡ Some at = sym q ∙ (ap (class_index k) (sym (eqb-true c.id id h)) ∙ own) in cc
      by_index (Some i) q = by_place i q (c.id == id) refl

-- What is added if a class is marked, and if it isn't.
module _ (marks : List Bool) (k : Classes) (sound : Sound k) (at id : ℕ) (c : Class) (there : slice_get k at ≡ Some c) where
  pub added : (old new : Bool) → new ≡ (old || (c.id == id)) → old ≡ marked_below marks k at id → is_marked marks at ≡ true → new ≡ marked_below marks k (at + 1) id
  added old new e f m =
      e ∙ (ap (λ b. b || (c.id == id)) f ∙ sym (below_next marks k sound at id c there ∙ ap (λ b. marked_below marks k at id || b) (ap (λ b. (c.id == id) && b) m ∙ whole (c.id == id))))
    where
      whole : (b : Bool) → (b && true) ≡ b
      whole true = refl
      whole false = refl

  pub not_added : (old : Bool) → old ≡ marked_below marks k at id → is_marked marks at ≡ false → old ≡ marked_below marks k (at + 1) id
  not_added old f m =
      f ∙ sym (below_next marks k sound at id c there ∙ (ap (λ b. marked_below marks k at id || b) (ap (λ b. (c.id == id) && b) m ∙ never (c.id == id)) ∙ keep (marked_below marks k at id)))
