-- Sound classes have no dead ends: every value that fits is read by its format.
use Rattle.std.specs.Prelude.{◌≡◌, ◌+◌, ℕ, zero, suc, Bool, true, false, List, [], ◌∷◌, ◌++◌, map, replicate, Option, Some, None, if◌then◌else◌, find, ◌||◌, ◌==◌, not, is_some}
use Rattle.std.specs.Option.{option_map_or, option_and_then}
use Rattle.std.specs.List.{AllByRecursion, list_any, flat_map, enumerate_from}
use Rattle.std.proofs.Common.{ap, refl, sym, ◌∙◌, subst, inl, inr}
use Rattle.std.proofs.lemmas.List.{append-nil, append_assoc}
use Rattle.jfr_base.specs.Integer.{Spells}
use Rattle.jfr_base.specs.Formats.{Format, Done, Stop, Int, Byte, Run, Here, Refuse, ◌>>=◌, with_bytes, times, for_each, unchecked, Exactly}
use Rattle.jfr_base.specs.declared.reason.Reason.{Reason}
use Rattle.jfr_base.specs.declared.reason.Reason.TheVariants.{InlineDeep, UnknownType}
use Rattle.jfr_layout.specs.Classes.{ClassFlaw, flaw_if, Class, Classes, Field, find_class, kind_of, item_of, is_composite, inline_fields, step_class, begins_chain, class_faults, repeats, unknown, empty_inline, deep, Sound}
use Rattle.jfr_layout.specs.declared.kind.Kind.{Kind}
use Rattle.jfr_layout.specs.declared.kind.Kind.TheVariants as kinds
use Rattle.jfr_layout.specs.declared.shape.Shape.{Shape}
use Rattle.jfr_value.specs.declared.leaf.LeafKind.{LeafKind}
use Rattle.jfr_value.specs.declared.leaf.LeafKind.TheVariants as leaf_kinds
use Rattle.jfr_value.specs.Values.{Value, Values, Single, Group, Nil, Cons, values_of, list_of, shape_of, shapes_of, bytes_of, bytes_of_all, IsBase, IsSingle, IsHead, Fits, AllFit}
use Rattle.jfr_value.specs.Walks.{DepthBound}
use Rattle.jfr_value.specs.Reading.{base_format, item_format, array_format, shape_format, fields_format, kind_format, inline_format, class_format, value_format}
use Rattle.jfr_base.proofs.ExactLaws.{bind_exact}
use Rattle.jfr_value.proofs.FitLaws.{is_base}
use Rattle.jfr_value.proofs.TreeLaws.{Good}

-- Class lists: what is said of each holds of one that is found, and sound classes don't go deep.
found_holds : (P : Class → Type 0) (test : Class → Bool) (k : Classes) (c : Class) → find test k ≡ Some c → AllByRecursion P k → P c
found_holds P test [] c e a = cc
found_holds P test (d ∷ k) c e a = by_test (test d) e (λ q. found_holds P test k c q a.1)
  where
    by_test : (t : Bool) → (if t then Some d else find test k) ≡ Some c → (find test k ≡ Some c → P c) → P c
    by_test true e r = let h : d ≡ c = cc in subst P h a.0
    by_test false e r = r e

no_left : {X : Type 0} (xs ys : List X) → xs ++ ys ≡ [] → xs ≡ []
no_left [] ys e = refl
no_left (x ∷ xs) ys e = cc

no_right : {X : Type 0} (xs ys : List X) → xs ++ ys ≡ [] → ys ≡ []
no_right [] ys e = e
no_right (x ∷ xs) ys e = cc

-- If nothing is found at any member.
none_at : {X : Type 0} (found : ℕ → X → List ClassFlaw) (n : ℕ) (xs : List X) → flat_map (λ x. found x.0 x.1) (enumerate_from n xs) ≡ [] → AllByRecursion (λ x. (i : ℕ) × (found i x ≡ [])) xs
none_at found n [] e = tt
none_at found n (x ∷ xs) e = (
  (n, no_left (found n x) (flat_map (λ x. found x.0 x.1) (enumerate_from (n + 1) xs)) e),
  none_at found (n + 1) xs (no_right (found n x) (flat_map (λ x. found x.0 x.1) (enumerate_from (n + 1) xs)) e),
)

no_flaw : (bad : Bool) (i : ℕ) (j : Option ℕ) (why : Reason) → flaw_if bad i j why ≡ [] → bad ≡ false
no_flaw true i j why e = cc
no_flaw false i j why e = refl

no_deep : (k : Classes) → Sound k → deep k ≡ []
unfolding class_faults
no_deep k s = no_right (empty_inline k) (deep k) (no_right (unknown k) (empty_inline k ++ deep k) (no_right (repeats k) (unknown k ++ (empty_inline k ++ deep k)) s.none))

no_unknown : (k : Classes) → Sound k → unknown k ≡ []
unfolding class_faults
no_unknown k s = no_left (unknown k) (empty_inline k ++ deep k) (no_right (repeats k) (unknown k ++ (empty_inline k ++ deep k)) s.none)

pub sound_inline : (k : Classes) (id : ℕ) (c : Class) → Sound k → find_class k id ≡ Some c → begins_chain 33 k c ≡ false
sound_inline k id c s e =
    let r = found_holds (λ c. (i : ℕ) × (flaw_if (begins_chain 33 k c) i None InlineDeep ≡ [])) (λ c. c.id == id) k c e
    (none_at (λ i c. flaw_if (begins_chain 33 k c) i None InlineDeep) 0 k (no_deep k s)) in
    no_flaw (begins_chain 33 k c) r.0 None InlineDeep r.1

-- A field's class is known.
abbrev pub IsKnown : Classes → Shape → Type 0
IsKnown k s = (c : Class) × (find_class k s.class ≡ Some c)

known_fields : (k : Classes) (fs : List Field) → AllByRecursion (λ f. (j : ℕ) × ((i : ℕ) × (flaw_if (not (is_some (find_class k f.shape.class))) i (Some j) UnknownType ≡ []))) fs
    → AllByRecursion (λ f. IsKnown k f.shape) fs
known_fields k [] a = tt
known_fields k (f ∷ fs) a = (by_class (find_class k f.shape.class) refl (no_flaw (not (is_some (find_class k f.shape.class))) a.0.1.0 (Some a.0.0) UnknownType a.0.1.1), known_fields k fs a.1)
  where
    by_class : (o : Option Class) → find_class k f.shape.class ≡ o → not (is_some o) ≡ false → IsKnown k f.shape
    by_class None q n = cc
    by_class (Some d) q n = (d, q)

pub sound_known : (k : Classes) (id : ℕ) (c : Class) → Sound k → find_class k id ≡ Some c → AllByRecursion (λ f. IsKnown k f.shape) c.fields
sound_known k id c s e =
    let found = λ (i : ℕ) (c : Class). flat_map (λ f. flaw_if (not (is_some (find_class k f.1.shape.class))) i (Some f.0) UnknownType) (enumerate_from 0 c.fields) in
    let r = found_holds (λ c. (i : ℕ) × (found i c ≡ [])) (λ c. c.id == id) k c e (none_at found 0 k (no_unknown k s)) in
    known_fields k c.fields (each c.fields r.0 (none_at (λ j f. flaw_if (not (is_some (find_class k f.shape.class))) r.0 (Some j) UnknownType) 0 c.fields r.1))
  where
    each : (fs : List Field) (i : ℕ) → AllByRecursion (λ f. (j : ℕ) × (flaw_if (not (is_some (find_class k f.shape.class))) i (Some j) UnknownType ≡ [])) fs
        → AllByRecursion (λ f. (j : ℕ) × ((i : ℕ) × (flaw_if (not (is_some (find_class k f.shape.class))) i (Some j) UnknownType ≡ []))) fs
    each [] i a = tt
    each (f ∷ fs) i a = ((a.0.0, (i, a.0.1)), each fs i a.1)

pub any_none : {X : Type 0} (p : X → Bool) (xs : List X) → list_any p xs ≡ false → AllByRecursion (λ x. p x ≡ false) xs
any_none p [] e = tt
any_none p (x ∷ xs) e = by_test (p x) refl e (λ q. any_none p xs q)
  where
    by_test : (t : Bool) → p x ≡ t → (t || list_any p xs) ≡ false → (list_any p xs ≡ false → AllByRecursion (λ x. p x ≡ false) xs) → (p x ≡ false) × AllByRecursion (λ x. p x ≡ false) xs
    by_test true q e r = cc
    by_test false q e r = (q, r e)

-- An inline step to a composite class.
pub steps_to : (k : Classes) (f : Field) (d : Class) → f.shape.constant ≡ false → find_class k f.shape.class ≡ Some d → is_composite (kind_of d.name) ≡ true → step_class k f ≡ Some d
steps_to k f d o q e =
    ap (λ t. if t then None else option_and_then (λ d. if is_composite (kind_of d.name) then Some d else None) (find_class k f.shape.class)) o
    ∙ (ap (option_and_then (λ d. if is_composite (kind_of d.name) then Some d else None)) q ∙ ap (λ t. if t then Some d else None) e)

module _ (k : Classes) where
  abbrev AllDepthBounds : ℕ → Values → Type 0
  AllDepthBounds n vs = AllByRecursion (λ w. DepthBound k n (shape_of w)) (list_of vs)

  depth_of_fields : (n : ℕ) (fs : List Field) (vs : Values) → shapes_of vs ≡ map (λ f. f.shape) fs → AllByRecursion (λ f. option_map_or (λ d. begins_chain n k d) (step_class k f) false ≡ false) fs
      → AllDepthBounds n vs
  depth_of_fields n [] Nil e a = tt
  depth_of_fields n [] (Cons v vs) e a = cc
  depth_of_fields n (f ∷ fs) Nil e a = cc
  depth_of_fields n (f ∷ fs) (Cons v vs) e a =
      let q : f.shape ≡ shape_of v = (let x : shape_of v ∷ shapes_of vs ≡ f.shape ∷ map (λ g. g.shape) fs = e in cc) in
      let r : shapes_of vs ≡ map (λ g. g.shape) fs = (let x : shape_of v ∷ shapes_of vs ≡ f.shape ∷ map (λ g. g.shape) fs = e in cc) in
      (subst (DepthBound k n) q (λ o d g c. ap (λ z. option_map_or (λ d. begins_chain n k d) z false) (sym (steps_to k f d o g c)) ∙ a.0), depth_of_fields n fs vs r a.1)

  depth_of_items : (n m : ℕ) (s : Shape) (vs : Values) → shapes_of vs ≡ replicate m s → DepthBound k n s → AllDepthBounds n vs
  depth_of_items n zero s Nil e a = tt
  depth_of_items n zero s (Cons v vs) e a = cc
  depth_of_items n (suc m) s Nil e a = cc
  depth_of_items n (suc m) s (Cons v vs) e a =
      let q : s ≡ shape_of v = (let x : shape_of v ∷ shapes_of vs ≡ s ∷ replicate m s = e in cc) in
      let r : shapes_of vs ≡ replicate m s = (let x : shape_of v ∷ shapes_of vs ≡ s ∷ replicate m s = e in cc) in
      (subst (DepthBound k n) q a, depth_of_items n m s vs r a)

-- What holds of each value without parts, and of each group if it holds of its parts, holds of what fits: `n` is
-- how deep the classes may nest.
module _ (k : Classes) (P : ℕ → Value → Type 0) (of_single : (n : ℕ) (s : Shape) (kind : LeafKind) (b : List ℕ) (key : Option ℕ) → IsSingle k s kind b key → P n (Single s kind b key))
    (of_array : (n : ℕ) (s : Shape) (h : List ℕ) (vs : Values) → s.array ≡ true → (m : ℕ) → Spells h m → shapes_of vs ≡ replicate m (item_of s) → AllByRecursion (P n) (list_of vs) → P n
    (Group s h vs))
    (of_fields : (n : ℕ) (s : Shape) (h : List ℕ) (vs : Values) (c : Class) → s.array ≡ false → s.constant ≡ false → find_class k s.class ≡ Some c → kind_of
    c.name ≡ kinds.Composite → h ≡ [] → shapes_of vs ≡ map (λ f. f.shape) c.fields → AllByRecursion (P n) (list_of vs) → P (suc n) (Group s h vs)) where
  mutual
    pub by_depth : (v : Value) (n : ℕ) → DepthBound k n (shape_of v) → Fits k v → P n v
    by_depth (Single s kind b key) n r f = of_single n s kind b key f
    by_depth (Group s h vs) n r f = by_head s h f.0 r (λ m g. all_by_depth vs m g f.1)
      where
        by_room : (n : ℕ) (s : Shape) (h : List ℕ) (c : Class) → s.array ≡ false → s.constant ≡ false → find_class k s.class ≡ Some c → kind_of c.name ≡ kinds.Composite → h ≡ []
            → shapes_of vs ≡ map (λ f. f.shape) c.fields → begins_chain n k c ≡ false
            → ((m : ℕ) → AllDepthBounds k m vs → AllByRecursion (P m) (list_of vs)) → P n (Group s h vs)
        by_room zero s h c a o q e z p g x = cc
        by_room (suc m) s h c a o q e z p g x =
            let i : inline_fields c ≡ c.fields = ap (λ t. if is_composite t then c.fields else []) e in
            of_fields m s h vs c a o q e z p (x m (depth_of_fields k m c.fields vs p
            (subst (AllByRecursion (λ f. option_map_or (λ d. begins_chain m k d) (step_class k f) false ≡ false)) i
            (any_none (λ f. option_map_or (λ d. begins_chain m k d) (step_class k f) false) (inline_fields c) g))))

        by_head : (s : Shape) (h : List ℕ) → IsHead k s h (shapes_of vs) → DepthBound k n s → ((m : ℕ) → AllDepthBounds k m vs → AllByRecursion (P m) (list_of vs)) → P n (Group s h vs)
        by_head s h (inl p) r x = of_array n s h vs p.0 p.1 p.2 p.3 (x n (depth_of_items k n p.1 (item_of s) vs p.3 r))
        by_head s h (inr p) r x = by_room n s h p.2 p.0 p.1 p.3 p.4 p.5 p.6 (r p.1 p.2 p.3 (ap is_composite p.4)) x

    all_by_depth : (vs : Values) (n : ℕ) → AllDepthBounds k n vs → AllFit k vs → AllByRecursion (P n) (list_of vs)
    all_by_depth Nil n r f = tt
    all_by_depth (Cons v vs) n r f = (by_depth v n r.0 f.0, all_by_depth vs n r.1 f.1)

-- Values one after another that are each read by their shapes.
pub values_again : (vs : Values) → values_of (list_of vs) ≡ vs
values_again Nil = refl
values_again (Cons v vs) = ap (λ z. Cons v z) (values_again vs)

abbrev AllExact : (Shape → Format Value) → Values → Type 0
AllExact f vs = AllByRecursion (λ w. Exactly (f (shape_of w)) (bytes_of w) w) (list_of vs)

times_exact : (f : Shape → Format Value) (s : Shape) (n : ℕ) (vs : Values) → shapes_of vs ≡ replicate n s → AllExact f vs → Exactly (times n (f s)) (bytes_of_all vs) (list_of vs)
times_exact f s zero Nil e a = (refl, refl)
times_exact f s zero (Cons v vs) e a = cc
times_exact f s (suc n) Nil e a = cc
times_exact f s (suc n) (Cons v vs) e a =
    let q : shape_of v ≡ s = (let x : shape_of v ∷ shapes_of vs ≡ s ∷ replicate n s = e in cc) in
    let r : shapes_of vs ≡ replicate n s = (let x : shape_of v ∷ shapes_of vs ≡ s ∷ replicate n s = e in cc) in
    bind_exact (f s) (λ a. times n (f s) >>= λ rest. Done (a ∷ rest)) (bytes_of v) (bytes_of_all vs) (bytes_of v ++ bytes_of_all vs) v (v ∷ list_of vs) refl
    (subst (λ z. Exactly (f z) (bytes_of v) v) q a.0)
    (bind_exact (times n (f s)) (λ rest. Done (v ∷ rest)) (bytes_of_all vs) [] (bytes_of_all vs) (list_of vs) (v ∷ list_of vs) (sym (append-nil (bytes_of_all vs))) (times_exact f s n vs r a.1)
    (refl, refl))

each_exact : (f : Shape → Format Value) (fs : List Field) (vs : Values) → shapes_of vs ≡ map (λ g. g.shape) fs → AllExact f vs → Exactly (for_each fs (λ g. f g.shape)) (bytes_of_all vs) (list_of vs)
each_exact f [] Nil e a = (refl, refl)
each_exact f [] (Cons v vs) e a = cc
each_exact f (g ∷ fs) Nil e a = cc
each_exact f (g ∷ fs) (Cons v vs) e a =
    let q : shape_of v ≡ g.shape = (let x : shape_of v ∷ shapes_of vs ≡ g.shape ∷ map (λ g. g.shape) fs = e in cc) in
    let r : shapes_of vs ≡ map (λ g. g.shape) fs = (let x : shape_of v ∷ shapes_of vs ≡ g.shape ∷ map (λ g. g.shape) fs = e in cc) in
    bind_exact (f g.shape) (λ a. for_each fs (λ g. f g.shape) >>= λ rest. Done (a ∷ rest)) (bytes_of v) (bytes_of_all vs) (bytes_of v ++ bytes_of_all vs) v (v ∷ list_of vs) refl
    (subst (λ z. Exactly (f z) (bytes_of v) v) q a.0)
    (bind_exact (for_each fs (λ g. f g.shape)) (λ rest. Done (v ∷ rest)) (bytes_of_all vs) [] (bytes_of_all vs) (list_of vs) (v ∷ list_of vs) (sym (append-nil (bytes_of_all vs)))
    (each_exact f fs vs r a.1) (refl, refl))

-- A value with its bytes.
with_exact : {A B : Type 0} (f : Format A) (g : A → List ℕ → B) (c b : List ℕ) (a : A) → Exactly f b a → Exactly (with_bytes c f (λ a s. Done (g a s))) b (g a (c ++ b))
with_exact (Done v) g c b a e = (ap (λ z. g z (c ++ b)) e.0 ∙ ap (λ z. g v z) (ap (λ z. c ++ z) e.1 ∙ append-nil c), e.1)
with_exact (Stop next) g c b a e = absurd e
with_exact (Int check next) g c b a e = (
  e.0,
  e.1,
  e.2,
  e.3,
  e.4,
  e.5,
  subst (λ z. Exactly (with_bytes (c ++ e.0) (next e.2 e.0) (λ a s. Done (g a s))) e.1 (g a z)) (append_assoc c e.0 e.1 ∙ ap (λ z. c ++ z) (sym e.3))
      (with_exact (next e.2 e.0) g (c ++ e.0) e.1 a e.6),
)
with_exact (Byte check next) g c b a e = (
  e.0,
  e.1,
  e.2,
  e.3,
  subst (λ z. Exactly (with_bytes (c ++ (e.0 ∷ [])) (next e.0) (λ a s. Done (g a s))) e.1 (g a z)) (append_assoc c (e.0 ∷ []) e.1 ∙ ap (λ z. c ++ z) (sym e.2))
      (with_exact (next e.0) g (c ++ (e.0 ∷ [])) e.1 a e.4),
)
with_exact (Run n next) g c b a e = (
  e.0,
  e.1,
  e.2,
  e.3,
  subst (λ z. Exactly (with_bytes (c ++ e.0) (next e.0) (λ a s. Done (g a s))) e.1 (g a z)) (append_assoc c e.0 e.1 ∙ ap (λ z. c ++ z) (sym e.2))
      (with_exact (next e.0) g (c ++ e.0) e.1 a e.4),
)
with_exact (Here next) g c b a e = absurd e
with_exact (Refuse why) g c b a e = absurd e

kind_exact : (kd : Kind) (s : Shape) (x : Format (List Value)) (b : List ℕ) (key : Option ℕ) → IsBase kd b key → Exactly (kind_format kd s x) b (Single s (leaf_kinds.Base kd) b key)
kind_exact kinds.Composite s x b key i = absurd i
kind_exact kd s x b key i = with_exact (base_format kd) (λ key bytes. Single s (leaf_kinds.Base kd) bytes key) [] b key (is_base kd b key i)

by_marks : (f : Shape → Format Value) (s : Shape) (a c : Bool) (b : List ℕ) (v : Value) → s.array ≡ a → s.constant ≡ c
    → Exactly (if a then array_format (item_format f (item_of s)) s else if c then Int unchecked (λ key spelled. Done (Single s (leaf_kinds.Key key) spelled (Some key))) else f s) b v
    → Exactly (shape_format f s) b v
by_marks f s a c b v p q e =
    subst (λ t. Exactly (if t then array_format (item_format f (item_of s)) s else item_format f s) b v) (sym p)
    (subst (λ t. Exactly (if a then array_format (item_format f (item_of s)) s else if t then Int unchecked (λ key spelled. Done (Single s (leaf_kinds.Key key) spelled (Some key))) else f s) b v)
    (sym q) e)

module _ (k : Classes) where
  base_exact : (n : ℕ) (s : Shape) (c : Class) (b : List ℕ) (key : Option ℕ) → find_class k s.class ≡ Some c → IsBase (kind_of c.name) b key
      → Exactly (class_format (suc n) k s) b (Single s (leaf_kinds.Base (kind_of c.name)) b key)
  unfolding class_format
  base_exact n s c b key q i =
      subst (λ o. Exactly (inline_format (class_format n k) s o) b (Single s (leaf_kinds.Base (kind_of c.name)) b key)) (sym q)
      (kind_exact (kind_of c.name) s (fields_format (class_format n k) c.fields) b key i)

  single_exact : (n : ℕ) (s : Shape) (kind : LeafKind) (b : List ℕ) (key : Option ℕ) → IsSingle k s kind b key → Exactly (shape_format (class_format (suc n) k) s) b (Single s kind b key)
  single_exact n s kind b key (inl f) =
      let e : Single s (leaf_kinds.Key f.2) b (Some f.2) ≡ Single s kind b key = cc (f.4, f.5) in
      by_marks (class_format (suc n) k) s false true b (Single s kind b key) f.0 f.1 (b, [], f.2, sym (append-nil b), f.3, refl, (sym e, refl))
  single_exact n s kind b key (inr f) =
      subst (λ z. Exactly (shape_format (class_format (suc n) k) s) b (Single s z b key)) (sym f.4)
      (by_marks (class_format (suc n) k) s false false b (Single s (leaf_kinds.Base (kind_of f.2.name)) b key) f.0 f.1 (base_exact n s f.2 b key f.3 f.5))

  array_exact : (n : ℕ) (s : Shape) (h : List ℕ) (vs : Values) → s.array ≡ true → (m : ℕ) → Spells h m → shapes_of vs ≡ replicate m (item_of s) → AllExact (shape_format (class_format (suc n) k)) vs
      → Exactly (shape_format (class_format (suc n) k) s) (h ++ bytes_of_all vs) (Group s h vs)
  array_exact n s h vs a m p e x =
      by_marks (class_format (suc n) k) s true s.constant (h ++ bytes_of_all vs) (Group s h vs) a refl (
        h,
        bytes_of_all vs,
        m,
        refl,
        p,
        refl,
        bind_exact (times m (item_format (class_format (suc n) k) (item_of s))) (λ vs. Done (Group s h (values_of vs))) (bytes_of_all vs) [] (bytes_of_all vs) (list_of vs) (Group s h vs)
            (sym (append-nil (bytes_of_all vs)))
            (times_exact (shape_format (class_format (suc n) k)) (item_of s) m vs e x) (ap (λ z. Group s h z) (sym (values_again vs)), refl),
      )

  fields_exact : (n : ℕ) (s : Shape) (h : List ℕ) (vs : Values) (c : Class) → s.array ≡ false → s.constant ≡ false → find_class k s.class ≡ Some c → kind_of c.name ≡ kinds.Composite → h ≡ []
      → shapes_of vs ≡ map (λ f. f.shape) c.fields → AllExact (shape_format (class_format n k)) vs → Exactly (shape_format (class_format (suc n) k) s) (h ++ bytes_of_all vs) (Group s h vs)
  unfolding class_format
  fields_exact n s h vs c a o q e z r x =
      by_marks (class_format (suc n) k) s false false (h ++ bytes_of_all vs) (Group s h vs) a o
      (subst (λ y. Exactly (class_format (suc n) k s) (y ++ bytes_of_all vs) (Group s y vs)) (sym z)
      (subst (λ y. Exactly (inline_format (class_format n k) s y) (bytes_of_all vs) (Group s [] vs)) (sym q)
      (subst (λ y. Exactly (kind_format y s (fields_format (class_format n k) c.fields)) (bytes_of_all vs) (Group s [] vs)) (sym e)
      (bind_exact (fields_format (class_format n k) c.fields) (λ vs. Done (Group s [] (values_of vs))) (bytes_of_all vs) [] (bytes_of_all vs) (list_of vs) (Group s [] vs)
      (sym (append-nil (bytes_of_all vs)))
      (each_exact (shape_format (class_format n k)) c.fields vs r x) (ap (λ y. Group s [] y) (sym (values_again vs)), refl)))))

-- What fits is read, and nothing else is.
pub fits_good : (k : Classes) (v : Value) → Sound k → Fits k v → Good k v
unfolding value_format
fits_good k v s f =
    by_depth k (λ n v. Exactly (shape_format (class_format (suc n) k) (shape_of v)) (bytes_of v) v) (single_exact k) (array_exact k) (λ n. fields_exact k (suc n)) v 33
    (λ o c q e. sound_inline k (shape_of v).class c s q) f
