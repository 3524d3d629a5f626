-- What is taken is a value, and the words are those of its leaves.
use Rattle.std.specs.Prelude.{◌≡◌, ℕ, zero, suc, ◌+◌, Bool, true, false, List, [], ◌∷◌, ◌++◌, length, map, replicate, Option, Some, None, option_map, if◌then◌else◌}
use Rattle.std.proofs.Common.{ap, refl, sym, ◌∙◌, subst, inl, inr}
use Rattle.std.proofs.lemmas.List.{append_assoc}
use Rattle.jfr_base.specs.Integer.{spell, worth_within}
use Rattle.jfr_base.proofs.Spelling.{spell_spells}
use Rattle.jfr_layout.specs.Classes.{Class, Classes, Field, find_class, kind_of, item_of}
use Rattle.jfr_layout.specs.declared.kind.Kind.{Kind}
use Rattle.jfr_layout.specs.declared.kind.Kind.TheVariants as kinds
use Rattle.jfr_layout.specs.declared.shape.Shape.{Shape}
use Rattle.jfr_value.specs.declared.leaf.Holder.{Holder}
use Rattle.jfr_value.specs.declared.leaf.LeafKind.TheVariants as leaf_kinds
use Rattle.jfr_value.specs.Values.{Value, Values, Single, Group, values_of, shape_of, shapes_of, bytes_of, Fits, AllFit, IsBase, IsSingle, IsHead}
use Rattle.jfr_value.specs.Leaves.{LeafAt, leaves_at, leaves_from, leaf_key, part_holder}
use Rattle.jfr_build.specs.LeafWords.{id_after, base_of, AreWordsOf}
use Rattle.jfr_build.specs.Taking.{Taken, Taker, took, then_take, word_taken, times_taken, each_taken, reference_taken, item_taken, array_taken, shape_taken, base_taken, kind_taken, inline_taken, class_taken, value_taken}
use Rattle.jfr_build.proofs.BaseLaws.{base_is_spelled}

-- If both parts are taken, so is the first.
pub then_some : {A B : Type 0} (o : Option (Taken A)) (f : A → Taker B) (t : Taken B) → then_take o f ≡ Some t → (a : Taken A) × (o ≡ Some a) × (f a.value a.rest ≡ Some t)
then_some None f t e = cc
then_some (Some a) f t e = (a, refl, e)

pub word_some : {A : Type 0} (f : List ℕ → Option A) (ws : List (List ℕ)) (t : Taken A) → word_taken f ws ≡ Some t → (w : List ℕ) × (ws ≡ w ∷ t.rest) × (f w ≡ Some t.value)
word_some f [] t e = cc
word_some {A = A} f (w ∷ ws) t e = by_value (f w) refl e
  where
    by_value : (o : Option A) → f w ≡ o → option_map (λ a. record { value = a; rest = ws }) o ≡ Some t → (v : List ℕ) × (w ∷ ws ≡ v ∷ t.rest) × (f v ≡ Some t.value)
    by_value None q e = cc
    by_value (Some a) q e =
        let h : record { value = a; rest = ws } ≡ t = cc in
        (w, ap (λ (z : Taken A). w ∷ z.rest) h, q ∙ ap (λ (z : Taken A). Some z.value) h)

pub took_same : {A : Type 0} (a : A) (ws : List (List ℕ)) (t : Taken A) → took a ws ≡ Some t → (t.value ≡ a) × (t.rest ≡ ws)
took_same {A = A} a ws t e =
    let h : record { value = a; rest = ws } ≡ t = (let z : Some (record { value = a; rest = ws }) ≡ Some t = e in cc) in
    (ap (λ (z : Taken A). z.value) (sym h), ap (λ (z : Taken A). z.rest) (sym h))

pub words_append : (xs ys : List (List ℕ)) (ls ms : List LeafAt) → AreWordsOf xs ls → AreWordsOf ys ms → AreWordsOf (xs ++ ys) (ls ++ ms)
words_append [] ys [] ms a b = b
words_append [] ys (l ∷ ls) ms a b = absurd a
words_append (x ∷ xs) ys [] ms a b = absurd a
words_append (x ∷ xs) ys (l ∷ ls) ms a b = (a.0, words_append xs ys ls ms a.1 b)

-- A value of the shape was taken from the front.
pub record TookValue (k : Classes) (s : Shape) (ws rest : List (List ℕ)) (v : Value) : Type 0 where
  pub fits : Fits k v
  pub shape : shape_of v ≡ s
  pub front : List (List ℕ)
  pub split : ws ≡ front ++ rest
  pub words : (g : Option Holder) (at : ℕ) → AreWordsOf front (leaves_at g at v)

-- Values of the shapes were taken from the front, one after another.
record TookValues (k : Classes) (ss : List Shape) (ws rest : List (List ℕ)) (vs : Values) : Type 0 where
  fit : AllFit k vs
  shapes : shapes_of vs ≡ ss
  pub front : List (List ℕ)
  pub split : ws ≡ front ++ rest
  pub words : (m : ℕ → Option Holder) (at : ℕ) → AreWordsOf front (leaves_from m at vs)

abbrev IsSound : Classes → (Shape → Taker Value) → Type 0
IsSound k f = (s : Shape) (ws : List (List ℕ)) (t : Taken Value) → f s ws ≡ Some t → TookValue k s ws t.rest t.value

module _ (k : Classes) where
  took_none : (ws : List (List ℕ)) (t : Taken (List Value)) → took [] ws ≡ Some t → TookValues k [] ws t.rest (values_of t.value)
  took_none ws t e =
      let h = took_same [] ws t e in
      subst (λ z. TookValues k [] ws z (values_of t.value)) (sym h.1)
      (subst (λ z. TookValues k [] ws ws (values_of z)) (sym h.0) (record { fit = tt; shapes = refl; front = []; split = refl; words = λ m at. tt }))

  took_cons : (s : Shape) (ss : List Shape) (ws : List (List ℕ)) (f : Taker Value) (g : Taker (List Value)) → ((us : List (List ℕ)) (t : Taken Value) → f us ≡ Some t → TookValue k s us t.rest t.value)
      → ((us : List (List ℕ)) (t : Taken (List Value)) → g us ≡ Some t → TookValues k ss us t.rest (values_of t.value))
      → (t : Taken (List Value)) → then_take (f ws) (λ a us. then_take (g us) λ bs vs. took (a ∷ bs) vs) ≡ Some t → TookValues k (s ∷ ss) ws t.rest (values_of t.value)
  took_cons s ss ws f g x y t e =
      let a = then_some (f ws) (λ a us. then_take (g us) λ bs vs. took (a ∷ bs) vs) t e in
      let b = then_some (g a.0.rest) (λ bs vs. took (a.0.value ∷ bs) vs) t a.2 in
      let h = took_same (a.0.value ∷ b.0.value) b.0.rest t b.2 in
      let i = x ws a.0 a.1 in
      let j = y a.0.rest b.0 b.1 in
      subst (λ z. TookValues k (s ∷ ss) ws z (values_of t.value)) (sym h.1) (subst (λ z. TookValues k (s ∷ ss) ws b.0.rest (values_of z)) (sym h.0) (record {
        fit = (i.fits, j.fit);
        shapes = ap (λ z. z ∷ shapes_of (values_of b.0.value)) i.shape ∙ ap (λ z. s ∷ z) j.shapes;
        front = i.front ++ j.front;
        split = i.split ∙ (ap (λ z. i.front ++ z) j.split ∙ sym (append_assoc i.front j.front b.0.rest));
        words = λ m at.
            words_append i.front j.front (leaves_at (m zero) at a.0.value) (leaves_from (λ n. m (suc n)) (at + length (bytes_of a.0.value)) (values_of b.0.value)) (i.words (m zero) at)
            (j.words (λ n. m (suc n)) (at + length (bytes_of a.0.value)));
      }))

  times_sound : (f : Taker Value) (s : Shape) → ((us : List (List ℕ)) (t : Taken Value) → f us ≡ Some t → TookValue k s us t.rest t.value) → (n : ℕ) (ws : List (List ℕ)) (t : Taken (List Value))
      → times_taken n f ws ≡ Some t → TookValues k (replicate n s) ws t.rest (values_of t.value)
  times_sound f s x zero ws t e = took_none ws t e
  times_sound f s x (suc n) ws t e = took_cons s (replicate n s) ws f (times_taken n f) x (λ us t q. times_sound f s x n us t q) t e

  each_sound : (f : Shape → Taker Value) → IsSound k f → (fs : List Field) (ws : List (List ℕ)) (t : Taken (List Value)) → each_taken fs (λ g. f g.shape) ws ≡ Some t
      → TookValues k (map (λ g. g.shape) fs) ws t.rest (values_of t.value)
  each_sound f x [] ws t e = took_none ws t e
  each_sound f x (g ∷ fs) ws t e = took_cons g.shape (map (λ g. g.shape) fs) ws (f g.shape) (each_taken fs (λ g. f g.shape)) (x g.shape) (λ us t q. each_sound f x fs us t q) t e

  -- A value of one word.
  single_took : (s : Shape) (w : List ℕ) (ws rest : List (List ℕ)) (v : Value) (t : Taken Value) → took v rest ≡ Some t → ws ≡ w ∷ rest → Fits k v → shape_of v ≡ s
      → ((g : Option Holder) (at : ℕ) → AreWordsOf (w ∷ []) (leaves_at g at v)) → TookValue k s ws t.rest t.value
  single_took s w ws rest v t e q f p a =
      let h = took_same v rest t e in
      subst (λ z. TookValue k s ws z t.value) (sym h.1) (subst (λ z. TookValue k s ws rest z) (sym h.0) (record { fits = f; shape = p; front = w ∷ []; split = q; words = a }))

  reference_sound : (s : Shape) (ws : List (List ℕ)) (t : Taken Value) → s.array ≡ false → s.constant ≡ true → reference_taken s ws ≡ Some t → TookValue k s ws t.rest t.value
  reference_sound s ws t a c e =
      let i = then_some (word_taken (id_after 35) ws) (λ key us. took (Single s (leaf_kinds.Key key) (spell key) (Some key)) us) t e in
      let j = word_some (id_after 35) ws i.0 i.1 in
      single_took s j.0 ws i.0.rest (Single s (leaf_kinds.Key i.0.value) (spell i.0.value) (Some i.0.value)) t i.2 j.1 (inl (a, c, i.0.value, spell_spells i.0.value, refl, refl)) refl
      (λ g at. ((j.2, refl), tt))

  base_sound : (kd : Kind) (s : Shape) (d : Class) (ws : List (List ℕ)) (t : Taken Value) → s.array ≡ false → s.constant ≡ false → find_class k s.class ≡ Some d → kind_of d.name ≡ kd
      → base_taken kd s ws ≡ Some t → TookValue k s ws t.rest t.value
  base_sound kd s d ws t a c q n e =
      let i = then_some (word_taken (base_of kd) ws) (λ b us. took (Single s (leaf_kinds.Base kd) b (leaf_key (leaf_kinds.Base kd) b)) us) t e in
      let j = word_some (base_of kd) ws i.0 i.1 in
      let b : List ℕ = i.0.value in
      let f : IsSingle k s (leaf_kinds.Base kd) b (leaf_key (leaf_kinds.Base kd) b) =
      inr (a, c, d, q, ap (λ z. leaf_kinds.Base z) (sym n), subst (λ z. IsBase z b (leaf_key (leaf_kinds.Base kd) b)) (sym n) (base_is_spelled kd j.0 b j.2)) in
      single_took s j.0 ws i.0.rest (Single s (leaf_kinds.Base kd) b (leaf_key (leaf_kinds.Base kd) b)) t i.2 j.1 f refl (λ g at. (j.2, tt))

  -- The leaf before the parts: an array's count.
  abbrev pub head_leaves : Bool → Shape → List ℕ → Option Holder → ℕ → List LeafAt
  head_leaves b s h g at = if b then record { kind = leaf_kinds.Count (worth_within 8 h); class = s.class; holder = g; at = at; spelled = h } ∷ [] else []

  count_words : (b : Bool) (s : Shape) (n : ℕ) (w : List ℕ) (g : Option Holder) (at : ℕ) → b ≡ true → id_after 91 w ≡ Some n → AreWordsOf (w ∷ []) (head_leaves b s (spell n) g at)
  count_words true s n w g at e q = let m : n ≡ worth_within 8 (spell n) = (spell_spells n).worth in ((q ∙ ap (λ z. Some z) m, ap spell m), tt)
  count_words false s n w g at e q = cc

  no_words : (b : Bool) (s : Shape) (h : List ℕ) (g : Option Holder) (at : ℕ) → b ≡ false → AreWordsOf [] (head_leaves b s h g at)
  no_words true s h g at e = cc
  no_words false s h g at e = tt

  -- The parts after a head.
  group_took : (s : Shape) (h : List ℕ) (head ws us rest : List (List ℕ)) (vs : List Value) (ss : List Shape) (t : Taken Value) → took (Group s h (values_of vs)) rest ≡ Some t → ws ≡ head ++ us
      → TookValues k ss us rest (values_of vs) → IsHead k s h ss
      → ((g : Option Holder) (at : ℕ) → AreWordsOf head (if s.array then record { kind = leaf_kinds.Count (worth_within 8 h); class = s.class; holder = g; at = at; spelled = h } ∷ [] else []))
      → TookValue k s ws t.rest t.value
  group_took s h head ws us rest vs ss t e q x i a =
      let z = took_same (Group s h (values_of vs)) rest t e in
      subst (λ y. TookValue k s ws y t.value) (sym z.1) (subst (λ y. TookValue k s ws rest y) (sym z.0) (record {
        fits = (subst (IsHead k s h) (sym x.shapes) i, x.fit);
        shape = refl;
        front = head ++ x.front;
        split = q ∙ (ap (λ y. head ++ y) x.split ∙ sym (append_assoc head x.front rest));
        words = λ g at.
            words_append head x.front (if s.array then record { kind = leaf_kinds.Count (worth_within 8 h); class = s.class; holder = g; at = at; spelled = h } ∷ [] else [])
            (leaves_from (part_holder s g) (at + length h) (values_of vs)) (a g at) (x.words (part_holder s g) (at + length h));
      }))

  array_sound : (s : Shape) (item : Taker Value) → s.array ≡ true → ((us : List (List ℕ)) (t : Taken Value) → item us ≡ Some t → TookValue k (item_of s) us t.rest t.value)
      → (ws : List (List ℕ)) (t : Taken Value) → array_taken item s ws ≡ Some t → TookValue k s ws t.rest t.value
  array_sound s item a x ws t e =
      let i = then_some (word_taken (id_after 91) ws) (λ n us. then_take (times_taken n item us) λ vs rest. took (Group s (spell n) (values_of vs)) rest) t e in
      let j = word_some (id_after 91) ws i.0 i.1 in
      let n : ℕ = i.0.value in
      let m = then_some (times_taken n item i.0.rest) (λ vs rest. took (Group s (spell n) (values_of vs)) rest) t i.2 in
      let y = times_sound item (item_of s) x n i.0.rest m.0 m.1 in
      group_took s (spell n) (j.0 ∷ []) ws i.0.rest m.0.rest m.0.value (replicate n (item_of s)) t m.2 j.1 y (inl (a, n, spell_spells n, refl)) (λ g at. count_words s.array s n j.0 g at a j.2)

  kind_sound : (f : Shape → Taker Value) → IsSound k f → (kd : Kind) (s : Shape) (d : Class) → s.array ≡ false → s.constant ≡ false → find_class k s.class ≡ Some d → kind_of d.name ≡ kd
      → (ws : List (List ℕ)) (t : Taken Value) → kind_taken kd s (each_taken d.fields (λ g. f g.shape)) ws ≡ Some t → TookValue k s ws t.rest t.value
  kind_sound f x kinds.Composite s d a c q n ws t e =
      let i = then_some (each_taken d.fields (λ g. f g.shape) ws) (λ vs us. took (Group s [] (values_of vs)) us) t e in
      let y = each_sound f x d.fields ws i.0 i.1 in
      group_took s [] [] ws ws i.0.rest i.0.value (map (λ g. g.shape) d.fields) t i.2 refl y (inr (a, c, d, q, n, refl, refl)) (λ g at. no_words s.array s [] g at a)
  kind_sound f x kinds.Boolean s d a c q n ws t e = base_sound kinds.Boolean s d ws t a c q n e
  kind_sound f x kinds.Byte s d a c q n ws t e = base_sound kinds.Byte s d ws t a c q n e
  kind_sound f x kinds.Char s d a c q n ws t e = base_sound kinds.Char s d ws t a c q n e
  kind_sound f x kinds.Short s d a c q n ws t e = base_sound kinds.Short s d ws t a c q n e
  kind_sound f x kinds.Int s d a c q n ws t e = base_sound kinds.Int s d ws t a c q n e
  kind_sound f x kinds.Long s d a c q n ws t e = base_sound kinds.Long s d ws t a c q n e
  kind_sound f x kinds.Float s d a c q n ws t e = base_sound kinds.Float s d ws t a c q n e
  kind_sound f x kinds.Double s d a c q n ws t e = base_sound kinds.Double s d ws t a c q n e
  kind_sound f x kinds.Text s d a c q n ws t e = base_sound kinds.Text s d ws t a c q n e

  -- Inline values are taken as they should be.
  abbrev IsInline : (Shape → Taker Value) → Type 0
  IsInline f = (s : Shape) (ws : List (List ℕ)) (t : Taken Value) → s.array ≡ false → s.constant ≡ false → f s ws ≡ Some t → TookValue k s ws t.rest t.value

  item_sound : (f : Shape → Taker Value) → IsInline f → (s : Shape) (ws : List (List ℕ)) (t : Taken Value) → s.array ≡ false → item_taken f s ws ≡ Some t → TookValue k s ws t.rest t.value
  item_sound f x s ws t a e = by_mark s.constant refl e
    where
      by_mark : (b : Bool) → s.constant ≡ b → (if b then reference_taken s ws else f s ws) ≡ Some t → TookValue k s ws t.rest t.value
      by_mark true c q = reference_sound s ws t a c q
      by_mark false c q = x s ws t a c q

  pub shape_sound : (f : Shape → Taker Value) → IsInline f → IsSound k (shape_taken f)
  shape_sound f x s ws t e = by_mark s.array refl e
    where
      by_mark : (b : Bool) → s.array ≡ b → (if b then array_taken (item_taken f (item_of s)) s ws else item_taken f s ws) ≡ Some t → TookValue k s ws t.rest t.value
      by_mark true a q = array_sound s (item_taken f (item_of s)) a (λ us t q. item_sound f x (item_of s) us t refl q) ws t q
      by_mark false a q = item_sound f x s ws t a q

  pub class_sound : (n : ℕ) → IsInline (class_taken n k)
  unfolding class_taken
  class_sound zero s ws t a c e = cc
  class_sound (suc n) s ws t a c e = by_class (find_class k s.class) refl e (shape_sound (class_taken n k) (class_sound n))
    where
      by_class : (o : Option Class) → find_class k s.class ≡ o → inline_taken (class_taken n k) s o ws ≡ Some t → IsSound k (shape_taken (class_taken n k)) → TookValue k s ws t.rest t.value
      by_class None q e x = cc
      by_class (Some d) q e x = kind_sound (shape_taken (class_taken n k)) x (kind_of d.name) s d a c q refl ws t e

  pub value_sound : (s : Shape) (ws : List (List ℕ)) (t : Taken Value) → value_taken k s ws ≡ Some t → TookValue k s ws t.rest t.value
  unfolding value_taken
  value_sound s ws t e = shape_sound (class_taken 34 k) (class_sound 34) s ws t e
