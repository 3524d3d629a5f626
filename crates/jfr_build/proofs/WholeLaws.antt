-- The words of a value's leaves are taken as this value.
use Rattle.std.specs.Prelude.{◌≡◌, ℕ, zero, suc, ◌+◌, Bool, true, false, List, [], ◌∷◌, ◌++◌, length, map, replicate, Option, Some, None, option_map, if◌then◌else◌}
use Rattle.std.specs.List.{AllByRecursion}
use Rattle.std.proofs.Common.{ap, refl, sym, ◌∙◌, subst, inl, inr}
use Rattle.std.proofs.lemmas.List.{append_assoc}
use Rattle.jfr_base.specs.Integer.{spell, worth_within, Spells}
use Rattle.jfr_layout.specs.Classes.{Class, Classes, Field, Sound, find_class, kind_of, item_of}
use Rattle.jfr_layout.specs.declared.kind.Kind.{Kind}
use Rattle.jfr_layout.specs.declared.kind.Kind.TheVariants as kinds
use Rattle.jfr_layout.specs.declared.shape.Shape.{Shape}
use Rattle.jfr_value.specs.declared.leaf.Holder.{Holder}
use Rattle.jfr_value.specs.declared.leaf.LeafKind.{LeafKind}
use Rattle.jfr_value.specs.declared.leaf.LeafKind.TheVariants as leaf_kinds
use Rattle.jfr_value.specs.Values.{Value, Values, Single, Group, Nil, Cons, values_of, list_of, shape_of, shapes_of, bytes_of, Fits, IsBase, IsSingle}
use Rattle.jfr_value.specs.Leaves.{LeafAt, leaves_at, leaves_from, leaf_key}
use Rattle.jfr_value.proofs.DepthLaws.{by_depth, sound_inline, values_again}
use Rattle.jfr_value.proofs.LeafLaws.{base_key}
use Rattle.jfr_build.specs.LeafWords.{id_after, base_of, IsWordOf, AreWordsOf}
use Rattle.jfr_build.specs.Taking.{Taken, Taker, took, then_take, times_taken, each_taken, reference_taken, item_taken, array_taken, shape_taken, base_taken, kind_taken, inline_taken, class_taken, value_taken}

-- The words of leaves, one part after another.
record Parted (front : List (List ℕ)) (ls ms : List LeafAt) : Type 0 where
  first : List (List ℕ)
  second : List (List ℕ)
  split : front ≡ first ++ second
  first_words : AreWordsOf first ls
  second_words : AreWordsOf second ms

parted : (front : List (List ℕ)) (ls ms : List LeafAt) → AreWordsOf front (ls ++ ms) → Parted front ls ms
parted front [] ms a = record { first = []; second = front; split = refl; first_words = tt; second_words = a }
parted [] (l ∷ ls) ms a = absurd a
parted (w ∷ ws) (l ∷ ls) ms a = let i = parted ws ls ms
    a.1 in record { first = w ∷ i.first; second = i.second; split = ap (λ z. w ∷ z) i.split; first_words = (a.0, i.first_words); second_words = i.second_words }

-- A value is taken from the words of its leaves.
abbrev IsTaken : Taker Value → Value → Type 0
IsTaken f v = (h : Option Holder) (at : ℕ) (front rest : List (List ℕ)) → AreWordsOf front (leaves_at h at v) → f (front ++ rest) ≡ took v rest

abbrev AllTaken : (Shape → Taker Value) → Values → Type 0
AllTaken f vs = AllByRecursion (λ w. IsTaken (f (shape_of w)) w) (list_of vs)

cons_taken : (f : Taker Value) (g : Taker (List Value)) (v : Value) (vs : Values) (m : ℕ → Option Holder) (at : ℕ) (front rest : List (List ℕ)) → IsTaken f v
    → ((m : ℕ → Option Holder) (at : ℕ) (front rest : List (List ℕ)) → AreWordsOf front (leaves_from m at vs) → g (front ++ rest) ≡ took (list_of vs) rest)
    → AreWordsOf front (leaves_from m at (Cons v vs)) → then_take (f (front ++ rest)) (λ a us. then_take (g us) λ bs vs. took (a ∷ bs) vs) ≡ took (v ∷ list_of vs) rest
cons_taken f g v vs m at front rest x y a =
    let i = parted front (leaves_at (m zero) at v) (leaves_from (λ n. m (suc n)) (at + length (bytes_of v)) vs) a in
    let s : front ++ rest ≡ i.first ++ (i.second ++ rest) = ap (λ z. z ++ rest) i.split ∙ append_assoc i.first i.second rest in
    ap (λ z. then_take (f z) (λ a us. then_take (g us) λ bs vs. took (a ∷ bs) vs)) s
    ∙ (ap (λ z. then_take z (λ a us. then_take (g us) λ bs vs. took (a ∷ bs) vs)) (x (m zero) at i.first (i.second ++ rest) i.first_words)
    ∙ ap (λ z. then_take z (λ bs vs. took (v ∷ bs) vs)) (y (λ n. m (suc n)) (at + length (bytes_of v)) i.second rest i.second_words))

none_taken : (m : ℕ → Option Holder) (at : ℕ) (front rest : List (List ℕ)) → AreWordsOf front (leaves_from m at Nil) → took {A = List Value} [] (front ++ rest) ≡ took [] rest
none_taken m at [] rest a = refl
none_taken m at (w ∷ ws) rest a = absurd a

times_all : (f : Shape → Taker Value) (s : Shape) (n : ℕ) (vs : Values) → shapes_of vs ≡ replicate n s → AllTaken f vs → (m : ℕ → Option Holder) (at : ℕ) (front rest : List (List ℕ))
    → AreWordsOf front (leaves_from m at vs) → times_taken n (f s) (front ++ rest) ≡ took (list_of vs) rest
times_all f s zero Nil e x m at front rest a = none_taken m at front rest a
times_all f s zero (Cons v vs) e x m at front rest a = cc
times_all f s (suc n) Nil e x m at front rest a = cc
times_all f s (suc n) (Cons v vs) e x m at front rest a =
    let q : shape_of v ≡ s = (let x : shape_of v ∷ shapes_of vs ≡ s ∷ replicate n s = e in cc) in
    let r : shapes_of vs ≡ replicate n s = (let x : shape_of v ∷ shapes_of vs ≡ s ∷ replicate n s = e in cc) in
    cons_taken (f s) (times_taken n (f s)) v vs m at front rest (subst (λ z. IsTaken (f z) v) q x.0) (λ m at front rest a. times_all f s n vs r x.1 m at front rest a) a

each_all : (f : Shape → Taker Value) (fs : List Field) (vs : Values) → shapes_of vs ≡ map (λ g. g.shape) fs → AllTaken f vs → (m : ℕ → Option Holder) (at : ℕ) (front rest : List (List ℕ))
    → AreWordsOf front (leaves_from m at vs) → each_taken fs (λ g. f g.shape) (front ++ rest) ≡ took (list_of vs) rest
each_all f [] Nil e x m at front rest a = none_taken m at front rest a
each_all f [] (Cons v vs) e x m at front rest a = cc
each_all f (g ∷ fs) Nil e x m at front rest a = cc
each_all f (g ∷ fs) (Cons v vs) e x m at front rest a =
    let q : shape_of v ≡ g.shape = (let x : shape_of v ∷ shapes_of vs ≡ g.shape ∷ map (λ g. g.shape) fs = e in cc) in
    let r : shapes_of vs ≡ map (λ g. g.shape) fs = (let x : shape_of v ∷ shapes_of vs ≡ g.shape ∷ map (λ g. g.shape) fs = e in cc) in
    cons_taken (f g.shape) (each_taken fs (λ g. f g.shape)) v vs m at front rest (subst (λ z. IsTaken (f z) v) q x.0) (λ m at front rest a. each_all f fs vs r x.1 m at front rest a) a

by_marks : (f : Shape → Taker Value) (s : Shape) (a c : Bool) (ws : List (List ℕ)) (t : Option (Taken Value)) → s.array ≡ a → s.constant ≡ c
    → (if a then array_taken (item_taken f (item_of s)) s ws else if c then reference_taken s ws else f s ws) ≡ t → shape_taken f s ws ≡ t
by_marks f s a c ws t p q e =
    subst (λ z. (if z then array_taken (item_taken f (item_of s)) s ws else item_taken f s ws) ≡ t) (sym p)
    (subst (λ z. (if a then array_taken (item_taken f (item_of s)) s ws else if z then reference_taken s ws else f s ws) ≡ t) (sym q) e)

-- The one word of a value without parts.
one_word : (front : List (List ℕ)) (l : LeafAt) → AreWordsOf front (l ∷ []) → (w : List ℕ) × (front ≡ w ∷ []) × IsWordOf w l.kind l.spelled
one_word [] l a = absurd a
one_word (w ∷ []) l a = (w, refl, a.0)
one_word (w ∷ x ∷ ws) l a = absurd a.1

reference_all : (s : Shape) (m : ℕ) (w b : List ℕ) (rest : List (List ℕ)) → id_after 35 w ≡ Some m → b ≡ spell m → reference_taken s (w ∷ rest) ≡ took (Single s (leaf_kinds.Key m) b (Some m)) rest
reference_all s m w b rest e q =
    ap (λ z. then_take (option_map (λ a. record { value = a; rest = rest }) z) (λ key us. took (Single s (leaf_kinds.Key key) (spell key) (Some key)) us)) e
    ∙ ap (λ z. took (Single s (leaf_kinds.Key m) z (Some m)) rest) (sym q)

base_all : (kd : Kind) (s : Shape) (w b : List ℕ) (rest : List (List ℕ)) → base_of kd w ≡ Some b
    → base_taken kd s (w ∷ rest) ≡ took (Single s (leaf_kinds.Base kd) b (leaf_key (leaf_kinds.Base kd) b)) rest
base_all kd s w b rest e = ap (λ z. then_take (option_map (λ a. record { value = a; rest = rest }) z) (λ b us. took (Single s (leaf_kinds.Base kd) b (leaf_key (leaf_kinds.Base kd) b)) us)) e

kind_all : (kd : Kind) (s : Shape) (fields : Taker (List Value)) (ws : List (List ℕ)) (b : List ℕ) (key : Option ℕ) → IsBase kd b key → kind_taken kd s fields ws ≡ base_taken kd s ws
kind_all kinds.Composite s fields ws b key i = absurd i
kind_all kd s fields ws b key i = refl

module _ (k : Classes) where
  single_all : (n : ℕ) (s : Shape) (kind : LeafKind) (b : List ℕ) (key : Option ℕ) → IsSingle k s kind b key → IsTaken (shape_taken (class_taken (suc n) k) s) (Single s kind b key)
  unfolding class_taken
  single_all n s kind b key (inl f) g at front rest a =
      let w = one_word front (record { kind = kind; class = s.class; holder = g; at = at; spelled = b }) a in
      let i = subst (λ z. IsWordOf w.0 z b) f.4 w.2 in
      by_marks (class_taken (suc n) k) s false true (front ++ rest) (took (Single s kind b key) rest) f.0 f.1
      (ap (λ z. reference_taken s (z ++ rest)) w.1
      ∙ (reference_all s f.2 w.0 b rest i.0 i.1 ∙ (ap (λ z. took (Single s z b (Some f.2)) rest) (sym f.4) ∙ ap (λ z. took (Single s kind b z) rest) (sym f.5))))
  single_all n s kind b key (inr f) g at front rest a =
      let w = one_word front (record { kind = kind; class = s.class; holder = g; at = at; spelled = b }) a in
      let kd : Kind = kind_of f.2.name in
      let i : base_of kd w.0 ≡ Some b = subst (λ z. IsWordOf w.0 z b) f.4 w.2 in
      let j : leaf_key (leaf_kinds.Base kd) b ≡ key = base_key kd b key f.5 in
      by_marks (class_taken (suc n) k) s false false (front ++ rest) (took (Single s kind b key) rest) f.0 f.1
      (ap (λ z. inline_taken (class_taken n k) s z (front ++ rest)) f.3 ∙ (kind_all kd s (each_taken f.2.fields (λ g. shape_taken (class_taken n k) g.shape)) (front ++ rest) b key f.5
      ∙ (ap (λ z. base_taken kd s (z ++ rest)) w.1
      ∙ (base_all kd s w.0 b rest i ∙ (ap (λ z. took (Single s z b (leaf_key (leaf_kinds.Base kd) b)) rest) (sym f.4) ∙ ap (λ z. took (Single s kind b z) rest) j)))))

  array_all : (n : ℕ) (s : Shape) (h : List ℕ) (vs : Values) → s.array ≡ true → (m : ℕ) → Spells h m → shapes_of vs ≡ replicate m (item_of s) → AllTaken (shape_taken (class_taken (suc n) k)) vs
      → IsTaken (shape_taken (class_taken (suc n) k) s) (Group s h vs)
  array_all n s h vs a m p e x g at front rest q =
      let f = class_taken (suc n) k in
      let b : AreWordsOf front (record { kind = leaf_kinds.Count (worth_within 8 h); class = s.class; holder = g; at = at; spelled = h } ∷ leaves_from (λ n. g) (at + length h) vs) =
      subst (λ z. AreWordsOf front ((if z then record { kind = leaf_kinds.Count (worth_within 8 h); class = s.class; holder = g; at = at; spelled = h } ∷ [] else []) ++ leaves_from
      (if z then (λ n. g) else (λ n. Some (record { class = s.class; field = n }))) (at + length h) vs)) a q in
      let i = parted front (record { kind = leaf_kinds.Count (worth_within 8 h); class = s.class; holder = g; at = at; spelled = h } ∷ []) (leaves_from (λ n. g) (at + length h) vs) b in
      let w = one_word i.first (record { kind = leaf_kinds.Count (worth_within 8 h); class = s.class; holder = g; at = at; spelled = h }) i.first_words in
      let c : id_after 91 w.0 ≡ Some m = w.2.0 ∙ ap (λ z. Some z) (sym p.worth) in
      let j : spell m ≡ h = ap spell p.worth ∙ sym w.2.1 in
      let l : front ++ rest ≡ w.0 ∷ (i.second ++ rest) = ap (λ z. z ++ rest) i.split ∙ ap (λ z. (z ++ i.second) ++ rest) w.1 in
      let t = times_all (shape_taken f) (item_of s) m vs e x (λ n. g) (at + length h) i.second rest i.second_words in
      by_marks f s true s.constant (front ++ rest) (took (Group s h vs) rest) a refl
      (ap (λ z. array_taken (item_taken f (item_of s)) s z) l
      ∙ (ap (λ z. then_take (option_map (λ a. record { value = a; rest = i.second ++ rest }) z)
      (λ n us. then_take (times_taken n (item_taken f (item_of s)) us) λ vs rest. took (Group s (spell n) (values_of vs)) rest)) c
      ∙ (ap (λ z. then_take z (λ vs rest. took (Group s (spell m) (values_of vs)) rest)) t
      ∙ (ap (λ z. took (Group s (spell m) z) rest) (values_again vs) ∙ ap (λ z. took (Group s z vs) rest) j))))

  fields_all : (n : ℕ) (s : Shape) (h : List ℕ) (vs : Values) (c : Class) → s.array ≡ false → s.constant ≡ false → find_class k s.class ≡ Some c → kind_of c.name ≡ kinds.Composite → h ≡ []
      → shapes_of vs ≡ map (λ f. f.shape) c.fields → AllTaken (shape_taken (class_taken n k)) vs → IsTaken (shape_taken (class_taken (suc n) k) s) (Group s h vs)
  unfolding class_taken
  fields_all n s h vs c a o q e z r x g at front rest y =
      let holders : ℕ → Option Holder = λ n. Some (record { class = s.class; field = n }) in
      let b : AreWordsOf front (leaves_from holders (at + length h) vs) =
      subst (λ z. AreWordsOf front ((if z then record { kind = leaf_kinds.Count (worth_within 8 h); class = s.class; holder = g; at = at; spelled = h } ∷ [] else []) ++ leaves_from
      (if z then (λ n. g) else holders) (at + length h) vs)) a y in
      let t = each_all (shape_taken (class_taken n k)) c.fields vs r x holders (at + length h) front rest b in
      by_marks (class_taken (suc n) k) s false false (front ++ rest) (took (Group s h vs) rest) a o
      (ap (λ z. inline_taken (class_taken n k) s z (front ++ rest)) q
      ∙ (ap (λ z. kind_taken z s (each_taken c.fields (λ g. shape_taken (class_taken n k) g.shape)) (front ++ rest)) e
      ∙ (ap (λ z. then_take z (λ vs us. took (Group s [] (values_of vs)) us)) t
      ∙ (ap (λ z. took (Group s [] z) rest) (values_again vs) ∙ ap (λ z. took (Group s z vs) rest) (sym z)))))

  pub value_all : Sound k → (v : Value) → Fits k v → (front rest : List (List ℕ)) → AreWordsOf front (leaves_at None 0 v) → value_taken k (shape_of v) (front ++ rest) ≡ took v rest
  unfolding value_taken
  value_all s v f front rest a = by_depth k (λ n v. IsTaken (shape_taken (class_taken (suc n) k) (shape_of v)) v) single_all array_all (λ n. fields_all (suc n)) v 33
      (λ o c q e. sound_inline k (shape_of v).class c s q) f None 0 front rest a
