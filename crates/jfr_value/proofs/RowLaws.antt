-- Values one after another, and where each of them starts.
use Rattle.std.specs.Prelude.{◌≡◌, ℕ, zero, suc, ◌+◌, ◌<◌, ◌≤◌, false, List, [], ◌∷◌, ◌++◌, length, map, replicate, slice_get, Some}
use Rattle.std.proofs.Common.{ap, arith, refl, sym, ◌∙◌, subst, inl, inr}
use Rattle.jfr_base.proofs.RunLaws.{Stands, stands_split}
use Rattle.jfr_layout.specs.Classes.{Class, Classes, find_class, kind_of}
use Rattle.jfr_layout.specs.declared.shape.Shape.{Shape}
use Rattle.jfr_layout.specs.declared.field_layout.FieldLayout.{FieldLayout}
use Rattle.jfr_value.specs.Values.{Value, Values, Single, Group, Nil, Cons, list_of, shape_of, shapes_of, bytes_of, bytes_of_all, IsBase, IsSingle, IsHead, Fits, AllFit, IsHollow}
use Rattle.jfr_value.specs.Nodes.{node_at, IsNode, AreValues, laid}

pub row_stands : (k : Classes) (c : List ℕ) (at to : ℕ) (ss : List Shape) (vs : Values) → AreValues k c at to ss vs → Stands c at to (bytes_of_all vs)
row_stands k c at to ss vs r = record { order = r.order; within = r.within; bytes = r.bytes }

-- The offset of the value with this number.
abbrev pub start_of : ℕ → Values → ℕ → ℕ
start_of at vs zero = at
start_of at Nil (suc i) = at
start_of at (Cons v vs) (suc i) = start_of (at + length (bytes_of v)) vs i

pub record PartAt (k : Classes) (c : List ℕ) (at to : ℕ) (vs : Values) (i : ℕ) (s : Shape) : Type 0 where
  pub value : Value
  pub node : IsNode k c (node_at s (start_of at vs i) (start_of at vs (i + 1))) value
  pub within : start_of at vs (i + 1) ≤ to
  pub is : slice_get (laid at (list_of vs)) i ≡ Some (node_at s (start_of at vs i) (start_of at vs (i + 1)))

pub row_at : (k : Classes) (c : List ℕ) (at to : ℕ) (ss : List Shape) (vs : Values) (i : ℕ) (s : Shape) → AreValues k c at to ss vs → slice_get ss i ≡ Some s → PartAt k c at to vs i s
row_at k c at to [] vs i s r e = cc
row_at k c at to (t ∷ ss) Nil i s r e = let h = r.of_shapes in cc
row_at k c at to (t ∷ ss) (Cons v vs) zero s r e =
    let h = stands_split c at to (bytes_of v ++ bytes_of_all vs) (bytes_of v) (bytes_of_all vs) (row_stands k c at to (t ∷ ss) (Cons v vs) r) refl in
    let q : shape_of v ≡ s = (let x : shape_of v ∷ shapes_of vs ≡ t ∷ ss = r.of_shapes in cc) in
    let o : at + length (bytes_of v) ≤ to = h.second.order in
    record {
      value = v;
      node = record { shape = sym q; order = h.first.order; within = h.first.within; bytes = h.first.bytes; fits = r.fit.0 };
      within = o;
      is = ap (λ z. Some (node_at z at (at + length (bytes_of v)))) q;
    }
row_at k c at to (t ∷ ss) (Cons v vs) (suc i) s r e =
    let h = stands_split c at to (bytes_of v ++ bytes_of_all vs) (bytes_of v) (bytes_of_all vs) (row_stands k c at to (t ∷ ss) (Cons v vs) r) refl in
    let q : shapes_of vs ≡ ss = (let x : shape_of v ∷ shapes_of vs ≡ t ∷ ss = r.of_shapes in cc) in
    let p = row_at k c (at + length (bytes_of v)) to ss vs i s (record { order = h.second.order; within = h.second.within; bytes = h.second.bytes; fit = r.fit.1; of_shapes = q }) e in
    let n : suc i + 1 ≡ suc (i + 1) = omega arith in
    let z : start_of (at + length (bytes_of v)) vs (i + 1) ≡ start_of at (Cons v vs) (suc i + 1) = ap (start_of at (Cons v vs)) (sym n) in
    record {
      value = p.value;
      node = subst (λ z. IsNode k c (node_at s (start_of (at + length (bytes_of v)) vs i) z) p.value) z p.node;
      within = subst (λ z. z ≤ to) z p.within;
      is = subst (λ z. slice_get (laid (at + length (bytes_of v)) (list_of vs)) i ≡ Some (node_at s (start_of (at + length (bytes_of v)) vs i) z)) z p.is;
    }

pub shapes_get : (ss : List FieldLayout) (i : ℕ) (s : FieldLayout) → slice_get ss i ≡ Some s → slice_get (map (λ s. s.shape) ss) i ≡ Some s.shape
shapes_get [] i s e = cc
shapes_get (t ∷ ss) zero s e = let h : t ≡ s = cc in ap (λ (z : FieldLayout). Some z.shape) h
shapes_get (t ∷ ss) (suc i) s e = shapes_get ss i s e

pub replicate_get : (n i : ℕ) (s : Shape) → i < n → slice_get (replicate n s) i ≡ Some s
replicate_get zero i s h = absurd (omega arith)
replicate_get (suc n) zero s h = refl
replicate_get (suc n) (suc i) s h = replicate_get n i s (omega arith)

-- A value of a class without fields has no bytes.
pub hollow_bytes : (k : Classes) (v : Value) (c : Class) → (shape_of v).array ≡ false → (shape_of v).constant ≡ false → find_class k (shape_of v).class ≡ Some c → IsHollow c → Fits k v
    → bytes_of v ≡ []
hollow_bytes k (Single s kind b key) c a o q h f = by_case f
  where
    by_case : IsSingle k s kind b key → b ≡ []
    by_case (inl p) = cc
    by_case (inr p) = let e : p.2 ≡ c = (let x = p.3 in cc) in absurd (subst (λ z. IsBase z b key) (ap (λ (z : Class). kind_of z.name) e ∙ h.0) p.5)
hollow_bytes k (Group s h vs) c a o q i f = by_case vs f.0
  where
    by_case : (vs : Values) → IsHead k s h (shapes_of vs) → h ++ bytes_of_all vs ≡ []
    by_case vs (inl p) = cc
    by_case Nil (inr p) = ap (λ z. z ++ []) p.5
    by_case (Cons v vs) (inr p) =
        let e : p.2 ≡ c = (let x = p.3 in cc) in
        let z : shapes_of (Cons v vs) ≡ [] = p.6 ∙ ap (map (λ f. f.shape)) (ap (λ (z : Class). z.fields) e ∙ i.1) in
        cc

pub hollow_starts : (k : Classes) (s : Shape) (c : Class) → s.array ≡ false → s.constant ≡ false → find_class k s.class ≡ Some c → IsHollow c → (n : ℕ) (vs : Values) → shapes_of vs ≡ replicate n s
    → AllFit k vs → (at i : ℕ) → start_of at vs i ≡ at
hollow_starts k s c a o q h n vs e f at zero = refl
hollow_starts k s c a o q h n Nil e f at (suc i) = refl
hollow_starts k s c a o q h zero (Cons v vs) e f at (suc i) = cc
hollow_starts k s c a o q h (suc n) (Cons v vs) e f at (suc i) =
    let p : shape_of v ≡ s = (let x : shape_of v ∷ shapes_of vs ≡ s ∷ replicate n s = e in cc) in
    let r : shapes_of vs ≡ replicate n s = (let x : shape_of v ∷ shapes_of vs ≡ s ∷ replicate n s = e in cc) in
    let b : bytes_of v ≡ [] = hollow_bytes k v c (ap (λ (z : Shape). z.array) p ∙ a) (ap (λ (z : Shape). z.constant) p ∙ o) (ap (λ (z : Shape). find_class k z.class) p ∙ q) h f.0 in
    let z : at + length (bytes_of v) ≡ at = (let l : length (bytes_of v) ≡ 0 = ap length b in omega arith) in
    ap (λ y. start_of y vs i) z ∙ hollow_starts k s c a o q h n vs r f.1 at i
