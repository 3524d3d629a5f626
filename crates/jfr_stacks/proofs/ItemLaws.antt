-- The items of an array, one after another.
use Rattle.std.specs.Prelude.{◌≡◌, ℕ, suc, ◌+◌, ◌-◌, ◌<◌, ◌≤◌, List, [], ◌∷◌, ◌++◌, map, replicate, Some}
use Rattle.std.specs.List.{AllByRecursion}
use Rattle.std.proofs.Common.{ap, append-nil, arith, refl, subst, sym, ◌∙◌}
use Rattle.std.proofs.lemmas.List.{append_assoc, map-append}
use Rattle.jfr_base.specs.declared.integer.Var.{Var}
use Rattle.jfr_base.specs.Formats.{int_at}
use Rattle.jfr_layout.specs.Classes.{item_of}
use Rattle.jfr_layout.specs.declared.shape.Shape.{Shape}
use Rattle.jfr_value.specs.declared.node.Node.{Node}
use Rattle.jfr_value.specs.Laws.{Cover, ItemsCover}
use Rattle.jfr_value.specs.Nodes.{EndsAt, IsNode, NodeAt, children, node_at, node_of}
use Rattle.jfr_chunk.specs.Parts.{Parts}
use Rattle.jfr_chunk.proofs.AllLaws.{all_append}
use Rattle.jfr_stacks.specs.Frames.{IsChunkValue}

-- The items so far, and those that are left, which cover the bytes from `at` up to `end`.
pub record Going (p : Parts) (s : Shape) (end : ℕ) (all : List NodeAt) (left at : ℕ) (items : List Node) : Type 0 where
  pub rest : List NodeAt
  pub cover : Cover p.classes p.bytes at end (replicate left s) rest
  pub so_far : map node_of items ++ rest ≡ all
  pub values : AllByRecursion (IsChunkValue p) items

-- The first of the items that are left.
pub record First (p : Parts) (s : Shape) (end at : ℕ) : Type 0 where
  pub to : ℕ
  pub ends : EndsAt p.classes p.bytes s at to
  pub order : at ≤ to
  pub within : to ≤ end

module _ (p : Parts) (s : Shape) (end : ℕ) (all : List NodeAt) where
  cover_order : (at : ℕ) (ss : List Shape) (ns : List NodeAt) → Cover p.classes p.bytes at end ss ns → at ≤ end
  cover_order at [] [] h = let e : at ≡ end = h in omega arith
  cover_order at [] (n ∷ ns) h = absurd h
  cover_order at (t ∷ ss) [] h = absurd h
  cover_order at (t ∷ ss) (n ∷ ns) h =
      let e : n.at ≡ at = h.0 in
      let o : n.at ≤ n.end = h.2.1.order in
      let i = cover_order n.end ss ns h.3 in
      omega arith

  node_is : (n : NodeAt) (at : ℕ) → n.at ≡ at → n.shape ≡ s → n ≡ node_at s at n.end
  node_is n at e f = λ i. record { shape = f i; at = e i; end = n.end }

  pub first_left : (m at : ℕ) (items : List Node) → Going p s end all (suc m) at items → First p s end at
  first_left m at items g = by_rest g.rest g.cover
    where
      by_rest : (rest : List NodeAt) → Cover p.classes p.bytes at end (s ∷ replicate m s) rest → First p s end at
      by_rest [] h = absurd h
      by_rest (n ∷ ns) h =
          let i : IsNode p.classes p.bytes (node_at s at n.end) h.2.0 = subst (λ z. IsNode p.classes p.bytes z h.2.0) (node_is n at h.0 h.1) h.2.1 in
          record { to = n.end; ends = (h.2.0, i); order = i.order; within = cover_order n.end (replicate m s) ns h.3 }

  pub item_next : (m at : ℕ) (items : List Node) (x : Node) → x.bytes.now ≡ p.bytes → x.shape ≡ s → x.at ≡ at → ((to : ℕ) → EndsAt p.classes p.bytes s at to → to ≤ end → x.end ≡ to)
      → Going p s end all (suc m) at items → Going p s end all m x.end (items ++ x ∷ [])
  item_next m at items x b f e t g = by_rest g.rest g.cover g.so_far
    where
      by_rest : (rest : List NodeAt) → Cover p.classes p.bytes at end (s ∷ replicate m s) rest → map node_of items ++ rest ≡ all → Going p s end all m x.end (items ++ x ∷ [])
      by_rest [] h w = absurd h
      by_rest (n ∷ ns) h w =
          let i : IsNode p.classes p.bytes (node_at s at n.end) h.2.0 = subst (λ z. IsNode p.classes p.bytes z h.2.0) (node_is n at h.0 h.1) h.2.1 in
          let q : x.end ≡ n.end = t n.end (h.2.0, i) (cover_order n.end (replicate m s) ns h.3) in
          let same : node_of x ≡ n = (λ j. record { shape = f j; at = e j; end = q j }) ∙ sym (node_is n at h.0 h.1) in
          let j : IsNode p.classes p.bytes (node_of x) h.2.0 = subst (λ z. IsNode p.classes p.bytes z h.2.0) (sym same) h.2.1 in
          record {
            rest = ns;
            cover = subst (λ z. Cover p.classes p.bytes z end (replicate m s) ns) (sym q) h.3;
            so_far = ap (λ z. z ++ ns) (map-append node_of items (x ∷ [])) ∙ (append_assoc (map node_of items) (node_of x ∷ []) ns ∙ (ap (λ z. map node_of items ++ z ∷ ns) same ∙ w));
            values = all_append (IsChunkValue p) items (x ∷ []) g.values (record { bytes = b; value = (h.2.0, subst (λ z. IsNode p.classes z (node_of x) h.2.0) (sym b) j) }, tt);
          }

  pub items_end : (left at : ℕ) (items : List Node) → left ≡ 0 → Going p s end all left at items → map node_of items ≡ all
  items_end left at items z g = by_rest g.rest (subst (λ n. Cover p.classes p.bytes at end (replicate n s) g.rest) z g.cover) g.so_far
    where
      by_rest : (rest : List NodeAt) → Cover p.classes p.bytes at end [] rest → map node_of items ++ rest ≡ all → map node_of items ≡ all
      by_rest [] h w = sym (append-nil (map node_of items)) ∙ w
      by_rest (n ∷ ns) h w = absurd h

-- No item yet.
pub items_first : (p : Parts) (n : NodeAt) (s : Shape) (count : Var) → ItemsCover p.classes p.bytes n → int_at p.bytes n.at n.end ≡ Some count → s ≡ item_of n.shape
    → Going p s n.end (children p.classes p.bytes n) count.value count.end []
items_first p n s count c e f =
    let q : c.count ≡ count = (let x : Some c.count ≡ Some count = sym c.counted ∙ e in cc) in
    record {
      rest = children p.classes p.bytes n;
      cover = subst (λ (z : Shape). Cover p.classes p.bytes count.end n.end (replicate count.value z) (children p.classes p.bytes n)) (sym f)
          (subst (λ (z : Var). Cover p.classes p.bytes z.end n.end (replicate z.value (item_of n.shape)) (children p.classes p.bytes n)) q c.cover);
      so_far = refl;
      values = tt;
    }

pub more_left : (count counter : ℕ) → counter < count → count - counter ≡ suc (count - (counter + 1))
more_left count counter h = omega arith
