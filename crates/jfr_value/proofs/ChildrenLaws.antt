-- The children of a node in order: they cover it, and what it refers to and its leaves are theirs.
use Rattle.std.specs.Prelude.{◌≡◌, ◌↔◌, ℕ, zero, suc, ◌+◌, ◌≤◌, false, true, List, [], ◌∷◌, ◌++◌, flat_map, length, map, slice_get, slice_range, Option, Some, None, option_to_list, if◌then◌else◌}
use Rattle.std.proofs.Common.{ap, arith, refl, sym, ◌∙◌, subst}
use Rattle.jfr_base.specs.Formats.{Answer, Reads}
use Rattle.jfr_base.specs.Integer.{worth_within}
use Rattle.jfr_base.proofs.Exact.{ReadsOrFails, run_reads_or_fails}
use Rattle.jfr_base.proofs.Ranges.{range_length}
use Rattle.jfr_base.proofs.RunLaws.{Stands, stands_split}
use Rattle.jfr_layout.specs.Classes.{Class, Classes, Sound, find_class, kind_of}
use Rattle.jfr_layout.specs.declared.kind.Kind.TheVariants as kinds
use Rattle.jfr_layout.specs.declared.shape.Shape.{Shape}
use Rattle.jfr_value.specs.declared.leaf.Holder.{Holder}
use Rattle.jfr_value.specs.declared.leaf.LeafKind.TheVariants as leaf_kinds
use Rattle.jfr_value.specs.Laws.{Cover, ItemsCover, LeavesInOrder, leaves_in_each}
use Rattle.jfr_value.specs.Leaves.{LeafAt, leaves_at, leaves_from, part_holder}
use Rattle.jfr_value.specs.Nodes.{NodeAt, IsNode, AreValues, Both, children, laid, laid_in, node_at, target, targets}
use Rattle.jfr_value.specs.Reading.{value_format}
use Rattle.jfr_value.specs.Values.{Value, Values, Single, Group, Nil, Cons, list_of, shape_of, shapes_of, parts_of, bytes_of, bytes_of_all, own_target, targets_of, targets_of_all, AllFit}
use Rattle.jfr_value.proofs.ChildLaws.{fields_in, items_in}
use Rattle.jfr_value.proofs.NodeLaws.{children_are, inner_is, node_read, node_stands, read_node, stands_node, target_is}
use Rattle.jfr_value.proofs.RowLaws.{row_stands}
use Rattle.jfr_value.proofs.TargetLaws.{leaves_in_are, targets_are}

-- What is read is a node, and a node is read.
pub node_reads : (k : Classes) (c : List ℕ) (s : Shape) (at to end : ℕ) (v : Value) → Sound k → at ≤ end → end ≤ length c
    → Reads (value_format k s) c end at v to ↔ (IsNode k c (node_at s at to) v × (to ≤ end))
node_reads k c s at to end v sound o l = (
  λ r. read_node k s c end at to v l o r,
  λ (i, w). subst (λ (a : Answer Value). ReadsOrFails (value_format k s) c end at a) (node_read k c (node_at s at to) v end sound i w l)
      (run_reads_or_fails (value_format k s) c end at o l),
)

module _ (k : Classes) (c : List ℕ) where
  row_covers : (at to : ℕ) (ss : List Shape) (vs : Values) → AreValues k c at to ss vs → Cover k c at to ss (laid at (list_of vs))
  row_covers at to [] Nil r =
      let o : at ≤ to = r.order in
      let e : length (slice_range c at to) ≡ 0 = ap length r.bytes in
      let l = range_length c at to r.within in
      omega arith
  row_covers at to (s ∷ ss) Nil r = let h = r.of_shapes in cc
  row_covers at to [] (Cons v vs) r = let h = r.of_shapes in cc
  row_covers at to (s ∷ ss) (Cons v vs) r =
      let h = stands_split c at to (bytes_of v ++ bytes_of_all vs) (bytes_of v) (bytes_of_all vs) (row_stands k c at to (s ∷ ss) (Cons v vs) r) refl in
      let q : shape_of v ≡ s = (let x : shape_of v ∷ shapes_of vs ≡ s ∷ ss = r.of_shapes in cc) in
      let z : shapes_of vs ≡ ss = (let x : shape_of v ∷ shapes_of vs ≡ s ∷ ss = r.of_shapes in cc) in (
        refl,
        q,
        (v, stands_node k c at (at + length (bytes_of v)) v h.first r.fit.0),
        row_covers (at + length (bytes_of v)) to ss vs
            (record { order = h.second.order; within = h.second.within; bytes = h.second.bytes; fit = r.fit.1; of_shapes = z }),
      )

  module _ (sound : Sound k) where
    laid_targets : (at to : ℕ) (vs : Values) → Stands c at to (bytes_of_all vs) → AllFit k vs → flat_map (targets k c) (laid at (list_of vs)) ≡ targets_of_all vs
    laid_targets at to Nil s g = refl
    laid_targets at to (Cons v vs) s g =
        let h = stands_split c at to (bytes_of v ++ bytes_of_all vs) (bytes_of v) (bytes_of_all vs) s refl in
        let i = stands_node k c at (at + length (bytes_of v)) v h.first g.0 in
        ap (λ z. z ++ flat_map (targets k c) (laid (at + length (bytes_of v)) (list_of vs))) (targets_are k sound c (node_at (shape_of v) at (at + length (bytes_of v))) v i)
        ∙ ap (λ z. targets_of v ++ z) (laid_targets (at + length (bytes_of v)) to vs h.second g.1)

    laid_leaves : (f : ℕ → Option Holder) (at to : ℕ) (vs : Values) → Stands c at to (bytes_of_all vs) → AllFit k vs → leaves_in_each f k c (laid at (list_of vs)) ≡ leaves_from f at vs
    laid_leaves f at to Nil s g = refl
    laid_leaves f at to (Cons v vs) s g =
        let h = stands_split c at to (bytes_of v ++ bytes_of_all vs) (bytes_of v) (bytes_of_all vs) s refl in
        let i = stands_node k c at (at + length (bytes_of v)) v h.first g.0 in
        ap (λ z. z ++ leaves_in_each (λ n. f (suc n)) k c (laid (at + length (bytes_of v)) (list_of vs))) (leaves_in_are k sound c (node_at (shape_of v) at (at + length (bytes_of v))) v i (f zero))
        ∙ ap (λ z. leaves_at (f zero) at v ++ z) (laid_leaves (λ n. f (suc n)) (at + length (bytes_of v)) to vs h.second g.1)

    module _ (n : NodeAt) where
      pub parts_are_valid : (v : Value) → IsNode k c n v → (i : ℕ) → Both (IsNode k c) (slice_get (children k c n) i) (slice_get (parts_of v) i)
      parts_are_valid v i j = subst (λ z. Both (IsNode k c) (slice_get z j) (slice_get (parts_of v) j)) (sym (children_are k c n v sound i))
          (inner_is k c n.at n.end v (node_stands k c n v i) i.fits j)

      pub fields_cover : (v : Value) (d : Class) → IsNode k c n v → n.shape.array ≡ false → n.shape.constant ≡ false → find_class k n.shape.class ≡ Some d → kind_of d.name ≡ kinds.Composite
          → Cover k c n.at n.end (map (λ f. f.shape) d.fields) (children k c n)
      fields_cover v d i a o q m =
          let f = fields_in k c n v d i a o q m in
          subst (Cover k c n.at n.end (map (λ f. f.shape) d.fields)) (sym (children_are k c n v sound i ∙ f.is)) (row_covers n.at n.end (map (λ f. f.shape) d.fields) f.parts f.row)

      pub items_cover : (v : Value) → IsNode k c n v → n.shape.array ≡ true → ItemsCover k c n
      items_cover v i a =
          let f = items_in k c n v i a in
          record {
            count = record { value = f.count; end = f.place };
            counted = f.counted;
            cover = subst (Cover k c f.place n.end _) (sym (children_are k c n v sound i ∙ f.is))
                (row_covers f.place n.end _ f.parts f.row);
          }

      own_then : (v : Value) → IsNode k c n v → targets_of v ≡ option_to_list (own_target v) ++ flat_map (targets k c) (laid_in n.at v)
      own_then (Single s kind b None) i = refl
      own_then (Single s kind b (Some key)) i = refl
      own_then (Group s h vs) i =
          let y = stands_split c n.at n.end (h ++ bytes_of_all vs) h (bytes_of_all vs) (node_stands k c n (Group s h vs) i) refl in
          sym (laid_targets (n.at + length h) n.end vs y.second i.fits.1)

      pub targets_in_order : (v : Value) → IsNode k c n v → targets k c n ≡ option_to_list (target k c n) ++ flat_map (targets k c) (children k c n)
      targets_in_order v i =
          targets_are k sound c n v i ∙ (own_then v i
          ∙ (ap (λ z. option_to_list z ++ flat_map (targets k c) (laid_in n.at v)) (sym (target_is k c n v sound i))
          ∙ ap (λ z. option_to_list (target k c n) ++ flat_map (targets k c) z) (sym (children_are k c n v sound i))))

      pub leaves_ordered : (v : Value) (g : Option Holder) → IsNode k c n v → LeavesInOrder k c n v g
      leaves_ordered (Single s kind b key) g i = leaves_in_are k sound c n (Single s kind b key) i g
      leaves_ordered (Group s h vs) g i =
          let y = stands_split c n.at n.end (h ++ bytes_of_all vs) h (bytes_of_all vs) (node_stands k c n (Group s h vs) i) refl in
          let first : List LeafAt = if s.array then record { kind = leaf_kinds.Count (worth_within 8 h); class = s.class; holder = g; at = n.at; spelled = h } ∷ [] else [] in
          leaves_in_are k sound c n (Group s h vs) i g
          ∙ (ap (λ z. first ++ z) (sym (laid_leaves (part_holder s g) (n.at + length h) n.end vs y.second i.fits.1))
          ∙ ap (λ z. first ++ leaves_in_each (part_holder s g) k c z) (sym (children_are k c n (Group s h vs) sound i)))
