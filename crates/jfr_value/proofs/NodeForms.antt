-- What the value of a node is, by the shape and the class: a reference, a value of a base name, fields or an array.
use Rattle.std.specs.Prelude.{◌≡◌, ◌≢◌, ℕ, ◌+◌, ◌≤◌, true, false, List, [], ◌++◌, length, map, replicate, slice_range, Option, Some, None}
use Rattle.std.proofs.Common.{ap, arith, refl, sym, ◌∙◌, subst, inl, inr}
use Rattle.jfr_base.specs.declared.integer.Var.{Var}
use Rattle.jfr_base.specs.Integer.{IntAt, Spells}
use Rattle.jfr_base.specs.Formats.{int_at}
use Rattle.jfr_base.proofs.OneAnswer.{int_computed}
use Rattle.jfr_base.proofs.RunLaws.{Stands, stands_split}
use Rattle.jfr_layout.specs.Classes.{Class, Classes, find_class, kind_of, item_of}
use Rattle.jfr_layout.specs.declared.kind.Kind.{Kind}
use Rattle.jfr_layout.specs.declared.kind.Kind.TheVariants as kinds
use Rattle.jfr_layout.specs.declared.shape.Shape.{Shape}
use Rattle.jfr_value.specs.declared.leaf.LeafKind.TheVariants as leaf_kinds
use Rattle.jfr_value.specs.Values.{Value, Values, Single, Group, shapes_of, bytes_of_all, IsBase, IsSingle, IsHead, AllFit}
use Rattle.jfr_value.specs.Nodes.{node_at, IsNode, AreValues}
use Rattle.jfr_value.proofs.NodeLaws.{node_stands}

-- Only a string has a key.
pub no_key : (kind : Kind) (b : List ℕ) (key : Option ℕ) → kind ≢ kinds.Text → IsBase kind b key → key ≡ None
no_key kinds.Boolean b key n i = i.1
no_key kinds.Byte b key n i = i.1
no_key kinds.Char b key n i = i.2
no_key kinds.Short b key n i = i.2
no_key kinds.Int b key n i = i.2
no_key kinds.Long b key n i = i.2
no_key kinds.Float b key n i = i.1
no_key kinds.Double b key n i = i.1
no_key kinds.Text b key n i = absurd (n refl)
no_key kinds.Composite b key n i = absurd i

module _ (k : Classes) (c : List ℕ) (at to : ℕ) (s : Shape) where
  abbrev bytes_there : List ℕ
  bytes_there = slice_range c at to

  -- A value of a base name.
  pub record BaseForm (kind : Kind) (v : Value) : Type 0 where
    pub key : Option ℕ
    pub is : IsBase kind bytes_there key
    pub holds : Stands c at to bytes_there
    pub value : v ≡ Single s (leaf_kinds.Base kind) bytes_there key

  pub base_form : (v : Value) (d : Class) → IsNode k c (node_at s at to) v → s.array ≡ false → s.constant ≡ false → find_class k s.class ≡ Some d → kind_of d.name ≢ kinds.Composite
      → BaseForm (kind_of d.name) v
  base_form (Single t kind b key) d i a o q n = by_case i.fits
    where
      by_case : IsSingle k t kind b key → BaseForm (kind_of d.name) (Single t kind b key)
      by_case (inl p) = let z : t.constant ≡ false = ap (λ (z : Shape). z.constant) (sym i.shape) ∙ o in let y = p.1 in cc
      by_case (inr p) =
          let e : p.2 ≡ d = (let x : find_class k s.class ≡ Some p.2 = ap (λ (z : Shape). find_class k z.class) i.shape ∙ p.3 in cc) in
          let f : IsBase (kind_of d.name) b key = subst (λ (z : Class). IsBase (kind_of z.name) b key) e p.5 in
          record {
            key = key;
            is = subst (λ z. IsBase (kind_of d.name) z key) (sym i.bytes) f;
            holds = record { order = i.order; within = i.within; bytes = refl };
            value = ap (λ z. Single t z b key) p.4 ∙ (ap (λ (z : Class). Single t (leaf_kinds.Base (kind_of z.name)) b key) e
                ∙ (ap (λ z. Single t (leaf_kinds.Base (kind_of d.name)) z key) (sym i.bytes) ∙ ap (λ (z : Shape). Single z (leaf_kinds.Base (kind_of d.name)) bytes_there key) (sym i.shape)));
          }
  base_form (Group t h vs) d i a o q n = by_case i.fits.0
    where
      by_case : IsHead k t h (shapes_of vs) → BaseForm (kind_of d.name) (Group t h vs)
      by_case (inl p) = let z : t.array ≡ false = ap (λ (z : Shape). z.array) (sym i.shape) ∙ a in let y = p.0 in cc
      by_case (inr p) =
          let e : p.2 ≡ d = (let x : find_class k s.class ≡ Some p.2 = ap (λ (z : Shape). find_class k z.class) i.shape ∙ p.3 in cc) in
          absurd (n (ap (λ (z : Class). kind_of z.name) (sym e) ∙ p.4))

  -- A composite value: its fields are there.
  pub record FieldsForm (d : Class) (v : Value) : Type 0 where
    pub parts : Values
    pub row : AreValues k c at to (map (λ f. f.shape) d.fields) parts
    pub value : v ≡ Group s [] parts

  pub fields_form : (v : Value) (d : Class) → IsNode k c (node_at s at to) v → s.array ≡ false → s.constant ≡ false → find_class k s.class ≡ Some d → kind_of d.name ≡ kinds.Composite → FieldsForm d v
  fields_form (Single t kind b key) d i a o q m = by_case i.fits
    where
      by_case : IsSingle k t kind b key → FieldsForm d (Single t kind b key)
      by_case (inl p) = let z : t.constant ≡ false = ap (λ (z : Shape). z.constant) (sym i.shape) ∙ o in let y = p.1 in cc
      by_case (inr p) =
          let e : p.2 ≡ d = (let x : find_class k s.class ≡ Some p.2 = ap (λ (z : Shape). find_class k z.class) i.shape ∙ p.3 in cc) in
          absurd (subst (λ z. IsBase z b key) (ap (λ (z : Class). kind_of z.name) e ∙ m) p.5)
  fields_form (Group t h vs) d i a o q m = by_case i.fits
    where
      by_case : IsHead k t h (shapes_of vs) × AllFit k vs → FieldsForm d (Group t h vs)
      by_case (inl p, f) = let z : t.array ≡ false = ap (λ (z : Shape). z.array) (sym i.shape) ∙ a in let y = p.0 in cc
      by_case (inr p, f) =
          let x : find_class k t.class ≡ Some d = ap (λ (z : Shape). find_class k z.class) (sym i.shape) ∙ q in
          let e : p.2 ≡ d = cc in
          record {
            parts = vs;
            row = record { order = i.order; within = i.within; bytes = i.bytes ∙ ap (λ y. y ++ bytes_of_all vs) p.5; fit = f; of_shapes = p.6 ∙ ap (λ (z : Class). map (λ f. f.shape) z.fields) e };
            value = ap (λ z. Group t z vs) p.5 ∙ ap (λ (z : Shape). Group z [] vs) (sym i.shape);
          }

  module _ (end : ℕ) (l : to ≤ end) (w : end ≤ length c) where
    -- A reference: its key is there.
    pub record KeyForm (v : Value) : Type 0 where
      pub key : ℕ
      pub found : int_at c at end ≡ Some (record { value = key; end = to })
      pub value : v ≡ Single s (leaf_kinds.Key key) bytes_there (Some key)

    pub key_form : (v : Value) → IsNode k c (node_at s at to) v → s.array ≡ false → s.constant ≡ true → KeyForm v
    key_form (Single t kind b key) i a o = by_case i.fits
      where
        by_case : IsSingle k t kind b key → KeyForm (Single t kind b key)
        by_case (inl p) =
            let n : IntAt c at to p.2 = record { order = i.order; within = i.within; spelled = subst (λ z. Spells z p.2) (sym i.bytes) p.3 } in
            record {
              key = p.2;
              found = int_computed c at end to p.2 (let r = i.order in omega arith) w n l;
              value = ap (λ z. Single t z b key) p.4 ∙ (ap (λ z. Single t (leaf_kinds.Key p.2) b z) p.5
                  ∙ (ap (λ z. Single t (leaf_kinds.Key p.2) z (Some p.2)) (sym i.bytes) ∙ ap (λ (z : Shape). Single z (leaf_kinds.Key p.2) bytes_there (Some p.2)) (sym i.shape)));
            }
        by_case (inr p) = let z : t.constant ≡ true = ap (λ (z : Shape). z.constant) (sym i.shape) ∙ o in let y = p.1 in cc
    key_form (Group t h vs) i a o = by_case i.fits.0
      where
        by_case : IsHead k t h (shapes_of vs) → KeyForm (Group t h vs)
        by_case (inl p) = let z : t.array ≡ false = ap (λ (z : Shape). z.array) (sym i.shape) ∙ a in let y = p.0 in cc
        by_case (inr p) = let z : t.constant ≡ true = ap (λ (z : Shape). z.constant) (sym i.shape) ∙ o in let y = p.1 in cc

    -- An array: its count is there, followed by its items.
    pub record ArrayForm (v : Value) : Type 0 where
      pub count : Var
      pub found : int_at c at end ≡ Some count
      pub head : List ℕ
      pub ends : count.end ≡ at + length head
      pub within : count.end ≤ to
      pub parts : Values
      pub row : AreValues k c count.end to (replicate count.value (item_of s)) parts
      pub value : v ≡ Group s head parts

    pub array_form : (v : Value) → IsNode k c (node_at s at to) v → s.array ≡ true → ArrayForm v
    array_form (Single t kind b key) i a = by_case i.fits
      where
        by_case : IsSingle k t kind b key → ArrayForm (Single t kind b key)
        by_case (inl p) = let z : t.array ≡ true = ap (λ (z : Shape). z.array) (sym i.shape) ∙ a in let y = p.0 in cc
        by_case (inr p) = let z : t.array ≡ true = ap (λ (z : Shape). z.array) (sym i.shape) ∙ a in let y = p.0 in cc
    array_form (Group t h vs) i a = by_case i.fits
      where
        by_case : IsHead k t h (shapes_of vs) × AllFit k vs → ArrayForm (Group t h vs)
        by_case (inr p, f) = let z : t.array ≡ true = ap (λ (z : Shape). z.array) (sym i.shape) ∙ a in let y = p.0 in cc
        by_case (inl p, f) =
            let y = stands_split c at to (h ++ bytes_of_all vs) h (bytes_of_all vs) (node_stands k c (node_at s at to) (Group t h vs) i) refl in
            let n : IntAt c at (at + length h) p.1 = record { order = y.first.order; within = y.first.within; spelled = subst (λ z. Spells z p.1) (sym y.first.bytes) p.2 } in
            let m : at + length h ≤ to = y.second.order in
            record {
              count = record { value = p.1; end = at + length h };
              found = int_computed c at end (at + length h) p.1 (let r = i.order in omega arith) w n (omega arith);
              head = h;
              ends = refl;
              within = m;
              parts = vs;
              row = record { order = m; within = i.within; bytes = y.second.bytes; fit = f; of_shapes = p.3 ∙ ap (λ z. replicate p.1 (item_of z)) (sym i.shape) };
              value = ap (λ (z : Shape). Group z h vs) (sym i.shape);
            }
