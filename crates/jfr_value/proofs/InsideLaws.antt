-- Class lists that agree on a value's class agree on its parts' classes, so the value fits in both.
use Rattle.std.specs.Prelude.{◌≡◌, ℕ, zero, suc, List, [], ◌∷◌, map, replicate, Option, Some}
use Rattle.std.specs.List.{AllByRecursion}
use Rattle.std.proofs.Common.{ap, sym, ◌∙◌, subst, inl, inr}
use Rattle.jfr_layout.specs.Classes.{Class, Classes, Field, find_class, kind_of, item_of, Agree, AgreeWithin}
use Rattle.jfr_layout.specs.declared.shape.Shape.{Shape}
use Rattle.jfr_value.specs.declared.leaf.LeafKind.{LeafKind}
use Rattle.jfr_value.specs.declared.leaf.LeafKind.TheVariants as leaf_kinds
use Rattle.jfr_value.specs.Values.{Value, Values, Single, Group, Nil, Cons, list_of, shape_of, shapes_of, parts_of, IsBase, IsSingle, IsHead, Fits, AllFit}

module _ (k m : Classes) where
  abbrev AgreeShapes : List Shape → Type 0
  AgreeShapes ss = AllByRecursion (λ s. Agree k m s.class) ss

  agree_items : (n : ℕ) (s : Shape) → Agree k m s.class → AgreeShapes (replicate n s)
  agree_items zero s g = tt
  agree_items (suc n) s g = (g, agree_items n s g)

  agree_fields : (fs : List Field) → ((n : ℕ) → AllByRecursion (λ f. AgreeWithin n k m f.shape.class) fs) → AgreeShapes (map (λ f. f.shape) fs)
  agree_fields [] g = tt
  agree_fields (f ∷ fs) g = (λ n. (g n).0, agree_fields fs (λ n. (g n).1))

  agree_head : (s : Shape) (h : List ℕ) (ss : List Shape) → Agree k m s.class → IsHead k s h ss → AgreeShapes ss
  agree_head s h ss g (inl p) = subst AgreeShapes (sym p.3) (agree_items p.1 (item_of s) g)
  agree_head s h ss g (inr p) =
      subst AgreeShapes (sym p.6) (agree_fields p.2.fields
      (λ n. (let a = g (suc n) in let e : a.0 ≡ p.2 = cc (p.3, a.2) in subst (λ c. AllByRecursion (λ f. AgreeWithin n k m f.shape.class) c.fields) e a.7)))

  -- The class in the other list, with the same name and fields.
  record Twin (c : Class) (id : ℕ) : Type 0 where
    class : Class
    found : find_class m id ≡ Some class
    name : c.name ≡ class.name
    fields : c.fields ≡ class.fields

  twin : (c : Class) (id : ℕ) → Agree k m id → find_class k id ≡ Some c → Twin c id
  twin c id g q =
      let a = g 1 in
      let e : a.0 ≡ c = cc (a.2, q) in
      record { class = a.1; found = a.3; name = ap (λ (z : Class). z.name) (sym e) ∙ a.4; fields = ap (λ (z : Class). z.fields) (sym e) ∙ a.6 }

  single_agree : (s : Shape) (kind : LeafKind) (b : List ℕ) (key : Option ℕ) → Agree k m s.class → IsSingle k s kind b key → IsSingle m s kind b key
  single_agree s kind b key g (inl p) = inl p
  single_agree s kind b key g (inr p) =
      let t = twin p.2 s.class g p.3 in
      inr (p.0, p.1, t.class, t.found, p.4 ∙ ap (λ z. leaf_kinds.Base (kind_of z)) t.name, subst (λ z. IsBase (kind_of z) b key) t.name p.5)

  head_agree : (s : Shape) (h : List ℕ) (ss : List Shape) → Agree k m s.class → IsHead k s h ss → IsHead m s h ss
  head_agree s h ss g (inl p) = inl p
  head_agree s h ss g (inr p) =
      let t = twin p.2 s.class g p.3 in
      inr (p.0, p.1, t.class, t.found, ap kind_of (sym t.name) ∙ p.4, p.5, p.6 ∙ ap (map (λ f. f.shape)) t.fields)

  mutual
    pub fits_agree : (v : Value) → Agree k m (shape_of v).class → Fits k v → Fits m v
    fits_agree (Single s kind b key) g f = single_agree s kind b key g f
    fits_agree (Group s h vs) g f = (head_agree s h (shapes_of vs) g f.0, all_agree vs (agree_head s h (shapes_of vs) g f.0) f.1)

    all_agree : (vs : Values) → AgreeShapes (shapes_of vs) → AllFit k vs → AllFit m vs
    all_agree Nil g f = tt
    all_agree (Cons v vs) g f = (fits_agree v g.0 f.0, all_agree vs g.1 f.1)

  of_shapes : (vs : Values) → AgreeShapes (shapes_of vs) → AllByRecursion (λ w. Agree k m (shape_of w).class) (list_of vs)
  of_shapes Nil a = tt
  of_shapes (Cons v vs) a = (a.0, of_shapes vs a.1)

  pub agree_parts : (v : Value) → Fits k v → Agree k m (shape_of v).class → AllByRecursion (λ w. Agree k m (shape_of w).class) (parts_of v)
  agree_parts (Single s kind b key) f a = tt
  agree_parts (Group s h vs) f a = of_shapes vs (agree_head s h (shapes_of vs) a f.0)
