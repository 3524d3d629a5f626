-- What a value refers to by itself, by the form of its layout.
use Rattle.std.specs.Prelude.{◌≡◌, ◌≢◌, ℕ, true, false, List, [], Ok, Option, Some, None, IsSome, option_map, option_to_list, if◌then◌else◌}
use Rattle.std.proofs.Common.{ap, arith, refl, sym, ◌∙◌, subst, inl, inr}
use Rattle.jfr_base.specs.Formats.{int_at, run}
use Rattle.jfr_text.specs.Strings.{Content, string_format}
use Rattle.jfr_layout.specs.Classes.{Class, Classes, IsFieldLayout, Sound, find_class, form_of, inline_form, kind_of}
use Rattle.jfr_layout.specs.declared.form.Form.TheVariants as forms
use Rattle.jfr_layout.specs.declared.kind.Kind.{Kind}
use Rattle.jfr_layout.specs.declared.kind.Kind.TheVariants as kinds
use Rattle.jfr_layout.specs.declared.shape.Shape.{Shape}
use Rattle.jfr_layout.specs.declared.field_layout.FieldLayout.{FieldLayout}
use Rattle.jfr_value.specs.Values.{Value, Single, Group, Nil, Cons, parts_of, own_target, targets_of, key_of, IsBase, IsSingle}
use Rattle.jfr_value.specs.Nodes.{IsNode, node_at, target}
use Rattle.jfr_value.specs.Walks.{IsLayoutIfKnown}
use Rattle.jfr_value.proofs.ChildLaws.{base_alone, constant_alone}
use Rattle.jfr_value.proofs.FormLaws.{inline_there, key_there, text_kind}
use Rattle.jfr_value.proofs.NodeLaws.{target_is}
use Rattle.jfr_value.proofs.LayoutLaws.{layout_class}
use Rattle.jfr_value.proofs.VisitLaws.{inline_node, inline_text, key_node}

none_listed : (o : Option (ℕ × ℕ)) → [] ≡ option_to_list o → None ≡ o
none_listed None e = refl
none_listed (Some t) e = cc

-- A value without parts refers by itself to all that it refers to.
own_alone : (v : Value) (o : Option (ℕ × ℕ)) → parts_of v ≡ [] → targets_of v ≡ option_to_list o → own_target v ≡ o
own_alone (Single s kind b None) o p e = none_listed o e
own_alone (Single s kind b (Some key)) None p e = cc
own_alone (Single s kind b (Some key)) (Some t) p e = let h : (s.class, key) ≡ t = cc in ap (λ z. Some z) h
own_alone (Group s h Nil) o p e = none_listed o e
own_alone (Group s h (Cons v vs)) o p e = cc

-- Of the base names only a string has a key.
keyed_text : (kind : Kind) (b : List ℕ) (key : ℕ) → IsBase kind b (Some key) → kind ≡ kinds.Text
keyed_text kinds.Text b key i = refl
keyed_text kinds.Boolean b key i = let e = i.1 in cc
keyed_text kinds.Byte b key i = let e = i.1 in cc
keyed_text kinds.Char b key i = let e = i.2 in cc
keyed_text kinds.Short b key i = let e = i.2 in cc
keyed_text kinds.Int b key i = let e = i.2 in cc
keyed_text kinds.Long b key i = let e = i.2 in cc
keyed_text kinds.Float b key i = let e = i.1 in cc
keyed_text kinds.Double b key i = let e = i.1 in cc
keyed_text kinds.Composite b key i = absurd i

form_key : (s : Shape) (kind : Kind) → s.array ≡ false → s.constant ≡ true → form_of s kind ≡ forms.Key
form_key s kind a o = ap (λ t. if t then forms.Array else if s.constant then forms.Key else inline_form kind) a ∙ ap (λ t. if t then forms.Key else inline_form kind) o

form_inline : (s : Shape) (kind : Kind) → s.array ≡ false → s.constant ≡ false → form_of s kind ≡ inline_form kind
form_inline s kind a o = ap (λ t. if t then forms.Array else if s.constant then forms.Key else inline_form kind) a ∙ ap (λ t. if t then forms.Key else inline_form kind) o

module _ (k : Classes) (c : List ℕ) (at to : ℕ) (s : FieldLayout) (t : Shape) (v : Value) (sound : Sound k) (shape : s.shape ≡ t) (i : IsNode k c (node_at t at to) v) (form : s.form ≡ form_of s.shape s.kind) (known : IsSome (find_class k t.class) → IsFieldLayout k s) where
  here : IsNode k c (node_at s.shape at to) v
  here = subst (λ z. IsNode k c (node_at z at to) v) (sym shape) i

  if_known : IsLayoutIfKnown k s
  if_known = record { form = form; of_class = λ o f. known (subst (λ (z : Shape). IsSome (find_class k z.class)) shape f) }

  -- A reference refers to its key.
  pub key_refers : s.form ≡ forms.Key → (key : ℕ) × (int_at c at to ≡ Some (record { value = key; end = to })) × (target k c (node_at t at to) ≡ Some (t.class, key))
  key_refers e =
      let m = key_there s form e in
      let n = key_node k c at to to s.shape (omega arith) here.within v here m.0 m.1 in
      let p : parts_of v ≡ [] = constant_alone k v (ap (λ (z : Shape). z.array) (sym here.shape) ∙ m.0) (ap (λ (z : Shape). z.constant) (sym here.shape) ∙ m.1) here.fits in (
        n.key,
        n.found,
        subst (λ (z : Shape). target k c (node_at z at to) ≡ Some (z.class, n.key)) shape
            (target_is k c (node_at s.shape at to) v sound here ∙ own_alone v (Some (s.shape.class, n.key)) p n.targets),
      )

  -- A string refers to its key, if it is one.
  pub text_refers : s.form ≡ forms.Text
      → (content : Content) × (run (string_format true) c to at ≡ Ok (record { value = content; place = to })) × (target k c (node_at t at to) ≡ option_map (λ key. (t.class, key)) (key_of content))
  text_refers e =
      let m = inline_there s form forms.Text e tt in
      let x = text_kind s.kind m.form in
      let n = inline_text k c at to to s.shape (omega arith) here.within v s.class_index s.kind s.form here m.array m.constant if_known x in
      let d = inline_node k c at to to s.shape (omega arith) here.within v s.class_index s.kind s.form here m.array m.constant if_known in
      let p : parts_of v ≡ [] = base_alone k v d.class (ap (λ (z : Shape). z.array) (sym here.shape) ∙ m.array) (ap (λ (z : Shape). find_class k z.class) (sym here.shape) ∙ d.found)
      (λ z. (let y : kinds.Text ≡ kinds.Composite = sym x ∙ (d.kind_is ∙ z) in cc)) here.fits in (
        n.content,
        n.reads,
        subst (λ (z : Shape). target k c (node_at z at to) ≡ option_map (λ key. (z.class, key)) (key_of n.content)) shape
            (target_is k c (node_at s.shape at to) v sound here ∙ own_alone v (option_map (λ key. (s.shape.class, key)) (key_of n.content)) p n.targets),
      )

  -- And no other value refers to something by itself.
  pub none_refers : s.form ≢ forms.Key → s.form ≢ forms.Text → target k c (node_at t at to) ≡ None
  none_refers not_key not_text = target_is k c (node_at t at to) v sound i ∙ by_value v here
    where
      by_value : (v : Value) → IsNode k c (node_at s.shape at to) v → own_target v ≡ None
      by_value (Group u h vs) i = refl
      by_value (Single u kind b None) i = refl
      by_value (Single u kind b (Some key)) i = absurd (by_case i.fits)
        where
          by_case : IsSingle k u kind b (Some key) → ⊥
          by_case (inl q) = not_key (form ∙ form_key s.shape s.kind (ap (λ (z : Shape). z.array) i.shape ∙ q.0) (ap (λ (z : Shape). z.constant) i.shape ∙ q.1))
          by_case (inr q) =
              let o : s.shape.constant ≡ false = ap (λ (z : Shape). z.constant) i.shape ∙ q.1 in
              let f : find_class k s.shape.class ≡ Some q.2 = ap (λ (z : Shape). find_class k z.class) i.shape ∙ q.3 in
              let d = layout_class k s (if_known.of_class o (subst IsSome (sym f) refl)) in
              let g : d.class ≡ q.2 = (let x : find_class k s.shape.class ≡ Some d.class = d.found in cc) in
              let m : s.kind ≡ kinds.Text = d.kind ∙ (ap (λ (z : Class). kind_of z.name) g ∙ keyed_text (kind_of q.2.name) b key q.5) in
              not_text (form ∙ (form_inline s.shape s.kind (ap (λ (z : Shape). z.array) i.shape ∙ q.0) o ∙ ap inline_form m))
