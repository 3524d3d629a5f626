-- Which value is at an offset, by its layout; and that what is read there is the value's.
use Rattle.std.specs.Prelude.{◌≡◌, ℕ, ◌+◌, ◌-◌, ◌≤◌, ◌<◌, true, false, List, [], length, slice_range, slice_get, map, replicate, Some, None, Ok, IsSome, IsOk}
use Rattle.std.proofs.Common.{ap, arith, refl, sym, ◌∙◌, subst}
use Rattle.std.specs.List.{AllByRecursion}
use Rattle.std.specs.Option.{option_map_or}
use Rattle.jfr_base.specs.declared.integer.Var.{Var}
use Rattle.jfr_base.specs.Integer.{worth_within}
use Rattle.jfr_base.specs.Formats.{int_at, run, Got}
use Rattle.jfr_base.proofs.Ranges.{range_length}
use Rattle.jfr_text.specs.Strings.{Content, string_format}
use Rattle.jfr_text.specs.Strings as strings
use Rattle.jfr_layout.specs.Classes.{Class, Classes, find_class, inline_form, item_of, layout_with}
use Rattle.jfr_layout.specs.declared.form.Form.{Form}
use Rattle.jfr_layout.specs.declared.form.Form.TheVariants as forms
use Rattle.jfr_layout.specs.declared.kind.Kind.TheVariants as kinds
use Rattle.jfr_layout.specs.declared.field_layout.FieldLayout.{FieldLayout}
use Rattle.jfr_value.specs.declared.leaf.LeafKind.{LeafKind}
use Rattle.jfr_value.specs.declared.leaf.LeafKind.TheVariants as leaf_kinds
use Rattle.jfr_value.specs.Values.{Value, Values, Single, Group, key_of}
use Rattle.jfr_value.specs.Visits.{field_shapes}
use Rattle.jfr_value.specs.Nodes.{node_at, IsNode, AreValues}
use Rattle.jfr_value.specs.Walks.{IsLayoutIfKnown, DepthBound}
use Rattle.jfr_value.proofs.FormLaws.{IsInline, Inline, inline_there, key_there, text_kind, fields_kind}
use Rattle.jfr_value.proofs.NodeForms.{array_form, fields_form, key_form}
use Rattle.jfr_value.proofs.StackLaws.{inner_depth}
use Rattle.jfr_value.proofs.VisitLaws.{InlineNode, inline_node, depth_within}
use Rattle.jfr_show.specs.Leaves.{text_spelled}
use Rattle.jfr_show.proofs.FormLaws.{IntegerForm, RawForm, TextForm, integer_form, raw_form, text_form}

-- The shapes of the fields of the class at a place.
shapes_at : (k : Classes) (place : ℕ) (d : Class) → slice_get k place ≡ Some d → field_shapes k place ≡ map (λ f. f.shape) d.fields
shapes_at k place d e = ap (λ o. option_map_or (λ c. map (λ f. f.shape) c.fields) o []) e

module _ (k : Classes) (c : List ℕ) (at to : ℕ) (s : FieldLayout) (is : IsLayoutIfKnown k s) (v : Value) (i : IsNode k c (node_at s.shape at to) v) where
  -- A value is read up to the end of the chunk.
  abbrev end : ℕ
  end = length c

  abbrev l : to ≤ end
  l = i.within

  w : end ≤ length c
  w = omega arith

  abbrev bytes_there : List ℕ
  bytes_there = slice_range c at to

  abbrev inline : (f : Form) → s.form ≡ f → IsInline f → Inline s f
  inline f e x = inline_there s is.form f e x

  inline_layout : (f : Form) → s.form ≡ f → IsInline f → InlineNode k c at to end s.shape l w s.class_index s.kind
  inline_layout f e x = let m = inline f e x in inline_node k c at to end s.shape l w v s.class_index s.kind s.form i m.array m.constant is

  -- An integer.
  integer : s.form ≡ forms.Integer → IntegerForm k c at to end s.shape l w s.kind v
  integer e =
      let m = inline forms.Integer e tt in
      let d = inline_layout forms.Integer e tt in
      subst (λ z. IntegerForm k c at to end s.shape l w z v) (sym d.kind_is)
      (integer_form k c at to end s.shape l w v d.class i m.array m.constant d.found (ap inline_form (sym d.kind_is) ∙ sym m.form))

  pub integer_stands : s.form ≡ forms.Integer → IsSome (int_at c at end)
  integer_stands e = subst IsSome (sym (integer e).found) refl

  pub record IsInteger (n : Var) : Type 0 where
    pub ends : n.end ≡ to
    pub worth : worth_within 8 bytes_there ≡ n.value
    pub value : v ≡ Single s.shape (leaf_kinds.Base s.kind) bytes_there None

  pub is_integer : s.form ≡ forms.Integer → (n : Var) → int_at c at end ≡ Some n → IsInteger n
  is_integer e n r =
      let f = integer e in
      let q : record { value = f.number; end = to } ≡ n = (let x : int_at c at end ≡ Some (record { value = f.number; end = to }) = f.found in cc) in
      record { ends = ap (λ (z : Var). z.end) (sym q); worth = f.worth ∙ ap (λ (z : Var). z.value) q; value = f.value }

  -- So many bytes.
  raw : (n : ℕ) → s.form ≡ forms.Raw n → RawForm k c at to end s.shape l w s.kind n v
  raw n e =
      let m = inline (forms.Raw n) e tt in
      let d = inline_layout (forms.Raw n) e tt in
      subst (λ z. RawForm k c at to end s.shape l w z n v) (sym d.kind_is) (raw_form k c at to end s.shape l w v d.class n i m.array m.constant d.found (ap inline_form (sym d.kind_is) ∙ sym m.form))

  pub record IsRaw (n : ℕ) : Type 0 where
    pub ends : at + n ≡ to
    pub count : length bytes_there ≡ n
    pub value : v ≡ Single s.shape (leaf_kinds.Base s.kind) bytes_there None

  pub is_raw : (n : ℕ) → s.form ≡ forms.Raw n → IsRaw n
  is_raw n e =
      let r = raw n e in
      let x = range_length c at to i.within in
      let y = r.count in
      let o = i.order in
      record { ends = omega arith; count = r.count; value = r.value }

  -- A reference.
  pub key_stands : s.form ≡ forms.Key → IsSome (int_at c at end)
  key_stands e = let m = key_there s is.form e in subst IsSome (sym (key_form k c at to s.shape end l w v i m.0 m.1).found) refl

  pub record IsReference (n : Var) : Type 0 where
    pub ends : n.end ≡ to
    pub kind : LeafKind
    pub bytes : List ℕ
    pub value : v ≡ Single s.shape kind bytes (Some n.value)

  pub is_reference : s.form ≡ forms.Key → (n : Var) → int_at c at end ≡ Some n → IsReference n
  is_reference e n r =
      let m = key_there s is.form e in
      let f = key_form k c at to s.shape end l w v i m.0 m.1 in
      let q : record { value = f.key; end = to } ≡ n = (let x : int_at c at end ≡ Some (record { value = f.key; end = to }) = f.found in cc) in
      record {
        ends = ap (λ (z : Var). z.end) (sym q);
        kind = leaf_kinds.Key f.key;
        bytes = bytes_there;
        value = f.value
            ∙ ap (λ (z : Var). Single s.shape (leaf_kinds.Key f.key) bytes_there (Some z.value)) q;
      }

  -- A string.
  text : s.form ≡ forms.Text → TextForm k c at to end s.shape l w v
  text e =
      let m = inline forms.Text e tt in
      let d = inline_layout forms.Text e tt in
      text_form k c at to end s.shape l w v d.class i m.array m.constant d.found (sym d.kind_is ∙ text_kind s.kind m.form)

  pub text_stands : s.form ≡ forms.Text → IsOk (run (string_format true) c end at)
  text_stands e = subst IsOk (sym (text e).reads) refl

  pub record IsText (content : Content) (ended : ℕ) : Type 0 where
    pub ends : ended ≡ to
    pub value : v ≡ Single s.shape (leaf_kinds.Base kinds.Text) bytes_there (key_of content)
    pub text : text_spelled bytes_there ≡ strings.text_of content

  pub is_text : s.form ≡ forms.Text → (content : Content) (ended : ℕ) → run (string_format true) c end at ≡ Ok (record { value = content; place = ended }) → IsText content ended
  is_text e content ended r =
      let f = text e in
      let g : Got Content = record { value = f.content; place = to } in
      let h : Got Content = record { value = content; place = ended } in
      let q : g ≡ h = (let x : run (string_format true) c end at ≡ Ok g = f.reads in cc) in
      let same : f.content ≡ content = ap (λ (z : Got Content). z.value) q in
      record {
        ends = ap (λ (z : Got Content). z.place) (sym q);
        value = f.value ∙ ap (λ z. Single s.shape (leaf_kinds.Base kinds.Text) bytes_there (key_of z)) same;
        text = f.text
            ∙ ap strings.text_of same;
      }

  -- A composite value: the class, and its fields.
  pub record IsComposite : Type 0 where
    pub array : s.shape.array ≡ false
    pub class : Class
    pub found : find_class k s.shape.class ≡ Some class
    pub there : slice_get k s.class_index ≡ Some class
    pub placed : s.class_index < length k
    pub parts : Values
    pub row : AreValues k c at to (field_shapes k s.class_index) parts
    pub value : v ≡ Group s.shape [] parts

  pub is_composite : s.form ≡ forms.Fields → IsComposite
  is_composite e =
      let m = inline forms.Fields e tt in
      let d = inline_layout forms.Fields e tt in
      let f = fields_form k c at to s.shape v d.class i m.array m.constant d.found (sym d.kind_is ∙ fields_kind s.kind m.form) in
      record {
        array = m.array;
        class = d.class;
        found = d.found;
        there = d.there;
        placed = d.within;
        parts = f.parts;
        row = subst (λ z. AreValues k c at to z f.parts) (sym (shapes_at k s.class_index d.class d.there)) f.row;
        value = f.value;
      }

  -- And the room for the fields.
  pub composite_depth : s.form ≡ forms.Fields → (levels : ℕ) → DepthBound k levels s.shape → (1 ≤ levels) × AllByRecursion (DepthBound k (levels - 1)) (field_shapes k s.class_index)
  composite_depth e levels r =
      let m = inline forms.Fields e tt in
      let d = inline_layout forms.Fields e tt in
      let q = fields_kind s.kind m.form in
      ((inner_depth k levels s.shape d.class r m.constant d.found (sym d.kind_is ∙ q)).0, depth_within k c at to end s.shape l w s.class_index s.kind levels d q m.constant r)

  -- An array: the items after its count.
  pub array_stands : s.shape.array ≡ true → IsSome (int_at c at end)
  array_stands a = subst IsSome (sym (array_form k c at to s.shape end l w v i a).found) refl

  pub record IsArray (n : Var) : Type 0 where
    pub head : List ℕ
    pub parts : Values
    pub row : AreValues k c n.end to (replicate n.value (item_of s.shape)) parts
    pub value : v ≡ Group s.shape head parts

  pub is_array : s.shape.array ≡ true → (n : Var) → int_at c at end ≡ Some n → IsArray n
  is_array a n r =
      let f = array_form k c at to s.shape end l w v i a in
      let q : f.count ≡ n = (let x : int_at c at end ≡ Some f.count = f.found in cc) in
      record { head = f.head; parts = f.parts; row = subst (λ (z : Var). AreValues k c z.end to (replicate z.value (item_of s.shape)) f.parts) q f.row; value = f.value }

-- The layout of an array's items is known if the array's is.
pub item_known : (k : Classes) (s t : FieldLayout) → IsLayoutIfKnown k s → t ≡ layout_with (item_of s.shape) s.class_index s.kind → IsLayoutIfKnown k t
item_known k s t is e = subst (λ (z : FieldLayout). IsLayoutIfKnown k z) (sym e)
    (record { form = refl; of_class = λ o h. (let q = is.of_class o h in record { class_index = q.class_index; kind = q.kind; form = refl }) })
