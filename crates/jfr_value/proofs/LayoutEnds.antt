-- Where a value of a layout ends, and what is taken of it, by the layout's form.
use Rattle.std.specs.Prelude.{◌≡◌, ◌≢◌, ℕ, ◌+◌, ◌-◌, ◌≤◌, Bool, true, false, List, [], ◌∷◌, map, slice_get, Some, length, IfOk, IfSome, if◌then◌else◌}
use Rattle.std.specs.List.{AllByRecursion}
use Rattle.std.proofs.Common.{ap, arith, subst, sym, ◌∙◌}
use Rattle.jfr_base.specs.Formats.{Answer, Format, Done, Int, for_each, run, end_or_flaw, unchecked}
use Rattle.jfr_layout.specs.Classes.{AreFieldLayouts, Classes, Field, IsFieldLayout, item_of}
use Rattle.jfr_layout.specs.declared.form.Form.{Form}
use Rattle.jfr_layout.specs.declared.form.Form.TheVariants as forms
use Rattle.jfr_layout.specs.declared.kind.Kind.TheVariants as kinds
use Rattle.jfr_layout.specs.declared.shape.Shape.{Shape}
use Rattle.jfr_layout.specs.declared.field_layout.FieldLayout.{FieldLayout}
use Rattle.jfr_text.specs.Strings.{string_format}
use Rattle.jfr_value.specs.declared.leaf.KeyAt.{KeyAt}
use Rattle.jfr_value.specs.declared.leaf.LeafKind.TheVariants as leaf_kinds
use Rattle.jfr_value.specs.Leaves.{key_between}
use Rattle.jfr_value.specs.Values.{IsLayoutOrKey, Value, Single, key_of}
use Rattle.jfr_value.specs.Reading.{base_format, class_format, shape_format}
use Rattle.jfr_value.specs.Visits.{TakesAll, TakesRead, TakesReadAll}
use Rattle.jfr_value.specs.Walks.{DepthBound}
use Rattle.jfr_value.proofs.EndLaws.{shape_item, layout_base, layout_fields}
use Rattle.jfr_value.proofs.FormLaws.{Inline, fields_kind, inline_there, other_kind, text_kind}
use Rattle.jfr_value.proofs.LayoutLaws.{layout_class}
use Rattle.jfr_value.proofs.StackLaws.{inner_depth}
use Rattle.jfr_value.proofs.TakingLaws.{fields_taken, item_taken, string_taken}

-- An inline value by its class.
abbrev item : (Shape → Format Value) → Shape → Bool → Format Value
item inline s t = if t then Int unchecked (λ key b. Done (Single (item_of s) (leaf_kinds.Key key) b (Some key))) else inline (item_of s)

inline_ends : (inline : Shape → Format Value) (s : Shape) (x : List ℕ) (end at : ℕ) → s.array ≡ false → s.constant ≡ false
    → end_or_flaw (run (inline (item_of s)) x end at) ≡ end_or_flaw (run (shape_format inline s) x end at)
inline_ends inline s x end at a o = ap (λ t. end_or_flaw (run (item inline s t) x end at)) (sym o) ∙ sym (shape_item inline s x end at a)

module _ (k : Classes) (s : FieldLayout) (levels : ℕ) (x : List ℕ) (end at : ℕ) (p : IsLayoutOrKey k s) where
  abbrev reading : Answer Value
  reading = run (shape_format (class_format (levels + 1) k) s.shape) x end at

  pub base_ends : (f : Form) → Inline s f → f ≢ forms.Fields → end_or_flaw (run (base_format s.kind) x end at) ≡ end_or_flaw reading
  base_ends f i n =
      sym (layout_base (levels + 1) k s x end at (omega arith) (p.of_class i.constant) (other_kind f s.kind kinds.Composite i.form n))
      ∙ inline_ends (class_format (levels + 1) k) s.shape x end at i.array i.constant

  pub text_ends : s.form ≡ forms.Text → end_or_flaw (run (base_format kinds.Text) x end at) ≡ end_or_flaw reading
  text_ends e =
      let i = inline_there s p.form forms.Text e tt in
      ap (λ kind. end_or_flaw (run (base_format kind) x end at)) (sym (text_kind s.kind i.form)) ∙ base_ends forms.Text i (λ q. cc)

  -- The class of a layout of inline fields.
  pub record FieldsThere : Type 0 where
    pub of_class : IsFieldLayout k s
    pub array : s.shape.array ≡ false
    pub constant : s.shape.constant ≡ false
    pub composite : s.kind ≡ kinds.Composite

  pub fields_there : s.form ≡ forms.Fields → FieldsThere
  fields_there e =
      let i = inline_there s p.form forms.Fields e tt in
      record { of_class = p.of_class i.constant; array = i.array; constant = i.constant; composite = fields_kind s.kind i.form }

  -- There is an inline step less for its fields.
  pub depth_remains : s.form ≡ forms.Fields → DepthBound k levels s.shape → 1 ≤ levels
  depth_remains e r =
      let f = fields_there e in
      let c = layout_class k s f.of_class in
      (inner_depth k levels s.shape c.class r f.constant c.found (sym c.kind ∙ f.composite)).0

  pub fields_end : (ss : List FieldLayout) → s.form ≡ forms.Fields → DepthBound k levels s.shape → IfSome (slice_get k s.class_index) (λ c. AreFieldLayouts k c.fields ss)
      → end_or_flaw (run (for_each ss (λ z. shape_format (class_format (levels - 1 + 1) k) z.shape)) x end at) ≡ end_or_flaw reading
  fields_end ss e r a =
      let f = fields_there e in
      let l : 1 ≤ levels = depth_remains e r in
      let m : levels - 1 + 1 ≡ levels + 1 - 1 = omega arith in
      ap (λ n. end_or_flaw (run (for_each ss (λ z. shape_format (class_format n k) z.shape)) x end at)) m
      ∙ (sym (layout_fields (levels + 1) k s ss x end at (omega arith) f.of_class f.composite a)
      ∙ inline_ends (class_format (levels + 1) k) s.shape x end at f.array f.constant)

  module _ {A : Type 0} (takes : KeyAt → A → A → Type 0) (old new : A) (order : at ≤ end) (within : end ≤ length x) where
    pub inline_taken : s.shape.array ≡ false → s.shape.constant ≡ false → TakesRead takes at (run (class_format (levels + 1) k (item_of s.shape)) x end at) old new → TakesRead takes at reading old new
    inline_taken a o h =
        item_taken takes x end at order within (class_format (levels + 1) k) s.shape old new a
        (subst (λ t. TakesRead takes at (run (item (class_format (levels + 1) k) s.shape t) x end at) old new) (sym o) h)

    pub text_taken : s.form ≡ forms.Text → IfOk (run (string_format true) x end at) (λ got. TakesAll takes (key_between s.shape.class (at + 1) got.place (key_of got.value)) old new)
        → TakesRead takes at reading old new
    text_taken e h =
        let i = inline_there s p.form forms.Text e tt in
        inline_taken i.array i.constant (string_taken takes x end at order within (levels + 1) k s old new (omega arith) (p.of_class i.constant) (text_kind s.kind i.form) h)

    pub fields_go : (ss : List FieldLayout) → s.form ≡ forms.Fields → DepthBound k levels s.shape → IfSome (slice_get k s.class_index) (λ c. AreFieldLayouts k c.fields ss)
        → TakesReadAll takes at (run (for_each ss (λ z. shape_format (class_format (levels - 1 + 1) k) z.shape)) x end at) old new → TakesRead takes at reading old new
    fields_go ss e r a h =
        let f = fields_there e in
        let l : 1 ≤ levels = depth_remains e r in
        let m : levels - 1 + 1 ≡ levels + 1 - 1 = omega arith in
        inline_taken f.array f.constant (fields_taken takes x end at order within (levels + 1) k s ss old new (omega arith) f.of_class f.composite a
        (subst (λ n. TakesReadAll takes at (run (for_each ss (λ z. shape_format (class_format n k) z.shape)) x end at) old new) m h))

-- The room for each field of a layout's class.
depth_of_each : (k : Classes) (levels : ℕ) (fs : List Field) (ss : List FieldLayout) → map (λ s. s.shape) ss ≡ map (λ f. f.shape) fs → AllByRecursion (λ f. DepthBound k levels f.shape) fs
    → AllByRecursion (λ s. DepthBound k levels s.shape) ss
depth_of_each k levels fs [] e a = tt
depth_of_each k levels [] (s ∷ ss) e a = cc
depth_of_each k levels (f ∷ fs) (s ∷ ss) e a =
    let q : f.shape ≡ s.shape = (let z : s.shape ∷ map (λ s. s.shape) ss ≡ f.shape ∷ map (λ f. f.shape) fs = e in cc) in
    let r : map (λ s. s.shape) ss ≡ map (λ f. f.shape) fs = (let z : s.shape ∷ map (λ s. s.shape) ss ≡ f.shape ∷ map (λ f. f.shape) fs = e in cc) in
    (subst (DepthBound k levels) q a.0, depth_of_each k levels fs ss r a.1)

pub depth_within : (k : Classes) (s : FieldLayout) (levels : ℕ) (ss : List FieldLayout) → IsLayoutOrKey k s → s.form ≡ forms.Fields → DepthBound k levels s.shape
    → IfSome (slice_get k s.class_index) (λ c. AreFieldLayouts k c.fields ss)
    → AllByRecursion (λ z. DepthBound k (levels - 1) z.shape) ss
depth_within k s levels ss p e r a =
    let i = inline_there s p.form forms.Fields e tt in
    let c = layout_class k s (p.of_class i.constant) in
    depth_of_each k (levels - 1) c.class.fields ss (subst (λ o. IfSome o (λ c. AreFieldLayouts k c.fields ss)) c.there a).shapes
    (inner_depth k levels s.shape c.class r i.constant c.found (sym c.kind ∙ fields_kind s.kind i.form)).1
