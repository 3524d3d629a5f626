-- Which value is at an offset, for each shape and class.
use Rattle.std.specs.Prelude.{◌≡◌, ℕ, ◌-◌, ◌≤◌, true, false, List, length, slice_range, Option, Some, None, Ok, option_and_then}
use Rattle.std.proofs.Common.{ap, arith, refl, sym, ◌∙◌, subst}
use Rattle.std.proofs.lemmas.List.{take_all}
use Rattle.jfr_base.specs.Integer.{Spells, worth_within}
use Rattle.jfr_base.specs.Formats.{int_at, run}
use Rattle.jfr_base.proofs.OneAnswer.{int_computed}
use Rattle.jfr_base.proofs.RunLaws.{Stands, exact_run}
use Rattle.jfr_text.specs.Strings.{Content, IsString, string_format}
use Rattle.jfr_text.specs.Strings as strings
use Rattle.jfr_layout.specs.Classes.{Class, Classes, find_class, inline_form, kind_of}
use Rattle.jfr_layout.specs.declared.form.Form.TheVariants as forms
use Rattle.jfr_layout.specs.declared.kind.Kind.{Kind}
use Rattle.jfr_layout.specs.declared.kind.Kind.TheVariants as kinds
use Rattle.jfr_layout.specs.declared.shape.Shape.{Shape}
use Rattle.jfr_value.specs.declared.leaf.LeafKind.TheVariants as leaf_kinds
use Rattle.jfr_value.specs.Values.{Value, Single, key_of, IsBase}
use Rattle.jfr_value.specs.Nodes.{node_at, IsNode}
use Rattle.jfr_value.proofs.NodeForms.{BaseForm, base_form}
use Rattle.jfr_value.proofs.StringLaws.{is_exact}
use Rattle.jfr_chunk.specs.Paths.{content_in}
use Rattle.jfr_show.specs.Leaves.{text_spelled}

-- What the form of a kind says of its bytes.
integer_base : (kind : Kind) (b : List ℕ) (key : Option ℕ) → inline_form kind ≡ forms.Integer → IsBase kind b key → (v : ℕ) × Spells b v × (key ≡ None)
integer_base kinds.Char b key e i = i
integer_base kinds.Short b key e i = i
integer_base kinds.Int b key e i = i
integer_base kinds.Long b key e i = i
integer_base kinds.Boolean b key e i = cc
integer_base kinds.Byte b key e i = cc
integer_base kinds.Float b key e i = cc
integer_base kinds.Double b key e i = cc
integer_base kinds.Text b key e i = cc
integer_base kinds.Composite b key e i = cc

raw_base : (kind : Kind) (n : ℕ) (b : List ℕ) (key : Option ℕ) → inline_form kind ≡ forms.Raw n → IsBase kind b key → (length b ≡ n) × (key ≡ None)
raw_base kinds.Boolean n b key e i = let q : 1 ≡ n = cc in (i.0 ∙ q, i.1)
raw_base kinds.Byte n b key e i = let q : 1 ≡ n = cc in (i.0 ∙ q, i.1)
raw_base kinds.Float n b key e i = let q : 4 ≡ n = cc in (i.0 ∙ q, i.1)
raw_base kinds.Double n b key e i = let q : 8 ≡ n = cc in (i.0 ∙ q, i.1)
raw_base kinds.Char n b key e i = cc
raw_base kinds.Short n b key e i = cc
raw_base kinds.Int n b key e i = cc
raw_base kinds.Long n b key e i = cc
raw_base kinds.Text n b key e i = cc
raw_base kinds.Composite n b key e i = cc

-- The text of bytes that spell a string.
whole_range : (b : List ℕ) → slice_range b 0 (length b) ≡ b
whole_range b = take_all (length b - 0) b (omega arith)

spelled_text : (b : List ℕ) (s : Content) → IsString b s → text_spelled b ≡ strings.text_of s
spelled_text b s i =
    let h : Stands b 0 (length b) b = record { order = omega arith; within = omega arith; bytes = whole_range b } in
    ap (λ a. option_and_then strings.text_of (content_in a)) (exact_run b (length b) (omega arith) (string_format true) 0 (length b) b s (is_exact b s i) h (omega arith))

module _ (k : Classes) (c : List ℕ) (at to end : ℕ) (s : Shape) (l : to ≤ end) (w : end ≤ length c) where
  spells_at : (b : List ℕ) (n : ℕ) → slice_range c at to ≡ b → Spells b n → at ≤ to → to ≤ length c → int_at c at end ≡ Some (record { value = n; end = to })
  spells_at b n e p o i = int_computed c at end to n (omega arith) w (record { order = o; within = i; spelled = subst (λ z. Spells z n) (sym e) p }) l

  abbrev bytes_there : List ℕ
  bytes_there = slice_range c at to

  -- An integer.
  pub record IntegerForm (kind : Kind) (v : Value) : Type 0 where
    pub number : ℕ
    pub found : int_at c at end ≡ Some (record { value = number; end = to })
    pub worth : worth_within 8 bytes_there ≡ number
    pub value : v ≡ Single s (leaf_kinds.Base kind) bytes_there None

  pub integer_form : (v : Value) (d : Class) → IsNode k c (node_at s at to) v → s.array ≡ false → s.constant ≡ false → find_class k s.class ≡ Some d → inline_form (kind_of d.name) ≡ forms.Integer
      → IntegerForm (kind_of d.name) v
  integer_form v d i a o q f =
      let n = base_form k c at to s v d i a o q (λ m. (let z : inline_form (kind_of d.name) ≡ forms.Fields = ap inline_form m in cc)) in
      let b = integer_base (kind_of d.name) bytes_there n.key f n.is in
      record {
        number = b.0;
        found = spells_at bytes_there b.0 refl b.1 i.order i.within;
        worth = sym b.1.worth;
        value = n.value
            ∙ ap (λ z. Single s (leaf_kinds.Base (kind_of d.name)) bytes_there z) b.2;
      }

  -- So many bytes.
  pub record RawForm (kind : Kind) (n : ℕ) (v : Value) : Type 0 where
    pub count : length bytes_there ≡ n
    pub value : v ≡ Single s (leaf_kinds.Base kind) bytes_there None

  pub raw_form : (v : Value) (d : Class) (n : ℕ) → IsNode k c (node_at s at to) v → s.array ≡ false → s.constant ≡ false → find_class k s.class ≡ Some d → inline_form (kind_of d.name) ≡ forms.Raw n
      → RawForm (kind_of d.name) n v
  raw_form v d m i a o q f =
      let n = base_form k c at to s v d i a o q (λ m. (let z : inline_form (kind_of d.name) ≡ forms.Fields = ap inline_form m in cc)) in
      let b = raw_base (kind_of d.name) m bytes_there n.key f n.is in
      record { count = b.0; value = n.value ∙ ap (λ z. Single s (leaf_kinds.Base (kind_of d.name)) bytes_there z) b.1 }

  -- A string: it is read there, and its text follows from its own bytes.
  pub record TextForm (v : Value) : Type 0 where
    pub content : Content
    pub reads : run (string_format true) c end at ≡ Ok (record { value = content; place = to })
    pub value : v ≡ Single s (leaf_kinds.Base kinds.Text) bytes_there (key_of content)
    pub text : text_spelled bytes_there ≡ strings.text_of content

  text_by_kind : (v : Value) (kind : Kind) → BaseForm k c at to s kind v → kind ≡ kinds.Text → TextForm v
  text_by_kind v kind n x =
      let i = subst (λ z. IsBase z bytes_there n.key) x n.is in
      record {
        content = i.0;
        reads = exact_run c end w (string_format true) at to bytes_there i.0 (is_exact bytes_there i.0 i.1) n.holds l;
        value = n.value ∙ (ap (λ z. Single s (leaf_kinds.Base z) bytes_there n.key) x ∙ ap (λ z. Single s (leaf_kinds.Base kinds.Text) bytes_there z) i.2);
        text = spelled_text bytes_there i.0 i.1;
      }

  pub text_form : (v : Value) (d : Class) → IsNode k c (node_at s at to) v → s.array ≡ false → s.constant ≡ false → find_class k s.class ≡ Some d → kind_of d.name ≡ kinds.Text → TextForm v
  text_form v d i a o q x = text_by_kind v (kind_of d.name) (base_form k c at to s v d i a o q (λ m. (let z : kinds.Text ≡ kinds.Composite = sym x ∙ m in cc))) x
