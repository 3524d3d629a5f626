-- The text of the value at an offset, by what was read there.
use Rattle.std.specs.Prelude.{◌≡◌, ◌≢◌, ℕ, ◌+◌, true, false, List, [], ◌++◌, length, codes, Some, None, Ok, slice_range, if◌then◌else◌}
use Rattle.std.specs.Option.{option_map_or}
use Rattle.std.proofs.Common.{ap, refl, sym, ◌∙◌}
use Rattle.jfr_base.specs.declared.integer.Var.{Var}
use Rattle.jfr_base.specs.Integer.{worth_within}
use Rattle.jfr_base.specs.Formats.{int_at, run}
use Rattle.jfr_text.specs.Strings.{string_format}
use Rattle.jfr_text.specs.Strings as strings
use Rattle.jfr_text.specs.Spans.{content_of, content_by}
use Rattle.jfr_text.specs.declared.span.StringSpan.{StringSpan}
use Rattle.jfr_text.specs.declared.span.StringKind.{StringKind}
use Rattle.jfr_text.specs.declared.span.StringKind.TheVariants as span_kinds
use Rattle.jfr_layout.specs.Classes.{Class, Classes, find_class}
use Rattle.jfr_layout.specs.declared.form.Form.TheVariants as forms
use Rattle.jfr_layout.specs.declared.field_layout.FieldLayout.{FieldLayout}
use Rattle.jfr_layout.specs.declared.shape.Shape.{Shape}
use Rattle.jfr_value.specs.declared.leaf.LeafKind.TheVariants as leaf_kinds
use Rattle.jfr_layout.specs.declared.kind.Kind.TheVariants as kinds
use Rattle.jfr_value.specs.Values.{Value, Values, Single, Group, key_of}
use Rattle.jfr_value.specs.Nodes.{node_at, IsNode}
use Rattle.jfr_value.specs.Walks.{IsLayoutIfKnown}
use Rattle.jfr_show.specs.Leaves.{base_shown}
use Rattle.jfr_show.specs.Shown.{shown, shown_all, fields_shown, items_shown}
use Rattle.jfr_show.specs.Texts.{quoted}
use Rattle.jfr_show.proofs.LayoutForms.{is_integer, is_raw, is_reference, is_text}

-- A string is a key exactly if its span is of that kind.
pub key_in : (s : StringSpan) → s.kind ≡ span_kinds.Key → key_of (content_of s) ≡ Some s.key
key_in s e = ap (λ z. key_of (content_by z s)) e

pub no_key : (s : StringSpan) → s.kind ≢ span_kinds.Key → key_of (content_of s) ≡ None
no_key s n = by_kind s.kind n
  where
    by_kind : (kind : StringKind) → kind ≢ span_kinds.Key → key_of (content_by kind s) ≡ None
    by_kind span_kinds.Null n = refl
    by_kind span_kinds.Empty n = refl
    by_kind span_kinds.Key n = absurd (n refl)
    by_kind span_kinds.Utf8 n = refl
    by_kind span_kinds.Units n = refl
    by_kind span_kinds.Latin n = refl

-- A composite value and an array, by their parts.
module _ (k : Classes) (refer : ℕ → ℕ × ℕ → List ℕ) (level : ℕ) where
  pub composite_shown : (s : Shape) (head : List ℕ) (parts : Values) (v : Value) (d : Class) → v ≡ Group s head parts → s.array ≡ false → find_class k s.class ≡ Some d
      → shown k refer level v ≡ fields_shown level d (shown_all k refer (level + 1) parts)
  composite_shown s head parts v d e a f =
      let texts : List (List ℕ) = shown_all k refer (level + 1) parts in
      ap (shown k refer level) e ∙ (ap (λ z. if z then items_shown level texts else option_map_or (λ c. fields_shown level c texts) (find_class k s.class) []) a
      ∙ ap (λ z. option_map_or (λ c. fields_shown level c texts) z []) f)

  pub array_shown : (s : Shape) (head : List ℕ) (parts : Values) (v : Value) → v ≡ Group s head parts → s.array ≡ true → shown k refer level v ≡ items_shown level (shown_all k refer (level + 1) parts)
  array_shown s head parts v e a =
      let texts : List (List ℕ) = shown_all k refer (level + 1) parts in
      ap (shown k refer level) e ∙ ap (λ z. if z then items_shown level texts else option_map_or (λ c. fields_shown level c texts) (find_class k s.class) []) a

-- What was added for the value of a layout.
module _ (k : Classes) (refer : ℕ → ℕ × ℕ → List ℕ) (level : ℕ) (c : List ℕ) (at to : ℕ) (s : FieldLayout) (is : IsLayoutIfKnown k s) (v : Value) (i : IsNode k c (node_at s.shape at to) v) (was new : List ℕ) where
  -- It ends there, and its text was added.
  abbrev pub IsShown : ℕ → Type 0
  IsShown ended = (ended ≡ to) × (new ≡ was ++ shown k refer level v)

  as_text : (text : List ℕ) → shown k refer level v ≡ text → new ≡ was ++ text → new ≡ was ++ shown k refer level v
  as_text text e h = h ∙ ap (λ z. was ++ z) (sym e)

  pub integer_shown : s.form ≡ forms.Integer → (n : Var) → int_at c at (length c) ≡ Some n → ((bytes : List ℕ) → worth_within 8 bytes ≡ n.value → new ≡ was ++ base_shown s.kind bytes) → IsShown n.end
  integer_shown e n r h =
      let f = is_integer k c at to s is v i e n r in
      (f.ends, as_text (base_shown s.kind (slice_range c at to)) (ap (shown k refer level) f.value) (h (slice_range c at to) f.worth))

  pub raw_shown : (n : ℕ) → s.form ≡ forms.Raw n → (bytes : List ℕ) → bytes ≡ slice_range c at (at + n) → new ≡ was ++ base_shown s.kind bytes → IsShown (at + n)
  raw_shown n e bytes b h =
      let f = is_raw k c at to s is v i n e in
      let there : bytes ≡ slice_range c at to = b ∙ ap (λ z. slice_range c at z) f.ends in
      (f.ends, as_text (base_shown s.kind bytes) (ap (shown k refer level) f.value ∙ ap (base_shown s.kind) (sym there)) h)

  pub reference_shown : s.form ≡ forms.Key → (n : Var) → int_at c at (length c) ≡ Some n → new ≡ was ++ refer level (s.shape.class, n.value) → IsShown n.end
  reference_shown e n r h =
      let f = is_reference k c at to s is v i e n r in
      (f.ends, as_text (refer level (s.shape.class, n.value)) (ap (shown k refer level) f.value) h)

  pub key_shown : s.form ≡ forms.Text → (span : StringSpan) → run (string_format true) c (length c) at ≡ Ok (record { value = content_of span; place = span.end }) → span.kind ≡ span_kinds.Key
      → new ≡ was ++ refer level (s.shape.class, span.key) → IsShown span.end
  key_shown e span r q h =
      let f = is_text k c at to s is v i e (content_of span) span.end r in (
        f.ends,
        as_text (refer level (s.shape.class, span.key))
            (ap (shown k refer level) f.value ∙ ap (λ z. shown k refer level (Single s.shape (leaf_kinds.Base kinds.Text) (slice_range c at to) z)) (key_in span q)) h,
      )

  pub string_shown : s.form ≡ forms.Text → (span : StringSpan) → run (string_format true) c (length c) at ≡ Ok (record { value = content_of span; place = span.end }) → span.kind ≢ span_kinds.Key
      → new ≡ was ++ option_map_or quoted (strings.text_of (content_of span)) (codes "null") → IsShown span.end
  string_shown e span r q h =
      let f = is_text k c at to s is v i e (content_of span) span.end r in (
        f.ends,
        as_text (option_map_or quoted (strings.text_of (content_of span)) (codes "null"))
            (ap (shown k refer level) f.value ∙ (ap (λ z. shown k refer level (Single s.shape (leaf_kinds.Base kinds.Text) (slice_range c at to) z)) (no_key span q)
            ∙ ap (λ z. option_map_or quoted z (codes "null")) f.text)) h,
      )
