-- The JSON of the value at an offset, by what was read there, and of one item more.
use Rattle.std.specs.Prelude.{◌≡◌, ◌≢◌, ℕ, zero, suc, ◌+◌, Bool, true, false, List, [], ◌∷◌, ◌++◌, length, codes, decimal, Some, None, Ok, slice_range, is_some, if◌then◌else◌}
use Rattle.std.specs.Option.{option_map_or}
use Rattle.std.specs.Str.{chars}
use Rattle.std.proofs.Common.{ap, refl, sym, ◌∙◌}
use Rattle.std.proofs.lemmas.List.{append_assoc}
use Rattle.serde_json.specs.Data.{Data, null, array, object, no_members}
use Rattle.serde_json.specs.View.{items_of}
use Rattle.serde_json.specs.Written.{comma_if, compact_text, items_text}
use Rattle.serde_json.proofs.OnLiterals.{serde_json_on_literals}
use Rattle.jfr_base.specs.declared.integer.Var.{Var}
use Rattle.jfr_base.specs.Integer.{worth_within}
use Rattle.jfr_base.specs.Formats.{int_at, run}
use Rattle.jfr_text.specs.Strings.{string_format}
use Rattle.jfr_text.specs.Strings as strings
use Rattle.jfr_text.specs.Spans.{content_of}
use Rattle.jfr_text.specs.declared.span.StringSpan.{StringSpan}
use Rattle.jfr_text.specs.declared.span.StringKind.TheVariants as span_kinds
use Rattle.jfr_layout.specs.Classes.{Class, Classes, Sound, find_class}
use Rattle.jfr_layout.specs.declared.form.Form.TheVariants as forms
use Rattle.jfr_layout.specs.declared.kind.Kind.TheVariants as kinds
use Rattle.jfr_layout.specs.declared.shape.Shape.{Shape}
use Rattle.jfr_layout.specs.declared.field_layout.FieldLayout.{FieldLayout}
use Rattle.jfr_value.specs.declared.leaf.LeafKind.TheVariants as leaf_kinds
use Rattle.jfr_value.specs.Values.{Value, Values, Single, Group, Cons}
use Rattle.jfr_value.specs.Nodes.{NodeAt, node_at, IsNode}
use Rattle.jfr_value.specs.Walks.{IsLayoutIfKnown}
use Rattle.jfr_value.proofs.NodeLaws.{value_is}
use Rattle.jfr_pool.specs.declared.entry.EntryAt.{EntryAt}
use Rattle.jfr_pool.specs.Entries.{in_force, entry_node}
use Rattle.jfr_chunk.specs.Parts.{Parts}
use Rattle.jfr_show.specs.Json.{text_json, base_json, members_with, json_of, json_of_all, node_json, reference_json, missing_json, referred_json, event_data, event_json}
use Rattle.jfr_show.specs.Names.{class_name}
use Rattle.jfr_show.specs.Texts.{newline}
use Rattle.jfr_show.proofs.ShownLaws.{key_in, no_key}
use Rattle.jfr_show.proofs.LayoutForms.{is_integer, is_raw, is_reference, is_text}

module _ (k : Classes) (refer : ℕ × ℕ → Data) where
  -- A composite value and an array, by their parts.
  pub composite_json : (s : Shape) (head : List ℕ) (parts : Values) (v : Value) (d : Class) → v ≡ Group s head parts → s.array ≡ false → find_class k s.class ≡ Some d
      → json_of k refer v ≡ object (members_with no_members d.fields (json_of_all k refer parts))
  composite_json s head parts v d e a f =
      let ds : List Data = json_of_all k refer parts in
      ap (json_of k refer) e ∙ (ap (λ z. if z then array (items_of ds) else option_map_or (λ c. object (members_with no_members c.fields ds)) (find_class k s.class) null) a
      ∙ ap (λ z. option_map_or (λ c. object (members_with no_members c.fields ds)) z null) f)

  pub array_json : (s : Shape) (head : List ℕ) (parts : Values) (v : Value) → v ≡ Group s head parts → s.array ≡ true → json_of k refer v ≡ array (items_of (json_of_all k refer parts))
  array_json s head parts v e a =
      let ds : List Data = json_of_all k refer parts in
      ap (json_of k refer) e ∙ ap (λ z. if z then array (items_of ds) else option_map_or (λ c. object (members_with no_members c.fields ds)) (find_class k s.class) null) a

  -- A text with more items, and what closes it.
  abbrev pub onto_items : Bool → List ℕ → Values → List ℕ
  onto_items later made vs = made ++ items_text later (items_of (json_of_all k refer vs))

  item_group : (made c t r : List ℕ) → made ++ (c ++ (t ++ r)) ≡ ((made ++ c) ++ t) ++ r
  item_group made c t r = simp append_assoc

  pub one_item : (later : Bool) (made spaced new : List ℕ) (v : Value) (vs : Values) → spaced ≡ made ++ comma_if later → new ≡ spaced ++ compact_text (json_of k refer v)
      → onto_items later made (Cons v vs) ≡ onto_items true new vs
  one_item later made spaced new v vs s n =
      let rest = items_text true (items_of (json_of_all k refer vs)) in
      item_group made (comma_if later) (compact_text (json_of k refer v)) rest ∙ ap (λ z. z ++ rest) (sym (n ∙ ap (λ z. z ++ compact_text (json_of k refer v)) s))

  pub items_between : (vs : Values) (was begun all new : List ℕ) → begun ≡ was ++ 91 ∷ [] → all ++ 93 ∷ [] ≡ begun ++ items_text false (items_of (json_of_all k refer vs)) → new ≡ all ++ 93 ∷ []
      → new ≡ was ++ compact_text (array (items_of (json_of_all k refer vs)))
  items_between vs was begun all new b a n =
      let text = items_text false (items_of (json_of_all k refer vs)) in
      n ∙ (a ∙ (ap (λ z. z ++ text) b ∙ append_assoc was (91 ∷ []) text))

-- What was added for the value of a layout.
module _ (k : Classes) (refer : ℕ × ℕ → Data) (c : List ℕ) (at to : ℕ) (s : FieldLayout) (is : IsLayoutIfKnown k s) (v : Value) (i : IsNode k c (node_at s.shape at to) v) (was new : List ℕ) where
  -- It ends there, and its JSON was added.
  abbrev pub IsMade : ℕ → Type 0
  IsMade ended = (ended ≡ to) × (new ≡ was ++ compact_text (json_of k refer v))

  as_text : (d : Data) → json_of k refer v ≡ d → new ≡ was ++ compact_text d → new ≡ was ++ compact_text (json_of k refer v)
  as_text d e h = h ∙ ap (λ z. was ++ compact_text z) (sym e)

  pub integer_made : s.form ≡ forms.Integer → (n : Var) → int_at c at (length c) ≡ Some n → ((bytes : List ℕ) → worth_within 8 bytes ≡ n.value → new ≡ was ++ compact_text (base_json s.kind bytes))
      → IsMade n.end
  integer_made e n r h =
      let f = is_integer k c at to s is v i e n r in
      (f.ends, as_text (base_json s.kind (slice_range c at to)) (ap (json_of k refer) f.value) (h (slice_range c at to) f.worth))

  pub raw_made : (n : ℕ) → s.form ≡ forms.Raw n → (bytes : List ℕ) → bytes ≡ slice_range c at (at + n) → new ≡ was ++ compact_text (base_json s.kind bytes) → IsMade (at + n)
  raw_made n e bytes b h =
      let f = is_raw k c at to s is v i n e in
      let there : bytes ≡ slice_range c at to = b ∙ ap (λ z. slice_range c at z) f.ends in
      (f.ends, as_text (base_json s.kind bytes) (ap (json_of k refer) f.value ∙ ap (base_json s.kind) (sym there)) h)

  pub reference_made : s.form ≡ forms.Key → (n : Var) → int_at c at (length c) ≡ Some n → new ≡ was ++ compact_text (refer (s.shape.class, n.value)) → IsMade n.end
  reference_made e n r h =
      let f = is_reference k c at to s is v i e n r in
      (f.ends, as_text (refer (s.shape.class, n.value)) (ap (json_of k refer) f.value) h)

  pub key_made : s.form ≡ forms.Text → (span : StringSpan) → run (string_format true) c (length c) at ≡ Ok (record { value = content_of span; place = span.end }) → span.kind ≡ span_kinds.Key
      → new ≡ was ++ compact_text (refer (s.shape.class, span.key)) → IsMade span.end
  key_made e span r q h =
      let f = is_text k c at to s is v i e (content_of span) span.end r in (
        f.ends,
        as_text (refer (s.shape.class, span.key))
            (ap (json_of k refer) f.value ∙ ap (λ z. json_of k refer (Single s.shape (leaf_kinds.Base kinds.Text) (slice_range c at to) z)) (key_in span q)) h,
      )

  pub string_made : s.form ≡ forms.Text → (span : StringSpan) → run (string_format true) c (length c) at ≡ Ok (record { value = content_of span; place = span.end }) → span.kind ≢ span_kinds.Key
      → new ≡ was ++ compact_text (option_map_or text_json (strings.text_of (content_of span)) null) → IsMade span.end
  string_made e span r q h =
      let f = is_text k c at to s is v i e (content_of span) span.end r in (
        f.ends,
        as_text (option_map_or text_json (strings.text_of (content_of span)) null)
            (ap (json_of k refer) f.value ∙ (ap (λ z. json_of k refer (Single s.shape (leaf_kinds.Base kinds.Text) (slice_range c at to) z)) (no_key span q)
            ∙ ap (λ z. option_map_or text_json z null) f.text)) h,
      )

-- Two values between literals.
parts_group : (was h a m b e : List ℕ) → ((((was ++ h) ++ a) ++ m) ++ b) ++ e ≡ was ++ (h ++ (a ++ (m ++ (b ++ e))))
parts_group was h a m b e = simp append_assoc

pub parts_added : (was one two three four new h a m b e : List ℕ) → one ≡ was ++ h → two ≡ one ++ a → three ≡ two ++ m → four ≡ three ++ b → new ≡ four ++ e
    → new ≡ was ++ (h ++ (a ++ (m ++ (b ++ e))))
parts_added was one two three four new h a m b e p q r s t =
    t ∙ (ap (λ z. z ++ e) (s ∙ ap (λ z. z ++ b) (r ∙ ap (λ z. z ++ m) (q ∙ ap (λ z. z ++ a) p))) ∙ parts_group was h a m b e)

pub reference_text : (k : Classes) (t : ℕ × ℕ)
    → codes "{\"class\":" ++ (compact_text (text_json (class_name k t.0)) ++ (codes ",\"key\":" ++ (decimal t.1 ++ codes "}"))) ≡ compact_text (reference_json k t)
unfolding serde_json_on_literals
reference_text k t = refl

pub missing_text : (k : Classes) (t : ℕ × ℕ)
    → codes "{\"class\":" ++ (compact_text (text_json (class_name k t.0)) ++ (codes ",\"key\":" ++ (decimal t.1 ++ codes ",\"missing\":true}"))) ≡ compact_text (missing_json k t)
unfolding serde_json_on_literals
missing_text k t = refl

-- What a class and a key refer to, a node, and an event.
module _ (p : Parts) where
  pub missing_is : (depth : ℕ) (t : ℕ × ℕ) → in_force p.entries t ≡ None → referred_json p depth t ≡ missing_json p.classes t
  unfolding referred_json
  missing_is zero t e = ap (λ o. if is_some o then reference_json p.classes t else missing_json p.classes t) e
  missing_is (suc depth) t e = ap (λ o. option_map_or (λ e. node_json p (referred_json p depth) (entry_node e)) o (missing_json p.classes t)) e

  pub name_is : (depth : ℕ) (t : ℕ × ℕ) (e : EntryAt) → depth ≡ 0 → in_force p.entries t ≡ Some e → referred_json p depth t ≡ reference_json p.classes t
  unfolding referred_json
  name_is zero t e z q = ap (λ o. if is_some o then reference_json p.classes t else missing_json p.classes t) q
  name_is (suc depth) t e z q = cc

  pub constant_is : (depth : ℕ) (t : ℕ × ℕ) (e : EntryAt) → in_force p.entries t ≡ Some e → referred_json p (suc depth) t ≡ node_json p (referred_json p depth) (entry_node e)
  unfolding referred_json
  constant_is depth t e q = ap (λ o. option_map_or (λ e. node_json p (referred_json p depth) (entry_node e)) o (missing_json p.classes t)) q

  pub node_json_is : Sound p.classes → (refer : ℕ × ℕ → Data) (n : NodeAt) (v : Value) → IsNode p.classes p.bytes n v → node_json p refer n ≡ json_of p.classes refer v
  node_json_is sound refer n v i = ap (λ o. option_map_or (json_of p.classes refer) o null) (value_is p.classes p.bytes n v sound i)

  pub event_text : (depth : ℕ) (n : NodeAt)
      → codes "{\"type\":" ++ (compact_text (text_json (class_name p.classes n.shape.class)) ++ (codes ",\"values\":" ++ (compact_text (node_json p (referred_json p depth) n) ++ codes "}"))) ≡ compact_text (event_data p depth n)
  unfolding serde_json_on_literals event_data
  event_text depth n = refl

  pub line_is : (depth : ℕ) (n : NodeAt) → event_json p depth n ≡ chars (compact_text (event_data p depth n)) ++ newline
  unfolding event_json
  line_is depth n = refl
