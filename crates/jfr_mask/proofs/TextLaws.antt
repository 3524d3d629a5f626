-- The text of a masked string is that of its node, after at most 16 constants.
use Rattle.std.specs.Prelude.{◌≡◌, ℕ, Bool, true, false, List, Option, Some, None, option_and_then, if◌then◌else◌}
use Rattle.std.specs.Option.{option_map, option_map_or}
use Rattle.std.proofs.Common.{ap, arith, refl, sym, ◌∙◌, subst, inl, inr}
use Rattle.jfr_base.specs.Formats.{run}
use Rattle.jfr_base.proofs.RunLaws.{exact_run}
use Rattle.jfr_text.specs.Strings.{Content, Key, IsString, string_format}
use Rattle.jfr_text.specs.Strings as strings
use Rattle.jfr_layout.specs.Classes.{Class, Sound, find_class, kind_of}
use Rattle.jfr_layout.specs.declared.kind.Kind.TheVariants as kinds
use Rattle.jfr_layout.specs.declared.shape.Shape.{Shape}
use Rattle.jfr_value.specs.declared.leaf.LeafKind.TheVariants as leaf_kinds
use Rattle.jfr_value.specs.Values.{Single, key_of, IsBase, IsSingle}
use Rattle.jfr_value.specs.Nodes.{NodeAt, IsNode, target}
use Rattle.jfr_value.proofs.NodeLaws.{node_stands, target_is}
use Rattle.jfr_value.proofs.StringLaws.{is_exact}
use Rattle.jfr_pool.specs.declared.entry.EntryAt.{EntryAt}
use Rattle.jfr_pool.specs.Entries.{in_force, entry_node}
use Rattle.jfr_chunk.specs.Parts.{Parts}
use Rattle.jfr_chunk.specs.Paths.{follow_while, always, content_in, content_by, string_of, text_of}
use Rattle.jfr_mask.specs.Masked.{string_text}
use Rattle.jfr_mask.proofs.MaskLaws.{own_is}

module _ (p : Parts) (n : NodeAt) (s : Shape) (b : List ℕ) (key : Option ℕ) (sound : Sound p.classes) (i : IsNode p.classes p.bytes n (Single s (leaf_kinds.Base kinds.Text) b key)) where
  -- Its class is that of strings, and its bytes are a string.
  record IsText : Type 0 where
    no_array : n.shape.array ≡ false
    no_constant : n.shape.constant ≡ false
    class : Class
    there : find_class p.classes n.shape.class ≡ Some class
    kind : kind_of class.name ≡ kinds.Text
    content : Content
    string : IsString b content
    key_is : key ≡ key_of content

  is_text : IsText
  is_text = by_single i.fits
    where
      by_single : IsSingle p.classes s (leaf_kinds.Base kinds.Text) b key → IsText
      by_single (inl f) = let e = f.4 in cc
      by_single (inr f) =
          let k : kind_of f.2.name ≡ kinds.Text = (let e = f.4 in cc) in
          let t : IsBase kinds.Text b key = subst (λ z. IsBase z b key) k f.5 in
          record {
            no_array = ap (λ (z : Shape). z.array) i.shape ∙ f.0;
            no_constant = ap (λ (z : Shape). z.constant) i.shape ∙ f.1;
            class = f.2;
            there = ap (λ (z : Shape). find_class p.classes z.class) i.shape ∙ f.3;
            kind = k;
            content = t.0;
            string = t.1;
            key_is = t.2;
          }

  abbrev read_by : Bool → Bool → Option Class → Option Content
  read_by array constant class =
      if array then None else if constant then None else option_and_then (λ (c : Class). content_by (kind_of c.name) (content_in (run (string_format true) p.bytes n.end n.at))) class

  string_is : string_of p n ≡ Some is_text.content
  string_is =
      let t : IsText = is_text in
      let r = exact_run p.bytes n.end i.within (string_format true) n.at n.end b t.content (is_exact b t.content t.string)
      (node_stands p.classes p.bytes n (Single s (leaf_kinds.Base kinds.Text) b key) i) (omega arith) in
      ap (λ z. read_by z n.shape.constant (find_class p.classes n.shape.class)) t.no_array
      ∙ (ap (λ z. read_by false z (find_class p.classes n.shape.class)) t.no_constant
      ∙ (ap (read_by false false) t.there
      ∙ (ap (λ z. content_by z (content_in (run (string_format true) p.bytes n.end n.at))) t.kind ∙ ap content_in r)))

  target_here : target p.classes p.bytes n ≡ option_map (λ k. (s.class, k)) key
  target_here = target_is p.classes p.bytes n (Single s (leaf_kinds.Base kinds.Text) b key) sound i

  -- The text of what is after the node, or of the node if nothing is.
  abbrev text_after : Option NodeAt → Option (List ℕ)
  text_after o = option_and_then strings.text_of (string_of p (option_map_or (follow_while 15 always p) o n))

  abbrev after : Option (ℕ × ℕ) → Option NodeAt
  after = option_and_then (λ t. option_map entry_node (in_force p.entries t))

  no_text : (k : ℕ) (c : Content) → Some k ≡ key_of c → strings.text_of c ≡ None
  no_text k strings.Null e = cc
  no_text k strings.Empty e = cc
  no_text k (Key key) e = refl
  no_text k (strings.Utf8 bytes) e = cc
  no_text k (strings.Units units) e = cc
  no_text k (strings.Latin bytes) e = cc

  by_key : (o : Option ℕ) → key ≡ o → string_text p s.class b o ≡ text_after (after (option_map (λ k. (s.class, k)) o))
  by_key None e = own_is b is_text.content is_text.string ∙ sym (ap (option_and_then strings.text_of) string_is)
  by_key (Some k) e = by_entry (in_force p.entries (s.class, k))
    where
      by_entry : (x : Option EntryAt) → option_and_then (λ e. option_and_then strings.text_of (string_of p (follow_while 15 always p (entry_node e)))) x ≡ text_after (option_map entry_node x)
      by_entry None = sym (ap (option_and_then strings.text_of) string_is ∙ no_text k is_text.content (sym e ∙ is_text.key_is))
      by_entry (Some d) = refl

  pub text_is : string_text p s.class b key ≡ text_of p n
  unfolding text_of
  text_is = by_key key refl ∙ ap (λ z. text_after (after z)) (sym target_here)
