-- What becomes of leaves, and the texts of a value, leaf by leaf.
use Rattle.std.specs.Prelude.{◌≡◌, ℕ, zero, suc, ◌+◌, Bool, true, false, ◌&&◌, List, [], ◌++◌, length, Option, Some, None, if◌then◌else◌}
use Rattle.std.specs.List.{flat_map}
use Rattle.std.specs.Option.{option_map, option_map_or}
use Rattle.std.proofs.Common.{ap, append-nil, refl, subst, sym, ◌∙◌}
use Rattle.std.proofs.lemmas.Grind.{flat_map-append}
use Rattle.jfr_base.specs.Integer.{worth_within}
use Rattle.jfr_layout.specs.Classes.{Classes, Sound}
use Rattle.jfr_layout.specs.declared.shape.Shape.{Shape}
use Rattle.jfr_value.specs.declared.leaf.Holder.{Holder}
use Rattle.jfr_layout.specs.declared.kind.Kind.TheVariants as kinds
use Rattle.jfr_value.specs.declared.leaf.LeafKind.{LeafKind}
use Rattle.jfr_value.specs.declared.leaf.LeafKind.TheVariants as leaf_kinds
use Rattle.jfr_value.specs.Leaves.{LeafAt, leaf_key, leaves, leaves_at, leaves_from, part_holder}
use Rattle.jfr_value.specs.Nodes.{IsNode, NodeAt}
use Rattle.jfr_value.specs.Values.{AllFit, Fits, Group, Single, Value, Values, Nil, Cons, bytes_of}
use Rattle.jfr_value.proofs.NodeLaws.{value_is}
use Rattle.jfr_value.proofs.TargetLaws.{leaves_are}
use Rattle.jfr_chunk.specs.Parts.{Parts}
use Rattle.jfr_rewrite.specs.Changed.{plain}
use Rattle.jfr_mask.specs.Masked.{is_string_leaf, masked_texts, masked_texts_all, masking, node_texts, numbered_text, string_bytes, string_text}
use Rattle.jfr_mask.specs.MaskedLeaves.{is_masked_leaf, leaf_bytes, leaf_text, leaf_texts}
use Rattle.jfr_rewrite.proofs.LaidLeaves.{marked_leaves, single_key}
use Rattle.jfr_rewrite.specs.Copying.{LiesIn, leaf_becomes}
use Rattle.jfr_mask.proofs.MaskLaws.{text_kind}

and_false : (b : Bool) → (b && false) ≡ false
and_false true = refl
and_false false = refl

module _ (masked : Option Holder → Bool) (p : Parts) where
  module _ (known : List ℕ → Bool) where
    abbrev count_leaf : Option Holder → ℕ → Shape → List ℕ → LeafAt
    count_leaf holder at s h = record { kind = leaf_kinds.Count (worth_within 8 h); class = s.class; holder = holder; at = at; spelled = h }

    head_texts : (holder : Option Holder) (at : ℕ) (s : Shape) (h : List ℕ) (mark : Bool) → flat_map (leaf_texts masked known p) (marked_leaves mark holder at s h) ≡ []
    head_texts holder at s h true = ap (λ b. (if b then numbered_text known (string_text p s.class h None) else []) ++ []) (and_false (masked holder))
    head_texts holder at s h false = refl

    mutual
      pub texts_by_leaf : (k : Classes) (holder : Option Holder) (at : ℕ) (v : Value) → Fits k v → masked_texts masked known p holder v ≡ flat_map (leaf_texts masked known p) (leaves_at holder at v)
      texts_by_leaf k holder at (Single s kind b key) f =
          let l : LeafAt = record { kind = kind; class = s.class; holder = holder; at = at; spelled = b } in
          sym (append-nil (leaf_texts masked known p l) ∙ ap (λ z. if masked holder && is_string_leaf kind then numbered_text known (string_text p s.class b z) else []) (single_key k s kind b key f))
      texts_by_leaf k holder at (Group s h vs) f =
          let inner : List LeafAt = leaves_from (part_holder s holder) (at + length h) vs in
          texts_by_leaves k (part_holder s holder) (at + length h) vs f.1
          ∙ sym (flat_map-append (leaf_texts masked known p) (marked_leaves s.array holder at s h) inner
          ∙ ap (λ z. z ++ flat_map (leaf_texts masked known p) inner) (head_texts holder at s h s.array))

      pub texts_by_leaves : (k : Classes) (holders : ℕ → Option Holder) (at : ℕ) (vs : Values) → AllFit k vs
          → masked_texts_all masked known p holders vs ≡ flat_map (leaf_texts masked known p) (leaves_from holders at vs)
      texts_by_leaves k holders at Nil f = refl
      texts_by_leaves k holders at (Cons v vs) f =
          let others : ℕ → Option Holder = λ n. holders (suc n) in
          let rest : List LeafAt = leaves_from others (at + length (bytes_of v)) vs in
          ap (λ z. z ++ masked_texts_all masked known p others vs) (texts_by_leaf k (holders zero) at v f.0)
          ∙ (ap (λ z. flat_map (leaf_texts masked known p) (leaves_at (holders zero) at v) ++ z) (texts_by_leaves k others (at + length (bytes_of v)) vs f.1)
          ∙ sym (flat_map-append (leaf_texts masked known p) (leaves_at (holders zero) at v) rest))

    pub node_texts_are : Sound p.classes → (n : NodeAt) (v : Value) → IsNode p.classes p.bytes n v → node_texts masked known p n ≡ flat_map (leaf_texts masked known p) (leaves p.classes p.bytes n)
    node_texts_are sound n v i =
        ap (λ o. option_map_or (masked_texts masked known p None) o []) (value_is p.classes p.bytes n v sound i)
        ∙ (texts_by_leaf p.classes None n.at v i.fits ∙ ap (flat_map (leaf_texts masked known p)) (sym (leaves_are p.classes sound p.bytes n v i)))

  -- A leaf becomes what is shown for it.
  pub masked_leaf : (show : List ℕ → List ℕ) (l : LeafAt) → leaf_becomes (masking masked show p) l ≡ leaf_bytes masked show p l
  masked_leaf show l = by_kind l.kind
    where
      other : Option ℕ → List ℕ
      other key = string_bytes (option_map show (string_text p l.class l.spelled key))

      by_mask : (t : Bool) (kind : LeafKind) (key : Option ℕ) → (if t then plain kind (other key) None else plain kind l.spelled key).bytes ≡ (if t then other key else l.spelled)
      by_mask true kind key = refl
      by_mask false kind key = refl

      by_kind : (kind : LeafKind) → leaf_becomes (masking masked show p) (record l { kind = kind }) ≡ leaf_bytes masked show p (record l { kind = kind })
      by_kind (leaf_kinds.Count n) = sym (ap (λ b. if b then other None else l.spelled) (and_false (masked l.holder)))
      by_kind (leaf_kinds.Key key) = by_mask (masked l.holder && false) (leaf_kinds.Key key) (Some key)
      by_kind (leaf_kinds.Base kind) = by_mask (masked l.holder && is_string_leaf (leaf_kinds.Base kind)) (leaf_kinds.Base kind) (leaf_key (leaf_kinds.Base kind) l.spelled)

pub text_leaf : (k : LeafKind) → is_string_leaf k ≡ true → k ≡ leaf_kinds.Base kinds.Text
text_leaf (leaf_kinds.Base kind) e = ap leaf_kinds.Base (text_kind kind e)
text_leaf (leaf_kinds.Key key) e = cc
text_leaf (leaf_kinds.Count n) e = cc

-- A string in the chunk, with its bytes read anew and without its holder.
abbrev pub without_holder : LeafAt → List ℕ → LeafAt
without_holder l b = record { kind = leaf_kinds.Base kinds.Text; class = l.class; holder = None; at = l.at; spelled = b }

pub string_lies : (p : Parts) (l : LeafAt) (b : List ℕ) → is_string_leaf l.kind ≡ true → b ≡ l.spelled → LiesIn p l → LiesIn p (without_holder l b)
string_lies p l b k e h =
    subst (λ z. LiesIn p (without_holder l z)) (sym e)
    (subst (λ (z : LeafKind). LiesIn p (record { kind = z; class = l.class; holder = None; at = l.at; spelled = l.spelled })) (text_leaf l.kind k)
    (record { within = h.within; bytes = h.bytes; key = h.key; reference = h.reference; string = h.string }))

-- It becomes what is shown for its text.
pub string_masked : (masked : Option Holder → Bool) (p : Parts) (show : List ℕ → List ℕ) (l : LeafAt) (b : List ℕ) → is_masked_leaf masked l ≡ true → is_string_leaf l.kind ≡ true → b ≡ l.spelled
    → string_bytes (option_map show (leaf_text p (without_holder l b))) ≡ leaf_becomes (masking masked show p) l
string_masked masked p show l b m k e =
    ap (λ z. string_bytes (option_map show (leaf_text p (without_holder l z)))) e
    ∙ (ap (λ (z : LeafKind). string_bytes (option_map show (string_text p l.class l.spelled (leaf_key z l.spelled)))) (sym (text_leaf l.kind k))
    ∙ sym (masked_leaf masked p show l ∙ ap (λ t. if t then string_bytes (option_map show (leaf_text p l)) else l.spelled) m))
