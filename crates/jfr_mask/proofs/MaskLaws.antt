-- Masking is a change that keeps what fits, and a masked string has the text that is written.
use Rattle.std.specs.Prelude.{◌≡◌, ℕ, zero, ◌-◌, ◌≤◌, Bool, true, false, ◌&&◌, List, [], ◌∷◌, length, take, drop, Option, Some, None, option_and_then, if◌then◌else◌}
use Rattle.std.specs.Option.{option_map}
use Rattle.std.specs.Str.{encode_utf8_all}
use Rattle.std.proofs.Common.{ap, arith, refl, sym, ◌∙◌, subst, inl, inr}
use Rattle.std.proofs.lemmas.List.{take_all}
use Rattle.std.proofs.Math.Utf8.{scalars}
use Rattle.bstr.proofs.lemmas.EncodeLemmas.{lossy_chars-encode}
use Rattle.jfr_base.specs.Integer.{spell}
use Rattle.jfr_base.proofs.RunLaws.{Stands, exact_run}
use Rattle.jfr_base.proofs.Spelling.{spell_spells}
use Rattle.jfr_text.specs.Strings.{Content, Null, Empty, Utf8, IsString, string_format, text_of}
use Rattle.jfr_layout.specs.Classes.{Classes, Sound, kind_of}
use Rattle.jfr_layout.specs.declared.kind.Kind.{Kind}
use Rattle.jfr_layout.specs.declared.kind.Kind.TheVariants as kinds
use Rattle.jfr_layout.specs.declared.shape.Shape.{Shape}
use Rattle.jfr_value.specs.declared.leaf.Holder.{Holder}
use Rattle.jfr_value.specs.declared.leaf.LeafKind.{LeafKind}
use Rattle.jfr_value.specs.Values.{Value, Single, Group, key_of, own_target, IsBase, IsSingle, Fits}
use Rattle.jfr_value.proofs.StringLaws.{is_exact}
use Rattle.jfr_chunk.specs.Parts.{Parts}
use Rattle.jfr_chunk.specs.Paths.{content_in}
use Rattle.jfr_rewrite.specs.Changed.{KeepsFit, IsReadChanged, Plain, plain, single_of}
use Rattle.jfr_rewrite.specs.Paths.{Retargets, with_key}
use Rattle.jfr_rewrite.proofs.ChangeLaws.{read_changed}
use Rattle.jfr_mask.specs.Fields.{is_text}
use Rattle.jfr_mask.specs.Masked.{is_masked_string, is_string_leaf, masking, own_text, string_bytes, string_text}

-- The written string is a string that isn't a key.
pub string_written : (o : Option (List ℕ)) → (s : Content) × IsString (string_bytes o) s × (key_of s ≡ None)
string_written None = (Null, (refl, refl), refl)
string_written (Some []) = (Empty, (refl, refl), refl)
string_written (Some (c ∷ cs)) =
    let e : List ℕ = encode_utf8_all (c ∷ cs) in
    (Utf8 e, (refl, (spell (length e), e, refl, spell_spells (length e), refl)), refl)

-- A string is read from its own bytes.
pub own_is : (b : List ℕ) (s : Content) → IsString b s → own_text b ≡ text_of s
own_is b s i =
    let w : length b ≤ length b = omega arith in
    let less : length b - zero ≡ length b = omega arith in
    let at : Stands b zero (length b) b = record { order = omega arith; within = omega arith; bytes = ap (λ m. take m (drop zero b)) less ∙ take_all (length b) b w } in
    ap (λ a. option_and_then text_of (content_in a)) (exact_run b (length b) w (string_format true) zero (length b) b s (is_exact b s i) at w)

-- It has the text.
pub text_written : (t : List ℕ) → scalars t ≡ true → own_text (string_bytes (Some t)) ≡ Some t
unfolding string_written
text_written [] h = own_is (string_bytes (Some [])) Empty (string_written (Some [])).1
text_written (c ∷ cs) h = own_is (string_bytes (Some (c ∷ cs))) (Utf8 (encode_utf8_all (c ∷ cs))) (string_written (Some (c ∷ cs))).1 ∙ ap Some (lossy_chars-encode (c ∷ cs) h)

pub null_written : own_text (string_bytes None) ≡ None
null_written = own_is (string_bytes None) Null (refl, refl)

both_true : (a b : Bool) → (a && b) ≡ true → b ≡ true
both_true true b h = h
both_true false b h = cc

pub text_kind : (kd : Kind) → is_text kd ≡ true → kd ≡ kinds.Text
text_kind kinds.Text h = refl
text_kind kinds.Boolean h = cc
text_kind kinds.Byte h = cc
text_kind kinds.Char h = cc
text_kind kinds.Short h = cc
text_kind kinds.Int h = cc
text_kind kinds.Long h = cc
text_kind kinds.Float h = cc
text_kind kinds.Double h = cc
text_kind kinds.Composite h = cc

module _ (masked : Option Holder → Bool) (show : List ℕ → List ℕ) (p : Parts) where
  -- A string in place of a string fits.
  string_fits : (k : Classes) (s : Shape) (kind : LeafKind) (b : List ℕ) (key : Option ℕ) (o : Option (List ℕ)) → is_string_leaf kind ≡ true
      → IsSingle k s kind b key → IsSingle k s kind (string_bytes o) None
  string_fits k s kind b key o h (inl i) = let e : is_string_leaf kind ≡ false = ap is_string_leaf i.4 in cc
  string_fits k s kind b key o h (inr i) =
      let t : kind_of i.2.name ≡ kinds.Text = text_kind (kind_of i.2.name) (sym (ap is_string_leaf i.4) ∙ h) in
      let w : (c : Content) × IsString (string_bytes o) c × (key_of c ≡ None) = string_written o in
      inr (i.0, i.1, i.2, i.3, i.4, subst (λ z. IsBase z (string_bytes o) None) (sym t) (w.0, w.1, sym w.2))

  pub masking_keeps : (k : Classes) → KeepsFit k (masking masked show p)
  masking_keeps k h s x i = by_mask (is_masked_string masked h (single_of s x)) refl
    where
      o : Option (List ℕ)
      o = option_map show (string_text p s.class x.bytes x.key)

      became : Bool → Plain
      became t = if t then plain x.kind (string_bytes o) None else x

      by_mask : (t : Bool) → is_masked_string masked h (single_of s x) ≡ t → IsSingle k s (became t).kind (became t).bytes (became t).key
      by_mask true e = string_fits k s x.kind x.bytes x.key o (both_true (masked h) (is_string_leaf x.kind) e) i
      by_mask false e = i

  pub read_masked : (h : Option Holder) (v : Value) → Sound p.classes → Fits p.classes v → IsReadChanged p.classes (masking masked show p) h v
  read_masked h v sound f = read_changed p.classes (masking masked show p) h v sound (masking_keeps p.classes) f

  -- A masked string refers to nothing; anything else refers to the same as before.
  pub masking_retargets : (k : Classes) → Retargets k (masking masked show p) (is_masked_string masked) (λ t. t.1)
  masking_retargets k h (Single s kind b key) f = by_mask (is_masked_string masked h (Single s kind b key))
    where
      o : Option (List ℕ)
      o = option_map show (string_text p s.class b key)

      same : (key : Option ℕ) → option_map (λ k. (s.class, k)) key ≡ option_map (with_key (λ t. t.1)) (option_map (λ k. (s.class, k)) key)
      same None = refl
      same (Some k) = refl

      by_mask : (t : Bool) → own_target (single_of s (if t then plain kind (string_bytes o) None else plain kind b key))
          ≡ (if t then None else option_map (with_key (λ t. t.1)) (option_map (λ k. (s.class, k)) key))
      by_mask true = refl
      by_mask false = same key
  masking_retargets k h (Group s head vs) f = refl
