-- A string of one byte is null or empty, and stays so.
use Rattle.std.specs.Prelude.{◌≡◌, ◌≤◌, ℕ, Bool, true, List, [], ◌∷◌, ◌++◌, length, None, Some}
use Rattle.std.specs.Option.{option_map}
use Rattle.std.proofs.Common.{◌⊎◌, inl, inr, ap, arith, refl, subst, sym, ◌∙◌}
use Rattle.jfr_base.specs.Integer.{Spells}
use Rattle.jfr_text.specs.Strings.{Content, Counted, IsString}
use Rattle.jfr_text.specs.Strings as strings
use Rattle.jfr_layout.specs.declared.kind.Kind.TheVariants as kinds
use Rattle.jfr_value.specs.declared.leaf.LeafKind.{LeafKind}
use Rattle.jfr_value.specs.declared.leaf.LeafKind.TheVariants as leaf_kinds
use Rattle.jfr_value.specs.Leaves.{LeafAt, leaf_key}
use Rattle.jfr_value.specs.Values.{IsBase, IsSingle}
use Rattle.jfr_layout.specs.Classes.{kind_of}
use Rattle.jfr_chunk.specs.Parts.{Parts}
use Rattle.jfr_rewrite.specs.Copying.{LiesIn, string_shape}
use Rattle.jfr_mask.specs.Masked.{is_string_leaf, numbered_text, string_bytes, string_text}
use Rattle.jfr_mask.specs.MaskedLeaves.{leaf_text}
use Rattle.jfr_mask.proofs.LeafMasks.{text_leaf}
use Rattle.jfr_mask.proofs.MaskLaws.{own_is}

-- The bytes are those of the null string or of the empty one.
abbrev IsBare : List ℕ → Type 0
IsBare b = (b ≡ 0 ∷ []) ⊎ (b ≡ 1 ∷ [])

no_spelling : (n : ℕ) → Spells [] n → ⊥
no_spelling n s = s.form

no_count : (n : ℕ) (P : List ℕ → Type 0) → Counted [] n P → ⊥
no_count n P (front, rest, e, s, h) = by_front front e s
  where
    by_front : (front : List ℕ) → [] ≡ front ++ rest → Spells front n → ⊥
    by_front [] e s = no_spelling n s
    by_front (x ∷ xs) e s = cc

bare : (kind : ℕ) (s : Content) → IsString (kind ∷ []) s → IsBare (kind ∷ [])
bare kind strings.Null i = inl (ap (λ z. z ∷ []) i.0)
bare kind strings.Empty i = inr (ap (λ z. z ∷ []) i.0)
bare kind (strings.Key key) i = absurd (no_spelling key i.1)
bare kind (strings.Utf8 bytes) i = absurd (no_count (length bytes) (λ r. r ≡ bytes) i.1)
bare kind (strings.Units units) i = absurd (no_count (length units) (λ r. strings.SpellAll r units) i.1)
bare kind (strings.Latin bytes) i = absurd (no_count (length bytes) (λ r. r ≡ bytes) i.1)

short_bare : (b : List ℕ) (s : Content) → IsString b s → length b ≤ 1 → IsBare b
short_bare [] s i w = absurd i
short_bare (kind ∷ []) s i w = bare kind s i
short_bare (kind ∷ c ∷ cs) s i w = absurd (omega (arith, w))

-- The string in the chunk.
leaf_bare : (p : Parts) (l : LeafAt) → LiesIn p l → l.kind ≡ leaf_kinds.Base kinds.Text → length l.spelled ≤ 1 → IsBare l.spelled
leaf_bare p l lies k w = by_single (lies.string k).fits
  where
    by_single : IsSingle p.classes (string_shape l) (leaf_kinds.Base kinds.Text) l.spelled (leaf_key (leaf_kinds.Base kinds.Text) l.spelled) → IsBare l.spelled
    by_single (inl f) = let e = f.4 in cc
    by_single (inr f) =
        let kind : kind_of f.2.name ≡ kinds.Text = (let e = f.4 in cc) in
        let t : IsBase kinds.Text l.spelled (leaf_key (leaf_kinds.Base kinds.Text) l.spelled) = subst (λ z. IsBase z l.spelled (leaf_key (leaf_kinds.Base kinds.Text) l.spelled)) kind f.5 in
        short_bare l.spelled t.0 t.1 w

text_null : (p : Parts) (class : ℕ) → string_text p class (0 ∷ []) (leaf_key (leaf_kinds.Base kinds.Text) (0 ∷ [])) ≡ None
text_null p class = own_is (0 ∷ []) strings.Null (refl, refl)

text_empty : (p : Parts) (class : ℕ) → string_text p class (1 ∷ []) (leaf_key (leaf_kinds.Base kinds.Text) (1 ∷ [])) ≡ Some []
text_empty p class = own_is (1 ∷ []) strings.Empty (refl, refl)

module _ (p : Parts) (l : LeafAt) (lies : LiesIn p l) (string : is_string_leaf l.kind ≡ true) (w : length l.spelled ≤ 1) where
  is_text : l.kind ≡ leaf_kinds.Base kinds.Text
  is_text = text_leaf l.kind string

  text_by : (kind : LeafKind) (b : List ℕ) → l.kind ≡ kind → l.spelled ≡ b → leaf_text p l ≡ string_text p l.class b (leaf_key kind b)
  text_by kind b k e = ap (λ z. string_text p l.class l.spelled (leaf_key z l.spelled)) k ∙ ap (λ z. string_text p l.class z (leaf_key kind z)) e

  -- It has no text that gets a number.
  pub short_numbers : (known : List ℕ → Bool) → numbered_text known (leaf_text p l) ≡ []
  short_numbers known = by_bytes (leaf_bare p l lies is_text w)
    where
      by_bytes : IsBare l.spelled → numbered_text known (leaf_text p l) ≡ []
      by_bytes (inl e) = ap (numbered_text known) (text_by (leaf_kinds.Base kinds.Text) (0 ∷ []) is_text e ∙ text_null p l.class)
      by_bytes (inr e) = ap (numbered_text known) (text_by (leaf_kinds.Base kinds.Text) (1 ∷ []) is_text e ∙ text_empty p l.class)

  -- It stays the same, if the empty text is shown as it is.
  pub short_stays : (show : List ℕ → List ℕ) → show [] ≡ [] → string_bytes (option_map show (leaf_text p l)) ≡ l.spelled
  short_stays show s = by_bytes (leaf_bare p l lies is_text w)
    where
      by_bytes : IsBare l.spelled → string_bytes (option_map show (leaf_text p l)) ≡ l.spelled
      by_bytes (inl e) = ap (λ z. string_bytes (option_map show z)) (text_by (leaf_kinds.Base kinds.Text) (0 ∷ []) is_text e ∙ text_null p l.class) ∙ sym e
      by_bytes (inr e) =
          ap (λ z. string_bytes (option_map show z)) (text_by (leaf_kinds.Base kinds.Text) (1 ∷ []) is_text e ∙ text_empty p l.class)
          ∙ (ap (λ z. string_bytes (Some z)) s ∙ sym e)
