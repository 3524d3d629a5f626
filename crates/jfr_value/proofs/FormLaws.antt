-- What the form of a layout says of its shape and its kind.
use Rattle.std.specs.Prelude.{◌≡◌, ◌≢◌, ◌⊎◌, ℕ, Bool, true, false, ⊤, if◌then◌else◌}
use Rattle.std.proofs.Common.{ap, inl, inr, refl, subst, sym, ◌∙◌}
use Rattle.jfr_layout.specs.Classes.{form_of, inline_form}
use Rattle.jfr_layout.specs.declared.form.Form.{Form}
use Rattle.jfr_layout.specs.declared.form.Form.TheVariants as forms
use Rattle.jfr_layout.specs.declared.kind.Kind.{Kind}
use Rattle.jfr_layout.specs.declared.kind.Kind.TheVariants as kinds
use Rattle.jfr_layout.specs.declared.field_layout.FieldLayout.{FieldLayout}

-- The form is that of an inline value.
abbrev pub IsInline : Form → Type 0
IsInline forms.Array = ⊥
IsInline forms.Key = ⊥
IsInline forms.Integer = ⊤
IsInline (forms.Raw n) = ⊤
IsInline forms.Text = ⊤
IsInline forms.Fields = ⊤

inline_is : (kind : Kind) → IsInline (inline_form kind)
inline_is kinds.Boolean = tt
inline_is kinds.Byte = tt
inline_is kinds.Char = tt
inline_is kinds.Short = tt
inline_is kinds.Int = tt
inline_is kinds.Long = tt
inline_is kinds.Float = tt
inline_is kinds.Double = tt
inline_is kinds.Text = tt
inline_is kinds.Composite = tt

-- Then the layout has neither mark, and its kind has the form.
pub record Inline (s : FieldLayout) (f : Form) : Type 0 where
  pub array : s.shape.array ≡ false
  pub constant : s.shape.constant ≡ false
  pub form : f ≡ inline_form s.kind

-- A kind of another form is another kind.
pub other_kind : (f : Form) (kind other : Kind) → f ≡ inline_form kind → f ≢ inline_form other → kind ≢ other
other_kind f kind other e n h = n (e ∙ ap inline_form h)

-- A value of a base name that refers to nothing.
pub record Plain (s : FieldLayout) : Type 0 where
  pub array : s.shape.array ≡ false
  pub constant : s.shape.constant ≡ false
  pub not_text : s.kind ≢ kinds.Text
  pub not_composite : s.kind ≢ kinds.Composite

plain_of : (s : FieldLayout) (f : Form) → Inline s f → f ≢ forms.Text → f ≢ forms.Fields → Plain s
plain_of s f i n m = record { array = i.array; constant = i.constant; not_text = other_kind f s.kind kinds.Text i.form n; not_composite = other_kind f s.kind kinds.Composite i.form m }

no_fields : {s : FieldLayout} (f : Form) → Inline s f → f ≢ forms.Fields → (s.shape.array ≡ false) × (s.shape.constant ≡ false) × (s.kind ≢ kinds.Composite)
no_fields {s = s} f i n = (i.array, i.constant, other_kind f s.kind kinds.Composite i.form n)

module _ (s : FieldLayout) (h : s.form ≡ form_of s.shape s.kind) where
  pub inline_there : (f : Form) → s.form ≡ f → IsInline f → Inline s f
  inline_there f e i = by_marks s.shape.array s.shape.constant refl refl (sym e ∙ h)
    where
      by_marks : (a c : Bool) → s.shape.array ≡ a → s.shape.constant ≡ c → f ≡ (if a then forms.Array else if c then forms.Key else inline_form s.kind) → Inline s f
      by_marks true c p q g = absurd (subst IsInline g i)
      by_marks false true p q g = absurd (subst IsInline g i)
      by_marks false false p q g = record { array = p; constant = q; form = g }

  pub key_there : s.form ≡ forms.Key → (s.shape.array ≡ false) × (s.shape.constant ≡ true)
  key_there e = by_marks s.shape.array s.shape.constant refl refl (sym e ∙ h)
    where
      by_marks : (a c : Bool) → s.shape.array ≡ a → s.shape.constant ≡ c → forms.Key ≡ (if a then forms.Array else if c then forms.Key else inline_form s.kind)
          → (s.shape.array ≡ false) × (s.shape.constant ≡ true)
      by_marks true c p q g = cc
      by_marks false true p q g = (p, q)
      by_marks false false p q g = absurd (subst IsInline (sym g) (inline_is s.kind))

  -- An integer or raw bytes.
  pub plain_there : (s.form ≡ forms.Integer) ⊎ ((n : ℕ) × (s.form ≡ forms.Raw n)) → Plain s
  plain_there (inl e) = plain_of s forms.Integer (inline_there forms.Integer e tt) (λ q. cc) (λ q. cc)
  plain_there (inr e) = plain_of s (forms.Raw e.0) (inline_there (forms.Raw e.0) e.1 tt) (λ q. cc) (λ q. cc)

  -- A value of a base name.
  pub base_there : (s.form ≡ forms.Integer) ⊎ ((n : ℕ) × (s.form ≡ forms.Raw n)) ⊎ (s.form ≡ forms.Text) → (s.shape.array ≡ false) × (s.shape.constant ≡ false) × (s.kind ≢ kinds.Composite)
  base_there (inl e) = no_fields forms.Integer (inline_there forms.Integer e tt) (λ q. cc)
  base_there (inr (inl e)) = no_fields (forms.Raw e.0) (inline_there (forms.Raw e.0) e.1 tt) (λ q. cc)
  base_there (inr (inr e)) = no_fields forms.Text (inline_there forms.Text e tt) (λ q. cc)

-- The kinds of a form.
pub text_kind : (kind : Kind) → forms.Text ≡ inline_form kind → kind ≡ kinds.Text
text_kind kinds.Text e = refl
text_kind kinds.Boolean e = cc
text_kind kinds.Byte e = cc
text_kind kinds.Char e = cc
text_kind kinds.Short e = cc
text_kind kinds.Int e = cc
text_kind kinds.Long e = cc
text_kind kinds.Float e = cc
text_kind kinds.Double e = cc
text_kind kinds.Composite e = cc

pub fields_kind : (kind : Kind) → forms.Fields ≡ inline_form kind → kind ≡ kinds.Composite
fields_kind kinds.Composite e = refl
fields_kind kinds.Boolean e = cc
fields_kind kinds.Byte e = cc
fields_kind kinds.Char e = cc
fields_kind kinds.Short e = cc
fields_kind kinds.Int e = cc
fields_kind kinds.Long e = cc
fields_kind kinds.Float e = cc
fields_kind kinds.Double e = cc
fields_kind kinds.Text e = cc
