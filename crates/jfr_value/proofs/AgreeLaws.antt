-- Class lists that agree on a class have the same format of its values.
use Rattle.jfr_value.specs.declared.leaf.LeafKind.TheVariants as leaf_kinds
use Rattle.jfr_value.specs.Values.{Value, Single}
use Rattle.jfr_value.specs.Reading.{item_format, array_format, shape_format, fields_format, kind_format, inline_format, class_format, value_format}
use Rattle.std.specs.Prelude.{◌≡◌, ℕ, zero, suc, List, [], ◌∷◌, Some, if◌then◌else◌}
use Rattle.std.specs.List.{AllByRecursion}
use Rattle.std.proofs.Common.{ap, refl, sym, ◌∙◌, subst}
use Rattle.jfr_layout.specs.Classes.{Classes, Field, kind_of, item_of, Agree, AgreeWithin}
use Rattle.jfr_layout.specs.declared.shape.Shape.{Shape}
use Rattle.jfr_base.specs.Formats.{Format, Done, Int, ◌>>=◌}
use Rattle.jfr_base.specs.Formats.{unchecked}

item_same : (f g : Shape → Format Value) (s : Shape) → f s ≡ g s → item_format f s ≡ item_format g s
item_same f g s h = ap (λ i. if s.constant then Int unchecked (λ key b. Done (Single s (leaf_kinds.Key key) b (Some key))) else i) h

pub shape_same : (f g : Shape → Format Value) (s : Shape) → ((t : Shape) → t.class ≡ s.class → f t ≡ g t) → shape_format f s ≡ shape_format g s
shape_same f g s h =
    ap (λ i. if s.array then array_format i s else item_format f s) (item_same f g (item_of s) (h (item_of s) refl))
    ∙ ap (λ i. if s.array then array_format (item_format g (item_of s)) s else i) (item_same f g s (h s refl))

fields_same : (f g : Shape → Format Value) (fs : List Field) → AllByRecursion (λ z. (t : Shape) → t.class ≡ z.shape.class → f t ≡ g t) fs → fields_format f fs ≡ fields_format g fs
fields_same f g [] h = refl
fields_same f g (z ∷ zs) h =
    ap (λ a. a >>= λ v. fields_format f zs >>= λ rest. Done (v ∷ rest)) (shape_same f g z.shape h.0)
    ∙ ap (λ b. shape_format g z.shape >>= λ v. b >>= λ rest. Done (v ∷ rest)) (fields_same f g zs h.1)

module _ (k m : Classes) where
  pub class_agree : (n : ℕ) (s : Shape) → AgreeWithin n k m s.class → class_format n k s ≡ class_format n m s
  unfolding class_format
  class_agree zero s a = refl
  class_agree (suc n) s a =
      ap (inline_format (class_format n k) s) a.2
      ∙ (ap (kind_format (kind_of a.0.name) s) (fields_same (class_format n k) (class_format n m) a.0.fields (each a.0.fields a.7 (class_agree n)))
      ∙ (ap (λ x. kind_format (kind_of x) s (fields_format (class_format n m) a.0.fields)) a.4
      ∙ (ap (λ x. kind_format (kind_of a.1.name) s (fields_format (class_format n m) x)) a.6
      ∙ sym (ap (inline_format (class_format n m) s) a.3))))
    where
      each : (fs : List Field) → AllByRecursion (λ f. AgreeWithin n k m f.shape.class) fs → ((s : Shape) → AgreeWithin n k m s.class → class_format n k s ≡ class_format n m s)
          → AllByRecursion (λ z. (t : Shape) → t.class ≡ z.shape.class → class_format n k t ≡ class_format n m t) fs
      each [] b h = tt
      each (f ∷ fs) b h = (λ t e. h t (subst (AgreeWithin n k m) (sym e) b.0), each fs b.1 h)

  -- So they have the same values.
  pub value_agree : (s : Shape) → Agree k m s.class → value_format k s ≡ value_format m s
  unfolding value_format
  value_agree s a = shape_same (class_format 34 k) (class_format 34 m) s (λ t e. class_agree 34 t (subst (AgreeWithin 34 k m) (sym e) (a 34)))
