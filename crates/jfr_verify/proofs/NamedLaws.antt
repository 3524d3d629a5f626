-- Classes are equal if their ids, their shapes and the texts that name them are.
use Rattle.std.specs.Prelude.{◌≡◌, ℕ, Bool, true, false, List, [], ◌∷◌, map, slice_get, Some, option_map}
use Rattle.std.specs.List.{AllZip}
use Rattle.std.proofs.Common.{ap, refl, sym, ◌∙◌, subst}
use Rattle.jfr_layout.specs.Classes.{Class, Field}
use Rattle.jfr_layout.proofs.Lists.{zip_at}
use Rattle.jfr_meta.specs.Attributes.{text_at}
use Rattle.jfr_verify.specs.Decided.{Decided}
use Rattle.jfr_meta.specs.Described.{IsNamedBy}
use Rattle.jfr_meta.specs.declared.named.ClassNames.{ClassNames}

fields_by : (fs gs : List Field) → map (λ f. f.name) fs ≡ map (λ f. f.name) gs → map (λ f. f.shape) fs ≡ map (λ f. f.shape) gs → fs ≡ gs
fields_by [] [] a b = refl
fields_by [] (g ∷ gs) a b = cc
fields_by (f ∷ fs) [] a b = cc
fields_by (f ∷ fs) (g ∷ gs) a b =
    let n : f.name ≡ g.name = cc in
    let s : f.shape ≡ g.shape = cc in
    let h : f ≡ g = λ i. record { name = n i; shape = s i } in
    let p : map (λ f. f.name) fs ≡ map (λ f. f.name) gs = cc in
    let q : map (λ f. f.shape) fs ≡ map (λ f. f.shape) gs = cc in
    ap (λ z. z ∷ fs) h ∙ ap (λ z. g ∷ z) (fields_by fs gs p q)

class_by : (c d : Class) → c.id ≡ d.id → c.name ≡ d.name → c.super_name ≡ d.super_name → c.fields ≡ d.fields → c.categories ≡ d.categories → c ≡ d
class_by c d a b e f g = λ i. record { id = a i; name = b i; super_name = e i; fields = f i; categories = g i }

module _ (xs ys : List (List ℕ)) (c d : Class) (m n : ClassNames) (by_m : IsNamedBy xs c m) (by_n : IsNamedBy ys d n) where
  -- The last part decides.
  pub classes_decided : c.id ≡ d.id → map (λ f. f.shape) c.fields ≡ map (λ f. f.shape) d.fields → text_at xs m.name ≡ text_at ys n.name
      → option_map (text_at xs) m.super_name ≡ option_map (text_at ys) n.super_name
      → map (text_at xs) m.fields.items ≡ map (text_at ys) n.fields.items → (r : Bool) → Decided (map (text_at xs) m.categories.items ≡ map (text_at ys) n.categories.items) r → Decided (c ≡ d) r
  classes_decided a b e f g true h =
      class_by c d a (sym by_m.name ∙ (e ∙ by_n.name)) (sym by_m.super_name ∙ (f ∙ by_n.super_name)) (fields_by c.fields d.fields (sym by_m.fields ∙ (g ∙ by_n.fields)) b)
      (sym by_m.categories ∙ (h ∙ by_n.categories))
  classes_decided a b e f g false h = λ q. h (by_m.categories ∙ (ap (λ (z : Class). z.categories) q ∙ sym by_n.categories))

-- The facts of each class.
pub zip_fact : {X Y : Type 0} (R : X → Y → Type 0) (xs : List X) (ys : List Y) (i : ℕ) (x : X) (y : Y) → AllZip R xs ys → slice_get xs i ≡ Some x → slice_get ys i ≡ Some y → R x y
zip_fact R xs ys i x y a e f =
    let h = zip_at R xs ys i x a e in
    let z : h.0 ≡ y = (let w : Some h.0 ≡ Some y = sym h.1 ∙ f in cc) in
    subst (R x) z h.2
