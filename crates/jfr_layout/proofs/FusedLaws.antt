-- Fused fields that grow field by field, and classes whose fields are passed group by group.
use Rattle.std.specs.Prelude.{◌≡◌, ℕ, ◌+◌, ◌-◌, ◌<◌, ◌≤◌, List, [], ◌∷◌, ◌++◌, length, take, drop, slice_get, slice_range, Some, IfSome}
use Rattle.std.specs.List.{AllByRecursion, flat_map}
use Rattle.std.proofs.Common.{ap, arith, refl, subst, sym, ◌∙◌}
use Rattle.std.proofs.Math.Seq.{take-add}
use Rattle.std.proofs.lemmas.List.{drop_more, take_all, append-nil}
use Rattle.std.proofs.lemmas.Grind.{flat_map-append}
use Rattle.std.proofs.lemmas.Option.{get_or_from_slice_get, slice_get_within}
use Rattle.jfr_base.proofs.Ranges.{range_split}
use Rattle.jfr_layout.specs.declared.form.Form.TheVariants as forms
use Rattle.jfr_layout.specs.declared.fused.FusedFields.{FusedFields}
use Rattle.jfr_layout.specs.declared.fused.FusedKind.{FusedKind}
use Rattle.jfr_layout.specs.declared.field_layout.FieldLayout.{FieldLayout}
use Rattle.jfr_layout.specs.Fused.{AreFused, AreRaw, BeginsAt, IsFused, Passes, passed_by}
use Rattle.jfr_layout.proofs.Lists.{all_push, present}

-- A range of one member, and one that ends after the next member.
pub range_alone : {X : Type 0} (xs : List X) (i : ℕ) (x : X) → slice_get xs i ≡ Some x → slice_range xs i (i + 1) ≡ x ∷ []
range_alone xs i x e =
    let d : drop i xs ≡ x ∷ drop (i + 1) xs = drop_more xs i x (slice_get_within xs i x e) ∙ ap (λ y. y ∷ drop (i + 1) xs) (get_or_from_slice_get xs i x x e) in
    let n : i + 1 - i ≡ 1 = omega arith in
    ap (λ k. take k (drop i xs)) n ∙ ap (take 1) d

pub range_more : {X : Type 0} (xs : List X) (from i : ℕ) (x : X) → from ≤ i → slice_get xs i ≡ Some x → slice_range xs from (i + 1) ≡ slice_range xs from i ++ x ∷ []
range_more xs from i x h e = range_split xs from i (i + 1) h (omega arith) ∙ ap (λ z. slice_range xs from i ++ z) (range_alone xs i x e)

module _ (layouts : List FieldLayout) (first : ℕ) where
  abbrev range : ℕ → List FieldLayout
  range fields = slice_range layouts first (first + fields)

  abbrev fused : ℕ → FusedKind → FusedFields
  fused fields kind = record { first = first; fields = fields; kind = kind }

  -- One field more.
  next_is : (fields : ℕ) (s : FieldLayout) → slice_get layouts (first + fields) ≡ Some s → range (fields + 1) ≡ range fields ++ s ∷ []
  next_is fields s e = let n : first + (fields + 1) ≡ first + fields + 1 = omega arith in rw n (range_more layouts first (first + fields) s (omega arith) e)

  pub begins : (fields : ℕ) (kind : FusedKind) → 0 < fields → first + fields ≤ length layouts → Passes kind (range fields) → BeginsAt layouts first (fused fields kind)
  begins fields kind some within passes = record { first_is = refl; some = some; fused = record { within = within; passes = passes } }

  abbrev pub IntegersTo : ℕ → Type 0
  IntegersTo fields = AllByRecursion (λ s. s.form ≡ forms.Integer) (range fields)

  pub integer_alone : first < length layouts → IfSome (slice_get layouts first) (λ s. s.form ≡ forms.Integer) → IntegersTo 1
  integer_alone l h = let s = present layouts first l in subst (AllByRecursion (λ s. s.form ≡ forms.Integer)) (sym (range_alone layouts first s.0 s.1)) (rw s.1 at h, tt)

  pub integer_next : (fields : ℕ) (s : FieldLayout) → slice_get layouts (first + fields) ≡ Some s → s.form ≡ forms.Integer → IntegersTo fields → IntegersTo (fields + 1)
  integer_next fields s e f a = subst (AllByRecursion (λ s. s.form ≡ forms.Integer)) (sym (next_is fields s e)) (all_push (λ s. s.form ≡ forms.Integer) (range fields) s a f)

  raw_push : (count more : ℕ) (ss : List FieldLayout) (s : FieldLayout) → AreRaw count ss → s.form ≡ forms.Raw more → AreRaw (count + more) (ss ++ s ∷ [])
  raw_push count more [] s a f = (more, 0, f, omega (arith, a), refl)
  raw_push count more (t ∷ ss) s a f = (a.0, a.1 + more, a.2, omega (arith, a.3), raw_push a.1 more ss s a.4 f)

  pub raw_alone : (bytes : ℕ) → first < length layouts → IfSome (slice_get layouts first) (λ s. s.form ≡ forms.Raw bytes) → AreRaw bytes (range 1)
  raw_alone bytes l h = let s = present layouts first l in subst (AreRaw bytes) (sym (range_alone layouts first s.0 s.1)) (bytes, 0, rw s.1 at h, omega arith, refl)

  pub raw_next : (fields count more : ℕ) (s : FieldLayout) → slice_get layouts (first + fields) ≡ Some s → s.form ≡ forms.Raw more → AreRaw count (range fields)
      → AreRaw (count + more) (range (fields + 1))
  raw_next fields count more s e f a = subst (AreRaw (count + more)) (sym (next_is fields s e)) (raw_push count more (range fields) s a f)

-- The fields up to a number are passed.
pub record PassedTo (layouts : List FieldLayout) (first : ℕ) (fused_fields : List FusedFields) : Type 0 where
  pub within : first ≤ length layouts
  pub each : AllByRecursion (IsFused layouts) fused_fields
  pub all : flat_map (passed_by layouts) fused_fields ≡ take first layouts

pub passed_more : (layouts : List FieldLayout) (first : ℕ) (fused_fields : List FusedFields) (l : FusedFields) → PassedTo layouts first fused_fields → BeginsAt layouts first l
    → PassedTo layouts (first + l.fields) (fused_fields ++ l ∷ [])
passed_more layouts first fused_fields l p b =
    let w : l.first + l.fields ≤ length layouts = b.fused.within in
    let n : l.first + l.fields - l.first ≡ l.fields = omega arith in
    let q : passed_by layouts l ≡ take l.fields (drop first layouts) = ap (λ k. take k (drop l.first layouts)) n ∙ ap (λ i. take l.fields (drop i layouts)) b.first_is in
    record {
      within = omega (arith, b.first_is, w);
      each = all_push (IsFused layouts) fused_fields l p.each b.fused;
      all = flat_map-append (passed_by layouts) fused_fields (l ∷ [])
          ∙ (ap (λ z. flat_map (passed_by layouts) fused_fields ++ z) (append-nil (passed_by layouts l))
          ∙ (ap (λ z. z ++ passed_by layouts l) p.all ∙ (ap (λ z. take first layouts ++ z) q ∙ sym (take-add first l.fields layouts))));
    }

pub passed_all : (layouts : List FieldLayout) (first : ℕ) (fused_fields : List FusedFields) → PassedTo layouts first fused_fields → length layouts ≤ first → AreFused layouts fused_fields
passed_all layouts first fused_fields p h = record { each = p.each; all = p.all ∙ take_all first layouts h }
