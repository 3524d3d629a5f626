-- The classes of fields, looked up one by one.
use Rattle.std.proofs.Common.{◌≡◌, ℕ, ◌+◌, ◌<◌, ◌≤◌, List, [], ◌∷◌, ◌++◌, length, take, get_or, Some, None, not, sym, ◌∙◌, ap, refl, subst}
use Rattle.std.specs.Prelude.{is_some, map, ◌==◌}
use Rattle.std.specs.List.{slice_get}
use Rattle.std.specs.Option.{IfSome}
use Rattle.std.proofs.lemmas.List.{take_all}
use Rattle.jfr_base.specs.declared.reason.Reason.TheVariants.{UnknownType}
use Rattle.jfr_layout.specs.declared.fault.ClassFault.{ClassFault}
use Rattle.jfr_layout.specs.declared.fault.ClassFault.TheVariants.{Flawed}
use Rattle.jfr_layout.specs.declared.index.Index.{Index}
use Rattle.jfr_layout.specs.declared.kind.Kind.{Kind}
use Rattle.jfr_layout.specs.declared.class_layout.ClassLayout.{ClassLayout}
use Rattle.jfr_layout.specs.declared.field_layout.FieldLayout.{FieldLayout}
use Rattle.jfr_layout.specs.Classes.{Class, Classes, Field, ClassFlaw, IsFirstFlaw, AreFieldLayouts, flaw_if, flaws_in, unknown, is_unknown, find_class, kind_of, layout_with}
use Rattle.jfr_layout.specs.Resolved.{AreClassLayouts, IsIndex, IsClassLayout, index_in}
use Rattle.jfr_layout.proofs.FieldLayouts.{layouts_push, layout_at}
use Rattle.jfr_layout.proofs.Lists.{present, take_next, zip_push}
use Rattle.jfr_layout.proofs.Indices.{is_some-find}
use Rattle.jfr_layout.proofs.Stages.{rest, stage_next, stage_tells, stage_none}

-- What is found at a field.
abbrev pub found_unknown : Classes → ℕ → ℕ → Field → List ClassFlaw
found_unknown k i j f = flaw_if (is_unknown k f) i (Some j) UnknownType

-- The classes of the fields before a number are known, and these are their layouts.
pub record FieldsKnown (k : Classes) (i : ℕ) (fs : List Field) (n : ℕ) (layouts : List FieldLayout) : Type 0 where
  pub left : flaws_in UnknownType (is_unknown k) i fs ≡ rest (found_unknown k i) fs n
  pub found : AreFieldLayouts k (take n fs) layouts

known_at : (k : Classes) (index : Index) (id : ℕ) → IsIndex k index → is_some (find_class k id) ≡ is_some (index_in index id)
known_at k index id s = is_some-find (λ (c : Class). c.id == id) k ∙ ap is_some (sym (s.at id))

-- A class that is known.
pub known_next : (k : Classes) (i : ℕ) (fs : List Field) (n : ℕ) (index : Index) (kinds : List Kind) (f : Field) (layouts more : List FieldLayout) (p : ℕ) (d : Kind) → IsIndex k index
    → kinds ≡ map (λ c. kind_of c.name) k → FieldsKnown k i fs n layouts → slice_get fs n ≡ Some f
    → Some p ≡ index_in index f.shape.class → more ≡ layouts ++ layout_with f.shape p (get_or kinds p d) ∷ []
    → FieldsKnown k i fs (n + 1) more
known_next k i fs n index kinds f layouts more p d x ks s e g m = record {
  left = stage_next (found_unknown k i) fs n f (flaws_in UnknownType (is_unknown k) i fs) s.left e
      (ap (λ t. flaw_if (not t) i (Some n) UnknownType) (known_at k index f.shape.class x ∙ ap is_some (sym g)));
  found = rw (take_next fs n f e, m) (layouts_push k (take n fs) f layouts (layout_with f.shape p (get_or kinds p d)) s.found refl
      (layout_at k kinds f.shape p d ks (sym (x.at f.shape.class) ∙ sym g)));
}

-- A class that isn't.
pub known_tell : (k : Classes) (i : ℕ) (fs : List Field) (n : ℕ) (index : Index) (f : Field) (layouts : List FieldLayout) → IsIndex k index → FieldsKnown k i fs n layouts → slice_get fs n ≡ Some f
    → None ≡ index_in index f.shape.class
    → IsFirstFlaw (flaws_in UnknownType (is_unknown k) i fs) (Flawed i (Some n) UnknownType)
known_tell k i fs n index f layouts x s e g = stage_tells (found_unknown k i) fs n f (flaws_in UnknownType (is_unknown k) i fs) (Flawed i (Some n) UnknownType) s.left e
    (ap (λ t. slice_get (flaw_if (not t) i (Some n) UnknownType) 0) (known_at k index f.shape.class x ∙ ap is_some (sym g)))

pub known_end : (k : Classes) (i : ℕ) (fs : List Field) (n : ℕ) (layouts : List FieldLayout) → FieldsKnown k i fs n layouts → length fs ≤ n → flaws_in UnknownType (is_unknown k) i fs ≡ []
known_end k i fs n layouts s l = stage_none (found_unknown k i) fs n (flaws_in UnknownType (is_unknown k) i fs) s.left l

pub known_all : (k : Classes) (i : ℕ) (fs : List Field) (n : ℕ) (layouts : List FieldLayout) → FieldsKnown k i fs n layouts → length fs ≤ n → AreFieldLayouts k fs layouts
known_all k i fs n layouts s l = subst (λ z. AreFieldLayouts k z layouts) (take_all n fs l) s.found

-- What is found at a class.
abbrev pub found_unknowns : Classes → ℕ → Class → List ClassFlaw
found_unknowns k i c = flaws_in UnknownType (is_unknown k) i c.fields

-- The classes of the fields of the classes before an index are known, and these are their layouts.
pub record ClassesKnown (k : Classes) (n : ℕ) (all : List ClassLayout) : Type 0 where
  pub left : unknown k ≡ rest (found_unknowns k) k n
  pub found : AreClassLayouts k (take n k) all

pub classes_next : (k : Classes) (n : ℕ) (all more : List ClassLayout) (class_layout : ClassLayout) → ClassesKnown k n all → n < length k
    → IfSome (slice_get k n) (λ c. flaws_in UnknownType (is_unknown k) n c.fields ≡ []) → IfSome (slice_get k n) (λ c. IsClassLayout k c class_layout) → more ≡ all ++ class_layout ∷ []
    → ClassesKnown k (n + 1) more
classes_next k n all more class_layout s l none p m =
    let h = present k n l in
    record {
      left = stage_next (found_unknowns k) k n h.0 (unknown k) s.left h.1 (rw h.1 at none);
      found = rw (take_next k n h.0 h.1, m) (zip_push (IsClassLayout k) (take n k) all h.0 class_layout s.found (rw h.1 at p));
    }

pub classes_tell : (k : Classes) (n : ℕ) (all : List ClassLayout) (fault : ClassFault) → ClassesKnown k n all → n < length k
    → IfSome (slice_get k n) (λ c. IsFirstFlaw (flaws_in UnknownType (is_unknown k) n c.fields) fault) → IsFirstFlaw (unknown k) fault
classes_tell k n all fault s l t = let h = present k n l in stage_tells (found_unknowns k) k n h.0 (unknown k) fault s.left h.1 (rw h.1 at t)

pub classes_end : (k : Classes) (n : ℕ) (all : List ClassLayout) → ClassesKnown k n all → length k ≤ n → unknown k ≡ []
classes_end k n all s l = stage_none (found_unknowns k) k n (unknown k) s.left l

pub classes_all : (k : Classes) (n : ℕ) (all : List ClassLayout) → ClassesKnown k n all → length k ≤ n → AreClassLayouts k k all
classes_all k n all s l = subst (λ z. AreClassLayouts k z all) (take_all n k l) s.found
