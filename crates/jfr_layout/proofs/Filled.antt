-- The inline fields of classes without fields, looked for one by one.
use Rattle.std.proofs.Common.{◌≡◌, ℕ, ◌+◌, ◌<◌, ◌≤◌, List, [], length, Some, Bool, true, false, sym, ◌∙◌, ap, refl}
use Rattle.std.specs.List.{slice_get}
use Rattle.std.specs.Option.{IfSome}
use Rattle.jfr_base.specs.declared.reason.Reason.TheVariants.{EmptyInline}
use Rattle.jfr_layout.specs.declared.fault.ClassFault.{ClassFault}
use Rattle.jfr_layout.specs.declared.fault.ClassFault.TheVariants.{Flawed}
use Rattle.jfr_layout.specs.Classes.{Class, Classes, Field, ClassFlaw, IsFirstFlaw, flaw_if, flaws_in, empty_inline, is_empty_inline, field_at}
use Rattle.jfr_layout.proofs.Lists.{present}
use Rattle.jfr_layout.proofs.Stages.{rest, stage_next, stage_tells, stage_none}
use Rattle.jfr_layout.proofs.Steps.{field_of}

-- What is found at a field.
abbrev pub found_empty : Classes → ℕ → ℕ → Field → List ClassFlaw
found_empty k i j f = flaw_if (is_empty_inline k f) i (Some j) EmptyInline

-- None of the fields before a number is such a one.
pub record FieldsFilled (k : Classes) (i n : ℕ) : Type 0 where
  pub left : IfSome (slice_get k i) (λ c. flaws_in EmptyInline (is_empty_inline k) i c.fields ≡ rest (found_empty k i) c.fields n)

pub filled_none : (k : Classes) (i : ℕ) (c : Class) → slice_get k i ≡ Some c → FieldsFilled k i 0
filled_none k i c e = record { left = rw e refl }

-- The test of a field gives what the definition says.
tested : (k : Classes) (i n : ℕ) (c : Class) (f : Field) (t : Bool) → slice_get k i ≡ Some c → slice_get c.fields n ≡ Some f → IfSome (field_at k i n) (λ g. t ≡ is_empty_inline k g)
    → t ≡ is_empty_inline k f
tested k i n c f t e s h = rw (field_of k i n c f e s) at h

pub filled_next : (k : Classes) (i n : ℕ) (c : Class) (t : Bool) → slice_get k i ≡ Some c → FieldsFilled k i n → n < length c.fields
    → IfSome (field_at k i n) (λ g. t ≡ is_empty_inline k g) → t ≡ false → FieldsFilled k i (n + 1)
filled_next k i n c t e s l h u =
    let f = present c.fields n l in
    record {
      left = rw e (stage_next (found_empty k i) c.fields n f.0 (flaws_in EmptyInline (is_empty_inline k) i c.fields) (rw e at s.left) f.1
          (ap (λ b. flaw_if b i (Some n) EmptyInline) (sym (tested k i n c f.0 t e f.1 h) ∙ u)));
    }

pub filled_tell : (k : Classes) (i n : ℕ) (c : Class) (t : Bool) → slice_get k i ≡ Some c → FieldsFilled k i n → n < length c.fields
    → IfSome (field_at k i n) (λ g. t ≡ is_empty_inline k g) → t ≡ true → IsFirstFlaw (flaws_in EmptyInline (is_empty_inline k) i c.fields) (Flawed i (Some n) EmptyInline)
filled_tell k i n c t e s l h u =
    let f = present c.fields n l in
    stage_tells (found_empty k i) c.fields n f.0 (flaws_in EmptyInline (is_empty_inline k) i c.fields) (Flawed i (Some n) EmptyInline) (rw e at s.left) f.1
    (ap (λ b. slice_get (flaw_if b i (Some n) EmptyInline) 0) (sym (tested k i n c f.0 t e f.1 h) ∙ u))

pub filled_end : (k : Classes) (i n : ℕ) (c : Class) → slice_get k i ≡ Some c → FieldsFilled k i n → length c.fields ≤ n → flaws_in EmptyInline (is_empty_inline k) i c.fields ≡ []
filled_end k i n c e s l = stage_none (found_empty k i) c.fields n (flaws_in EmptyInline (is_empty_inline k) i c.fields) (rw e at s.left) l

-- What is found at a class.
abbrev pub found_empties : Classes → ℕ → Class → List ClassFlaw
found_empties k i c = flaws_in EmptyInline (is_empty_inline k) i c.fields

pub record ClassesFilled (k : Classes) (n : ℕ) : Type 0 where
  pub left : empty_inline k ≡ rest (found_empties k) k n

pub empties_next : (k : Classes) (n : ℕ) → ClassesFilled k n → n < length k → IfSome (slice_get k n) (λ c. flaws_in EmptyInline (is_empty_inline k) n c.fields ≡ []) → ClassesFilled k (n + 1)
empties_next k n s l none = let h = present k n l in record { left = stage_next (found_empties k) k n h.0 (empty_inline k) s.left h.1 (rw h.1 at none) }

pub empties_tell : (k : Classes) (n : ℕ) (fault : ClassFault) → ClassesFilled k n → n < length k → IfSome (slice_get k n) (λ c. IsFirstFlaw (flaws_in EmptyInline (is_empty_inline k) n c.fields) fault)
    → IsFirstFlaw (empty_inline k) fault
empties_tell k n fault s l t = let h = present k n l in stage_tells (found_empties k) k n h.0 (empty_inline k) fault s.left h.1 (rw h.1 at t)

pub empties_end : (k : Classes) (n : ℕ) → ClassesFilled k n → length k ≤ n → empty_inline k ≡ []
empties_end k n s l = stage_none (found_empties k) k n (empty_inline k) s.left l
