-- The indices of the classes of fields and of ids.
use Rattle.std.proofs.Common.{◌≡◌, ℕ, ◌<◌, [], length, Option, Some, None, Bool, true, false, not, sym, ◌∙◌, ap, refl}
use Rattle.std.specs.Prelude.{is_some, ◌==◌}
use Rattle.std.specs.List.{slice_get}
use Rattle.std.specs.Option.{IfSome, option_and_then}
use Rattle.jfr_base.specs.declared.reason.Reason.TheVariants.{UnknownType}
use Rattle.jfr_layout.specs.Classes.{Class, Classes, Field, field_at, unknown, is_unknown, class_index, find_class}
use Rattle.jfr_layout.proofs.FieldsKnown.{found_unknown, found_unknowns}
use Rattle.jfr_layout.proofs.Lists.{none_at, value_in, chained, absent}
use Rattle.jfr_layout.proofs.Stages.{no_flaw}
use Rattle.jfr_layout.proofs.Indices.{is_some-find, find-position, index_within}

is_known : (t : Bool) → not t ≡ false → t ≡ true
is_known true e = refl
is_known false e = cc

-- If no field's class is unknown, each has an index.
pub known_index : (k : Classes) (i j : ℕ) (f : Field) → unknown k ≡ [] → field_at k i j ≡ Some f → (p : ℕ) × (class_index k f.shape.class ≡ Some p)
known_index k i j f u e =
    let c = chained (λ (c : Class). slice_get c.fields j) (slice_get k i) f e in
    let n = none_at (found_unknown k i) c.0.fields j f (none_at (found_unknowns k) k i c.0 u c.1) c.2 in
    let s = is_known (is_some (find_class k f.shape.class)) (no_flaw (is_unknown k f) i (Some j) UnknownType n) in
    value_in (class_index k f.shape.class) (sym (is_some-find (λ (d : Class). d.id == f.shape.class) k) ∙ s)

-- The class at the index of an id is the class with the id.
pub indexed_class : (k : Classes) (id : ℕ) (o : Option ℕ) → o ≡ class_index k id → option_and_then (slice_get k) o ≡ find_class k id
indexed_class k id None e = sym (absent (find_class k id) (is_some-find (λ (c : Class). c.id == id) k ∙ ap is_some (sym e)))
indexed_class k id (Some p) e = sym (find-position (λ (c : Class). c.id == id) k p (sym e))

pub indexed_within : (k : Classes) (id : ℕ) (o : Option ℕ) → o ≡ class_index k id → IfSome o (λ p. p < length k)
indexed_within k id None e = tt
indexed_within k id (Some p) e = index_within k id p (sym e)
