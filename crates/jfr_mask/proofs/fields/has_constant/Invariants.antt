use Rattle.std.proofs.Common.{◌≡◌, ◌&&◌, Bool, drop, map}
use Rattle.std.specs.List.{list_any}
use Rattle.jfr_layout.specs.declared.class.FieldInfo.{FieldInfo}
use Rattle.jfr_mask.proofs.fields.has_constant.Given as goal

abbrev pub invariant-loop-number : goal.invariant-loop-number
invariant-loop-number l =
    (f : FieldInfo → Bool) → l.masked ≡ map f l.class.fields
    → list_any (λ field. field.shape.constant && f field) (drop l.number l.class.fields) ≡ list_any (λ field. field.shape.constant && f field) l.class.fields
