use Rattle.std.proofs.Common.{◌≡◌, ℕ, ◌<◌}
use Rattle.std.specs.Prelude.{slice_get, Some}
use Rattle.jfr_layout.specs.declared.field_layout.FieldLayout.{FieldLayout}
use Rattle.jfr_mask.specs.Plain.{LayoutIsPlain}
use Rattle.jfr_mask.proofs.plain.are_plain_fields.Given as goal

abbrev pub invariant-loop-number : goal.invariant-loop-number
invariant-loop-number l = (number : ℕ) → number < l.number → (s : FieldLayout) → slice_get l.layouts number ≡ Some s → LayoutIsPlain l.masked l.flags l.index number s
