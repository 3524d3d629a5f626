use Rattle.std.proofs.Common.{◌≡◌, arith, slice_get, Some, subst}
use Rattle.std.proofs.lemmas.Option.{get_or_from_slice_get, slice_get_within}
use Rattle.jfr_layout.specs.declared.field_layout.FieldLayout.{FieldLayout}
use Rattle.jfr_mask.specs.Plain.{LayoutIsPlain}
use Rattle.jfr_mask.proofs.PlainLaws.{below_next}
use Rattle.jfr_mask.proofs.plain.are_plain_fields.Goals as goal

pub loop-number-preserved : goal.loop-number-preserved
loop-number-preserved c =
    below_next (λ n. (s : FieldLayout) → slice_get c.args.layouts.now n ≡ Some s → LayoutIsPlain c.args.masked.now c.args.flags.now c.args.index n s) c.loop-number.number c.loop-number.invariant
    (λ s e. subst (LayoutIsPlain c.args.masked.now c.args.flags.now c.args.index c.loop-number.number) (get_or_from_slice_get c.args.layouts.now c.loop-number.number s _ e)
    (c.is_plain_field.ensures c.if-not-is_plain_field.false))

pub returns : goal.returns
returns c = λ t n s e. c.loop-number.invariant n (let w = slice_get_within c.args.layouts.now n s e in omega (arith, w, c.loop-number-test.false)) s e
