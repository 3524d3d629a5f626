use Rattle.std.proofs.Common.{◌≡◌, ◌&&◌, Bool, true, false, get_or, length, ap, arith, sym, ◌∙◌}
use Rattle.jfr_filter.proofs.AnyLaws.{any_end, any_found, any_next}
use Rattle.jfr_layout.proofs.Lists.{listed_at}
use Rattle.jfr_layout.specs.declared.class.FieldInfo.{FieldInfo}
use Rattle.jfr_mask.proofs.FieldLaws.{flag_is}
use Rattle.jfr_mask.proofs.fields.has_constant.Goals as goal

abbrev test : (FieldInfo → Bool) → FieldInfo → Bool
test f field = field.shape.constant && f field

pub returns-then-is_masked_constant : goal.returns-then-is_masked_constant
returns-then-is_masked_constant c = λ f e.
    let fields = c.args.class.now.fields in
    let field = c.field-item.result in
    let here = listed_at c.as_slice-field-items.ensures c.loop-number.number field (omega arith) c.field-item.is in
    let is : f field ≡ c.flag_at.result = sym (flag_is f fields c.loop-number.number field here) ∙ (ap (λ z. get_or z c.loop-number.number false) (sym e) ∙ sym c.flag_at.ensures) in
    let passes : test f field ≡ true = ap (λ b. field.shape.constant && b) is ∙ sym c.if-is_masked_constant.ensures in
    sym (any_found (test f) fields c.loop-number.number field here passes) ∙ c.loop-number.invariant f e

pub loop-number-preserved : goal.loop-number-preserved
loop-number-preserved c = λ f e.
    let fields = c.args.class.now.fields in
    let field = c.field-item.result in
    let here = listed_at c.as_slice-field-items.ensures c.loop-number.number field (omega arith) c.field-item.is in
    let is : f field ≡ c.flag_at.result = sym (flag_is f fields c.loop-number.number field here) ∙ (ap (λ z. get_or z c.loop-number.number false) (sym e) ∙ sym c.flag_at.ensures) in
    let fails : test f field ≡ false = ap (λ b. field.shape.constant && b) is ∙ sym c.if-is_masked_constant.ensures in
    any_next (test f) fields c.loop-number.number field here fails ∙ c.loop-number.invariant f e

pub returns : goal.returns
returns c = λ f e. sym (any_end (test f) c.args.class.now.fields c.loop-number.number (omega (arith, ap length c.as_slice-field-items.ensures))) ∙ c.loop-number.invariant f e
