use Rattle.std.proofs.Common.{◌≡◌, ◌≤◌, Some, ap, arith, length, sym, ◌∙◌}
use Rattle.std.specs.Prelude.{slice_get}
use Rattle.jfr_layout.proofs.Lists.{item_at}
use Rattle.jfr_layout.proofs.Numbered.{numbered_again, numbered_all, numbered_new}
use Rattle.jfr_layout.proofs.numbers.number_names.Goals as goal

pub loop-number-preserved-in-Some : goal.loop-number-preserved-in-Some
loop-number-preserved-in-Some c =
    let l = c.loop-number in
    let items = c.as_slice-field-items.result.now in
    let at : slice_get c.args.fields.now l.number ≡ Some c.field-item.result =
    ap (λ z. slice_get z l.number) (sym c.as_slice-field-items.ensures) ∙ item_at items l.number c.field-item.result (omega arith) c.field-item.is in
    rw c.in_ok-push.ensures.items
    (numbered_again c.args.fields.now l.number l.firsts l.numbers.items c.field-item.result c.as_str-name.result.now l.invariant at c.as_str-name.utf8 c.as_str-name.ensures c.in-Some.first.now
    c.in-Some.ensures.value)

pub loop-number-preserved : goal.loop-number-preserved
loop-number-preserved c =
    let l = c.loop-number in
    let items = c.as_slice-field-items.result.now in
    let at : slice_get c.args.fields.now l.number ≡ Some c.field-item.result =
    ap (λ z. slice_get z l.number) (sym c.as_slice-field-items.ensures) ∙ item_at items l.number c.field-item.result (omega arith) c.field-item.is in
    rw c.in_ok-push-2.ensures.items
    (numbered_new c.args.fields.now l.number l.firsts l.numbers.items c.field-item.result c.as_str-name.result.now l.invariant at c.as_str-name.utf8 c.as_str-name.ensures c.insert.new.self
    c.in_default.ensures.value c.in_ok-insert.ensures.updates)

pub returns : goal.returns
returns c =
    let l : length c.args.fields.now ≤ c.loop-number.number = omega (arith, ap length c.as_slice-field-items.ensures) in
    record { ok = numbered_all c.args.fields.now c.loop-number.number c.loop-number.firsts c.loop-number.numbers.items c.loop-number.invariant l }
