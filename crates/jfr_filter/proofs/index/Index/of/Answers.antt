use Rattle.std.proofs.Common.{◌≡◌, ◌∙◌, ap, sym, arith, length, take_all}
use Rattle.std.specs.Prelude.{◌||◌, Some, slice_get}
use Rattle.std.specs.List.{list_any}
use Rattle.std.specs.Str.{chars}
use Rattle.std.proofs.lemmas.Option.{slice_get-get_or}
use Rattle.jfr_filter.specs.Patterns.{glob}
use Rattle.jfr_filter.proofs.IndexLaws.{any_take, nothing_found}
use Rattle.jfr_filter.proofs.index.Index.of.Goals as goal

pub loop-number-init : goal.loop-number-init
loop-number-init c = λ text u. nothing_found c.new.result c.new-2.result.items c.args.patterns.now text c.new.ensures.empty c.new-2.ensures.items

pub loop-number-preserved : goal.loop-number-preserved
loop-number-preserved c = λ text u.
    (let patterns = c.args.patterns.now in
    let number = c.loop-number.number in
    let pattern = chars c.as_str.result.now in
    let item = slice_get-get_or c.as_slice-pattern-items.result.now number c.pattern-item.result (omega arith) ∙ ap Some (sym c.pattern-item.is ∙ sym c.as_str.ensures) in
    let at : slice_get patterns number ≡ Some pattern = ap (λ z. slice_get z number) (sym c.as_slice-pattern-items.ensures) ∙ item in
    c.in_ok-add.ensures.ok patterns text at u
    ∙ (ap (λ z. z || glob pattern (chars text)) (c.loop-number.invariant text u)
    ∙ sym (any_take (λ p. glob p (chars text)) patterns number pattern at)))

pub returns : goal.returns
returns c = record {
  ok = λ text u.
      (c.loop-number.invariant text u
      ∙ ap (list_any (λ p. glob p (chars text))) (take_all c.loop-number.number c.args.patterns.now (omega (arith, ap length c.as_slice-pattern-items.ensures))));
}
