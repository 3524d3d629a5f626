use Rattle.std.proofs.Common.{◌≡◌, ◌++◌, ◌∷◌, [], ap, arith, map, rules, take, sym, ◌∙◌}
use Rattle.std.specs.Option.{option_map_or}
use Rattle.std.proofs.lemmas.List.{take_all}
use Rattle.jfr_layout.proofs.Lists.{item_at, map_next}
use Rattle.jfr_mask.specs.Fields.{is_masked}
use Rattle.jfr_mask.proofs.fields.Selector.class_masks.Goals as goal

pub loop-field-preserved : goal.loop-field-preserved
loop-field-preserved c =
    let items = c.as_slice-field-items.result.now in
    let here = item_at items c.loop-field.field-index c.field-item.result (omega arith) c.field-item.is in
    let selector = c.args.self.now in
    let test = is_masked selector.strings.now (option_map_or (λ p. p.now) selector.except []) selector.classes.now c.args.class.now in
    let pushed : c.push.new.self.items ≡ c.loop-field.masked.items ++ c.in_ok-is_masked.is_masked ∷ [] = search rules in
    pushed
    ∙ (ap (λ z. z ++ c.in_ok-is_masked.is_masked ∷ []) c.loop-field.invariant
    ∙ (ap (λ z. map test (take c.loop-field.field-index items) ++ z ∷ []) c.in_ok-is_masked.ensures.ok
    ∙ sym (map_next test items c.loop-field.field-index c.field-item.result here)))

pub returns : goal.returns
returns c = record {
  ok = (let items = c.as_slice-field-items.result.now in
      let test = is_masked c.args.self.now.strings.now (option_map_or (λ p. p.now) c.args.self.now.except []) c.args.self.now.classes.now c.args.class.now in
      c.loop-field.invariant ∙ ap (map test) (take_all c.loop-field.field-index items (omega arith) ∙ c.as_slice-field-items.ensures));
}
