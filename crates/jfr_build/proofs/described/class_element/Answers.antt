use Rattle.std.proofs.Common.{[], ◌+◌, ◌∷◌, ◌++◌, ap, arith, drop, length, sym, ◌∙◌}
use Rattle.std.specs.List.{slice_get}
use Rattle.std.specs.Prelude.{◌≡◌, Some}
use Rattle.jfr_layout.proofs.Lists.{item_at}
use Rattle.jfr_build.specs.Described.{field_texts, field_trees}
use Rattle.jfr_build.proofs.DescribedLaws.{fields_step, texts_step}
use Rattle.jfr_build.proofs.described.class_element.Goals as goal

pub loop-field-preserved : goal.loop-field-preserved
loop-field-preserved c =
    let made = c.in_ok-push-3.ensures.ok ∙ ap (λ z. c.loop-field.children ++ z ∷ []) c.in_ok-element.ensures.tree in
    let fields = c.args.class.now.fields in
    let i = c.loop-field.field-index in
    let field = c.field-item.result in
    let at : slice_get fields i ≡ Some field = ap (λ z. slice_get z i) (sym c.as_slice-field-items.ensures) ∙ item_at c.as_slice-field-items.result.now i field (omega arith) c.field-item.is in
    record {
      trees = c.loop-field.invariant.trees
          ∙ (fields_step fields i field c.loop-field.children c.loop-field.strings c.field_element.new.strings at c.in_ok-element.ensures.strings
          ∙ ap (λ z. z ++ field_trees (length c.field_element.new.strings) (drop (i + 1) fields)) (sym made));
      texts = c.loop-field.invariant.texts ∙ texts_step field_texts fields i field c.loop-field.strings c.field_element.new.strings at c.in_ok-element.ensures.strings;
    }
