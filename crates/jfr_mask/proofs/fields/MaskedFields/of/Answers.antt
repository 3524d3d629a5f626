use Rattle.std.proofs.Common.{◌≡◌, ◌&&◌, ◌||◌, ◌++◌, ◌∷◌, [], Bool, List, ap, arith, map, rules, sym, take, ◌∙◌}
use Rattle.std.specs.List.{list_any}
use Rattle.std.specs.Option.{option_map_or}
use Rattle.std.proofs.lemmas.List.{map-append}
use Rattle.jfr_layout.specs.Classes.{Class}
use Rattle.jfr_layout.proofs.Lists.{item_at, map_next}
use Rattle.jfr_mask.specs.Fields.{is_masked}
use Rattle.jfr_mask.proofs.FieldLaws.{any_taken}
use Rattle.jfr_mask.proofs.fields.MaskedFields.of.Goals as goal

pub loop-class-preserved : goal.loop-class-preserved
loop-class-preserved c =
    let masks : Class → List Bool = λ class. map (is_masked c.args.strings.now (option_map_or (λ p. p.now) c.args.except []) c.args.classes.now class) class.fields in
    let constants : Class → Bool = λ class. list_any (λ f. f.shape.constant && is_masked c.args.strings.now (option_map_or (λ p. p.now) c.args.except []) c.args.classes.now class f) class.fields in
    let k = c.as_slice-class-items.result.now in
    let class = c.class-item.result in
    let here = item_at k c.loop-class.class-index class (omega arith) c.class-item.is in
    let pushed : c.push.new.self.items ≡ c.loop-class.fields.items ++ c.in_ok-masked.masked ∷ [] = search rules in (
      ap (map (λ flags. flags.items)) pushed
          ∙ (map-append (λ flags. flags.items) c.loop-class.fields.items (c.in_ok-masked.masked ∷ [])
          ∙ (ap (λ z. z ++ c.in_ok-masked.masked.items ∷ []) c.loop-class.invariant.0
          ∙ (ap (λ z. map masks (take c.loop-class.class-index k) ++ z ∷ []) c.in_ok-masked.ensures.ok
          ∙ sym (map_next masks k c.loop-class.class-index class here)))),
      ap (λ b. b || c.has_constant-constants.result) c.loop-class.invariant.1
          ∙ (ap (λ b. list_any constants (take c.loop-class.class-index k) || b)
          (c.has_constant-constants.ensures (is_masked c.args.strings.now (option_map_or (λ p. p.now) c.args.except []) c.args.classes.now class) (c.deref.ensures.value ∙ c.in_ok-masked.ensures.ok))
          ∙ sym (any_taken constants k c.loop-class.class-index class here)),
    )
