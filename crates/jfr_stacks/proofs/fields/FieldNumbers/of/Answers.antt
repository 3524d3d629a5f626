use Rattle.std.specs.Prelude.{◌++◌, [], ◌∷◌, take}
use Rattle.std.specs.Str.{chars}
use Rattle.std.proofs.Common.{ap, arith, sym, ◌∙◌}
use Rattle.jfr_layout.specs.declared.class.ClassInfo.{ClassInfo}
use Rattle.jfr_layout.specs.Classes.{field_number}
use Rattle.jfr_layout.proofs.Lists.{listed_at, map_next}
use Rattle.jfr_stacks.specs.Frames.{field_numbers}
use Rattle.jfr_stacks.proofs.fields.FieldNumbers.of.Goals as goal

pub loop-class-preserved : goal.loop-class-preserved
loop-class-preserved c =
    let classes = c.args.classes.now in
    let i = c.loop-class.class-index in
    let at = listed_at c.as_slice-class-items.ensures i c.class-item.result (omega arith) c.class-item.is in
    c.in_ok-push.ensures.items
    ∙ (ap (λ xs. xs ++ c.number.result ∷ []) c.loop-class.invariant
    ∙ (ap (λ x. field_numbers (chars c.args.name.now) (take i classes) ++ x ∷ []) c.number.ensures
    ∙ sym (map_next (λ (k : ClassInfo). field_number k.fields (chars c.args.name.now)) classes i c.class-item.result at)))
