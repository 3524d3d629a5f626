use Rattle.std.proofs.Common.{[], ◌∷◌, ◌++◌, arith, ap, sym, ◌∙◌}
use Rattle.jfr_layout.proofs.FieldsKnown.{known_next, known_tell}
use Rattle.jfr_layout.proofs.Lists.{item_at}
use Rattle.jfr_layout.proofs.resolved.layouts_of.Goals as goal

pub returns-in-None-clause-judged : goal.returns-in-None-clause-judged
returns-in-None-clause-judged c =
    let items = c.as_slice-field-items.result.now in
    let at = item_at items c.loop-number.number c.field-item.result (omega arith) c.field-item.is in
    rw (c.at.ensures, ← c.as_slice-field-items.ensures) (known_tell c.args.list.now c.args.class items c.loop-number.number c.args.index.now c.field-item.result c.loop-number.layouts.items
    c.requires.indexed c.loop-number.invariant at (sym c.in-None.is ∙ c.index_of.ensures))

pub loop-number-preserved : goal.loop-number-preserved
loop-number-preserved c =
    let items = c.as_slice-field-items.result.now in
    let at = item_at items c.loop-number.number c.field-item.result (omega arith) c.field-item.is in
    known_next c.args.list.now c.args.class items c.loop-number.number c.args.index.now c.args.kinds.now c.field-item.result c.loop-number.layouts.items c.push.new.self.items c.in-Some.class_index _
    c.requires.indexed c.requires.kinds c.loop-number.invariant at (sym c.in-Some.is ∙ c.index_of.ensures)
    (c.in_ok-push-in-Some.ensures.items ∙ ap (λ s. c.loop-number.layouts.items ++ s ∷ []) c.new.ensures)
