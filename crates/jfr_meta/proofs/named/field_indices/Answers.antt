use Rattle.std.proofs.Common.{arith}
use Rattle.jfr_meta.proofs.NamedLaws.{fields_next}
use Rattle.jfr_meta.proofs.named.field_indices.Goals as goal

pub loop-field-preserved : goal.loop-field-preserved
loop-field-preserved c =
    let l = c.loop-field in
    fields_next c.args.strings.now c.deref-field-items.result.now l.field-index c.field-item.result l.indices.items c.add_field.new.indices.items
    (omega arith) c.field-item.is l.invariant c.in_ok-add_field.ensures.ok
