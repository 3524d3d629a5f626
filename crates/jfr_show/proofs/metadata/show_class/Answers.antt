use Rattle.std.proofs.Common.{arith}
use Rattle.jfr_show.specs.Metadata.{field_line}
use Rattle.jfr_show.proofs.ListingLaws.{item_of, pieces_more}
use Rattle.jfr_show.proofs.metadata.show_class.Goals as goal

pub loop-field-preserved : goal.loop-field-preserved
loop-field-preserved c =
    let fields = c.args.class.now.fields in
    let i = c.loop-field.field-index in
    let field = c.field-item.result in
    let at = item_of fields c.as_slice-field-items.result.now i field c.as_slice-field-items.ensures (omega arith) c.field-item.is in
    pieces_more (field_line c.args.classes.now) fields i field c.show_categories.new.out c.loop-field.out c.show_field.new.out at c.loop-field.invariant c.in_ok-show_field.ensures.ok
