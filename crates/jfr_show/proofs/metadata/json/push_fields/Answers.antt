use Rattle.std.proofs.Common.{ap, arith, length, string_bytes}
use Rattle.jfr_show.specs.Metadata.{field_json}
use Rattle.jfr_show.proofs.ArrayLaws.{next_written, none_written, whole_written}
use Rattle.jfr_show.proofs.ListingLaws.{item_of}
use Rattle.jfr_show.proofs.metadata.json.push_fields.Goals as goal

pub loop-field-init : goal.loop-field-init
loop-field-init c = none_written (field_json c.args.chunk.now.classes) (string_bytes c.push_str.new.self)

pub loop-field-preserved : goal.loop-field-preserved
loop-field-preserved c =
    let i = c.loop-field.field-index in
    let field = c.field-item.result in
    let at = item_of c.args.fields.now c.as_slice-field-items.result.now i field c.as_slice-field-items.ensures (omega arith) c.field-item.is in
    next_written (field_json c.args.chunk.now.classes) c.args.fields.now i field c.loop-field.later (string_bytes c.push_str.new.self) (string_bytes c.loop-field.out)
    (string_bytes c.push_comma.new.out) (string_bytes c.push_field.new.out) at c.loop-field.invariant c.in_ok-push_comma.ensures.ok c.in_ok-push_field.ensures.ok

pub returns : goal.returns
returns c = record {
  ok = whole_written (field_json c.args.chunk.now.classes) c.args.fields.now c.loop-field.field-index c.loop-field.later (string_bytes c.args.out.now)
      (string_bytes c.push_str.new.self) (string_bytes c.loop-field.out) (string_bytes c.push_str-2.new.self)
      (omega (arith, ap length c.as_slice-field-items.ensures)) c.in_ok-push_str.ensures.bytes c.loop-field.invariant c.in_ok-push_str-2.ensures.bytes;
}
