use Rattle.std.proofs.Common.{◌≡◌, ◌+◌, [], drop, length, arith, ap, sym, ◌∙◌}
use Rattle.std.specs.Str.{encode_utf8_all}
use Rattle.std.proofs.lemmas.List.{drop_all}
use Rattle.std.proofs.lemmas.Str.{encodes-chars}
use Rattle.serde_json.specs.View.{view, members_view}
use Rattle.jfr_show.specs.Json.{members_with}
use Rattle.jfr_show.specs.Orders.{numbers}
use Rattle.jfr_show.proofs.LineLaws.{fields_from}
use Rattle.jfr_show.proofs.ListingLaws.{item_of}
use Rattle.jfr_show.proofs.OrderLaws.{one_number}
use Rattle.jfr_show.proofs.json.order.numbered.Goals as goal

pub loop-number-init : goal.loop-number-init
loop-number-init c = ap (λ z. members_with (members_view z) c.args.fields.now (numbers 0 c.args.fields.now)) c.new-members.ensures.empty

pub loop-number-preserved : goal.loop-number-preserved
loop-number-preserved c =
    let n = c.loop-number.number in
    let fs = c.args.fields.now in
    let field = c.field-item.result in
    let at = item_of fs c.as_slice-field-items.result.now n field c.as_slice-field-items.ensures (omega arith) c.field-item.is in
    let key = sym (encodes-chars c.as_str.result.now c.as_str.utf8) ∙ ap encode_utf8_all c.as_str.ensures in
    sym (one_number (drop n fs) (drop (n + 1) fs) field n c.as_str.result.now (view c.from.result) (members_view c.loop-number.members.entries) (members_view c.put.new.map.entries)
    (fields_from fs n field at) key c.from.ensures c.in_ok-put.ensures.ok)
    ∙ c.loop-number.invariant

pub returns : goal.returns
returns c =
    let n = c.loop-number.number in
    let fs = c.args.fields.now in
    let none : drop n fs ≡ [] = drop_all n fs (omega (arith, ap length c.as_slice-field-items.ensures)) in
    record { ok = sym (ap (λ z. members_with (members_view c.loop-number.members.entries) z (numbers n z)) none) ∙ c.loop-number.invariant }
