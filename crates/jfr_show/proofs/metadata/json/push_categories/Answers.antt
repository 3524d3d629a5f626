use Rattle.std.proofs.Common.{ap, arith, length, string_bytes}
use Rattle.jfr_show.specs.Json.{text_json}
use Rattle.jfr_show.proofs.ArrayLaws.{next_written, none_written, whole_written}
use Rattle.jfr_show.proofs.ListingLaws.{item_of}
use Rattle.jfr_show.proofs.ObjectLaws.{text_added}
use Rattle.jfr_show.proofs.metadata.json.push_categories.Goals as goal

pub loop-category-init : goal.loop-category-init
loop-category-init c = none_written text_json (string_bytes c.push_str.new.self)

pub loop-category-preserved : goal.loop-category-preserved
loop-category-preserved c =
    let i = c.loop-category.category-index in
    let category = c.category-item.result in
    let at = item_of c.args.categories.now c.as_slice-category-items.result.now i category c.as_slice-category-items.ensures (omega arith) c.category-item.is in
    let spaced = string_bytes c.push_comma.new.out in
    let new = string_bytes c.push_string.new.out in
    let pushed = text_added spaced new c.as_str.result.now category c.as_str.utf8 c.as_str.ensures c.in_ok-push_string.ensures.ok in
    next_written text_json c.args.categories.now i category c.loop-category.later (string_bytes c.push_str.new.self)
    (string_bytes c.loop-category.out) spaced new at c.loop-category.invariant c.in_ok-push_comma.ensures.ok pushed

pub returns : goal.returns
returns c = record {
  ok = whole_written text_json c.args.categories.now c.loop-category.category-index c.loop-category.later (string_bytes c.args.out.now) (string_bytes c.push_str.new.self)
      (string_bytes c.loop-category.out) (string_bytes c.push_str-2.new.self) (omega (arith, ap length c.as_slice-category-items.ensures)) c.in_ok-push_str.ensures.bytes c.loop-category.invariant
      c.in_ok-push_str-2.ensures.bytes;
}
