use Rattle.std.proofs.Common.{◌∙◌, ap, sym}
use Rattle.jfr_layout.specs.Names.{value_under}
use Rattle.jfr_verify.proofs.StringLaws.{adds_other, adds_some}
use Rattle.jfr_verify.proofs.strings.add_text.Goals as goal

pub returns-then-is_some : goal.returns-then-is_some
returns-then-is_some c = record {
  ok = adds_some c.args.strings.now c.args.firsts.now c.args.index c.number_of.result (c.number_of.ensures ∙ ap (value_under c.args.firsts.now) c.text_at-text.ensures)
      (sym c.is_some.ensures ∙ c.if-is_some.true);
}

pub returns : goal.returns
returns c = record {
  ok = adds_other c.args.strings.now c.args.firsts.now c.insert.new.self c.text_at-text.result.now c.args.index c.number_of.result c.text_at-text.utf8 c.text_at-text.ensures
      (c.number_of.ensures ∙ ap (value_under c.args.firsts.now) c.text_at-text.ensures) (sym c.is_some.ensures ∙ c.if-is_some.false) c.in_ok-insert.ensures.updates;
}
