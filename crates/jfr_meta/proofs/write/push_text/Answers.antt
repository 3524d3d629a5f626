use Rattle.std.proofs.Common.{sym, ◌∙◌, ap, ◌++◌}
use Rattle.jfr_meta.proofs.WrittenLaws.{text_empty, text_steps}
use Rattle.jfr_meta.proofs.write.push_text.Goals as goal

pub returns-then-is_empty : goal.returns-then-is_empty
returns-then-is_empty c = record { ok = c.in_ok-push.ensures.items ∙ ap (λ z. c.args.out.now.items ++ z) (sym (text_empty c.args.text.now (sym c.if-is_empty.ensures))) }

pub returns : goal.returns
returns c = record {
  ok = text_steps c.args.text.now c.args.out.now.items c.push-2.new.self.items c.push_var.new.out.items c.extend_from_slice.new.self.items c.as_bytes.result.now c.utf8.text (sym c.if-is_empty.ensures)
      c.in_ok-push-2.ensures.items c.in_ok-push_var.ensures.ok c.in_ok-extend_from_slice.ensures.items c.as_bytes.ensures.value;
}
