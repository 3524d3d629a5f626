use Rattle.std.proofs.Common.{ap, sym, length}
use Rattle.jfr_meta.specs.Written.{capped}
use Rattle.jfr_meta.proofs.WrittenLaws.{text_empty, text_measured}
use Rattle.jfr_meta.proofs.write.text_len.Goals as goal

pub returns-then-is_empty : goal.returns-then-is_empty
returns-then-is_empty c = ap (λ z. capped (length z)) (sym (text_empty c.args.text.now (sym c.if-is_empty.ensures)))

pub returns : goal.returns
returns c = text_measured c.args.text.now c.saturating_add.result c.var_len.result c.utf8.text (sym c.if-is_empty.ensures) c.saturating_add.ensures c.var_len.ensures.exact
