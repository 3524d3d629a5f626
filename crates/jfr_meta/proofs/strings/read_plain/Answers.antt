use Rattle.std.proofs.Common.{Err, ap, sym, ◌∙◌, arith}
use Rattle.jfr_text.proofs.KeylessLaws.{keyless_same, keyless_key}
use Rattle.jfr_meta.proofs.Table.{no_string}
use Rattle.jfr_meta.proofs.strings.read_plain.Goals as goal

pub returns-then-at-end-clause-exact : goal.returns-then-at-end-clause-exact
returns-then-at-end-clause-exact c = ap (λ flaw. Err flaw) c.short.ensures ∙ sym (no_string c.args.bytes.now c.args.end c.args.at (omega arith))

pub returns-then-bytes-at-eq-KEY-clause-exact : goal.returns-then-bytes-at-eq-KEY-clause-exact
returns-then-bytes-at-eq-KEY-clause-exact c = sym (keyless_key c.args.bytes.now c.args.end c.args.at (omega arith) c.if-bytes-at-eq-KEY.true)

pub returns-clause-exact : goal.returns-clause-exact
returns-clause-exact c = c.read_string.ensures.exact ∙ sym (keyless_same c.args.bytes.now c.args.end c.args.at c.if-bytes-at-eq-KEY.false)
