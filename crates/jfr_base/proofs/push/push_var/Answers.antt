use Rattle.std.proofs.Common.{◌++◌, ap, sym, ◌∙◌}
use Rattle.jfr_base.proofs.Writing.{spell_byte}
use Rattle.jfr_base.proofs.push.push_var.Goals as goal

pub returns-then-value-lt128 : goal.returns-then-value-lt128
returns-then-value-lt128 c = record { ok = c.in_ok-push.ensures.items ∙ ap (λ z. c.args.out.now.items ++ z) (sym (spell_byte c.args.value c.if-value-lt128.true)) }
