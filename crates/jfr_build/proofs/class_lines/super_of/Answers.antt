use Rattle.std.proofs.Common.{Some, ap, ◌∙◌}
use Rattle.jfr_build.proofs.LineLaws.{event_chars}
use Rattle.jfr_build.proofs.class_lines.super_of.Goals as goal

pub returns : goal.returns
returns c = record { ok = rw c.if-not-event.false (ap (λ z. Some z) (c.in_ok-make.ensures.ok ∙ event_chars)) }
