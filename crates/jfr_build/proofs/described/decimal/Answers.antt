use Rattle.std.proofs.Common.{◌≡◌, subst, ◌∙◌, ap}
use Rattle.std.specs.Prelude.{IfOk}
use Rattle.std.specs.Str.{chars}
use Rattle.jfr_build.proofs.DescribedLaws.{decimal_chars}
use Rattle.jfr_build.proofs.described.decimal.Goals as goal

pub returns : goal.returns
returns c = record { ok = subst (λ z. IfOk c.from_string.result (λ text. text ≡ z)) (ap chars c.in_ok-format.ensures.ok ∙ decimal_chars c.args.number c.ranges.number.fits) c.from_string.ensures.ok }
