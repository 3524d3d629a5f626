use Rattle.std.proofs.Common.{◌∙◌, ap}
use Rattle.std.specs.Str.{chars, bytes_eq}
use Rattle.jfr_base.proofs.TextLaws.{bytes_eq-chars}
use Rattle.jfr_layout.proofs.name.is_text.Goals as goal

pub returns : goal.returns
returns c = c.eq.ensures ∙ (bytes_eq-chars c.as_str.result.now c.args.other.now c.as_str.utf8 c.utf8.other ∙ ap (λ t. bytes_eq t (chars c.args.other.now)) c.as_str.ensures)
