use Rattle.std.proofs.Common.{ap, sym, ◌∙◌}
use Rattle.std.specs.Str.{chars}
use Rattle.jfr_text.proofs.AsciiLaws.{utf8_text}
use Rattle.jfr_text.proofs.text.as_utf8.Goals as goal

pub returns-in-Ok : goal.returns-in-Ok
returns-in-Ok c = let same = c.in-Ok.ensures.cases in utf8_text c.args.bytes.now same.1 ∙ ap chars (sym same.0)
