use Rattle.std.proofs.Common.{ap, sym, ◌∙◌}
use Rattle.std.proofs.lemmas.Str.{chars-IsAscii}
use Rattle.std.specs.Str.{chars}
use Rattle.jfr_text.proofs.text.as_ascii.Goals as goal

pub returns-in-Ok : goal.returns-in-Ok
returns-in-Ok c =
    let ascii = c.if-not-is_ascii.ensures.cases in
    (ascii, sym (chars-IsAscii c.args.bytes.now ascii) ∙ ap chars (sym c.in-Ok.ensures.cases.0))
