use Rattle.std.proofs.Common.{◌∙◌, refl}
use Rattle.std.specs.Str.{chars}
use Rattle.jfr_layout.proofs.Numbered.{number_found}
use Rattle.jfr_verify.proofs.strings.number_of.Goals as goal

pub returns : goal.returns
returns c = number_found c.args.firsts.now c.args.text.now (chars c.args.text.now) c.utf8.text refl c.copied.result (c.copied.ensures ∙ c.get.ensures.value)
