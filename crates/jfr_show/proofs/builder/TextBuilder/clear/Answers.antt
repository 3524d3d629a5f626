use Rattle.std.proofs.Common.{ap, ◌∙◌}
use Rattle.std.proofs.lemmas.Str.{chars-nil}
use Rattle.std.specs.Str.{chars}
use Rattle.jfr_show.proofs.builder.TextBuilder.clear.Goals as goal

pub returns : goal.returns
returns c = ap chars c.clear.ensures.bytes ∙ chars-nil
