use Rattle.jfr_build.proofs.QuotedLaws.{text_unquoted}
use Rattle.jfr_build.proofs.laws.texts_are_unquoted.Goals as goal

pub returns : goal.returns
returns c = text_unquoted
