use Rattle.jfr_mask.proofs.NumberLaws.{are_numbered}
use Rattle.jfr_mask.proofs.laws.texts_are_numbered.Goals as goal

pub returns : goal.returns
returns c = are_numbered
