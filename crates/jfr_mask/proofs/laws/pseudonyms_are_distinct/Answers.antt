use Rattle.jfr_mask.proofs.ShownLaws.{are_distinct}
use Rattle.jfr_mask.proofs.laws.pseudonyms_are_distinct.Goals as goal

pub returns : goal.returns
returns c = are_distinct
