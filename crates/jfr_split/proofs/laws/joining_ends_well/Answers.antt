use Rattle.jfr_split.proofs.EndsWell.{assembling_well}
use Rattle.jfr_split.proofs.laws.joining_ends_well.Goals as goal

pub returns : goal.returns
returns c = assembling_well
