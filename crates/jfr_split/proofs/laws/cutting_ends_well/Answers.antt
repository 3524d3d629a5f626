use Rattle.jfr_split.proofs.EndsWell.{cutting_well}
use Rattle.jfr_split.proofs.laws.cutting_ends_well.Goals as goal

pub returns : goal.returns
returns c = λ rule file recording. cutting_well rule file recording
