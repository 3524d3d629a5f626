use Rattle.jfr_build.proofs.TakenLaws.{taken_read}
use Rattle.jfr_build.proofs.laws.taken_values_are_read.Goals as goal

pub returns : goal.returns
returns c = λ k s words v sound. taken_read k s words v sound
