use Rattle.jfr_build.proofs.TakenLaws.{taken_exactly}
use Rattle.jfr_build.proofs.laws.words_are_taken.Goals as goal

pub returns : goal.returns
returns c = λ k s words v sound. taken_exactly k s words v sound
