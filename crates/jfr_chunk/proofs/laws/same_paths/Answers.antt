use Rattle.jfr_chunk.proofs.MeaningLaws.{same_meaning}
use Rattle.jfr_chunk.proofs.laws.same_paths.Goals as goal

pub returns : goal.returns
returns c = λ p q kept others a b k o h m. same_meaning p q a b kept others k o h m
