use Rattle.jfr_chunk.proofs.ChainAnswers.{is_computed}
use Rattle.jfr_chunk.proofs.laws.computed_answer.Goals as goal

pub returns : goal.returns
returns c = λ b long. is_computed b long
