use Rattle.jfr_chunk.proofs.ChainAnswers.{one_answer}
use Rattle.jfr_chunk.proofs.laws.one_answer.Goals as goal

pub returns : goal.returns
returns c = λ b long. one_answer b long
