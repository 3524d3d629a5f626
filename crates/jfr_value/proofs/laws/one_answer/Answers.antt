use Rattle.jfr_value.proofs.AnswerLaws.{some_known, value_answer}
use Rattle.jfr_value.proofs.laws.one_answer.Goals as goal

pub returns : goal.returns
returns c = λ k b s at end sound known o h. value_answer k b s at end sound (some_known k s known) o h
