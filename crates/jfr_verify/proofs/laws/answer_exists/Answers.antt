use Rattle.jfr_verify.proofs.AnswerLaws.{verdict}
use Rattle.jfr_verify.proofs.laws.answer_exists.Goals as goal

pub returns : goal.returns
returns c = λ p q kept r. verdict p q kept r
