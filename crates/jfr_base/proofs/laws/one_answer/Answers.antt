use Rattle.jfr_base.proofs.OneAnswer.{has_one_answer}
use Rattle.jfr_base.proofs.laws.one_answer.Goals as goal

pub returns : goal.returns
returns g c = λ f x at end. has_one_answer f x end at
