use Rattle.jfr_base.proofs.OneAnswer.{is_computed}
use Rattle.jfr_base.proofs.laws.computed_answer.Goals as goal

pub returns : goal.returns
returns g c = λ f x at end. is_computed f x end at
