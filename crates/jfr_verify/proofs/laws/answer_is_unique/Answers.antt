use Rattle.jfr_verify.proofs.UniqueLaws.{checked_once}
use Rattle.jfr_verify.proofs.laws.answer_is_unique.Goals as goal

pub returns : goal.returns
returns c = λ p q kept r x y h k. checked_once p q kept r x y h k
