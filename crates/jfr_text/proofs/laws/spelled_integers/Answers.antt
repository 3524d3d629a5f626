use Rattle.jfr_text.proofs.SpellLaws.{spelled_first}
use Rattle.jfr_text.proofs.laws.spelled_integers.Goals as goal

pub returns : goal.returns
returns c = λ bytes integers. spelled_first integers bytes
