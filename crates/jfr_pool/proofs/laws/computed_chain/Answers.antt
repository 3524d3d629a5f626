use Rattle.jfr_pool.proofs.OneLaws.{computed_chain}
use Rattle.jfr_pool.proofs.laws.computed_chain.Goals as goal

pub returns : goal.returns
returns c = λ b rs r cover listed type_is. computed_chain b rs cover r listed type_is
