use Rattle.jfr_pool.proofs.OneLaws.{one_chain}
use Rattle.jfr_pool.proofs.laws.one_chain.Goals as goal

pub returns : goal.returns
returns c = λ b rs at cover starts. one_chain b rs cover at starts
