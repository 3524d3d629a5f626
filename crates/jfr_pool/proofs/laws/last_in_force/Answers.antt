use Rattle.jfr_pool.proofs.OneLaws.{last_is}
use Rattle.jfr_pool.proofs.laws.last_in_force.Goals as goal

pub returns : goal.returns
returns c = last_is
