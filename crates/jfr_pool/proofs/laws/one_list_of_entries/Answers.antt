use Rattle.jfr_pool.proofs.OneLaws.{one_list}
use Rattle.jfr_pool.proofs.laws.one_list_of_entries.Goals as goal

pub returns : goal.returns
returns c = one_list
