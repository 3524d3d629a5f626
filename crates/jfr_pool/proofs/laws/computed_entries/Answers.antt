use Rattle.jfr_pool.proofs.OneLaws.{computed_entries}
use Rattle.jfr_pool.proofs.laws.computed_entries.Goals as goal

pub returns : goal.returns
returns c = computed_entries
