use Rattle.std.proofs.Common.{refl}
use Rattle.jfr_pool.proofs.table.Table.of.Goals as goal

pub returns : goal.returns
returns c = (refl, refl, c.in_ok-vec.ensures.items_if_clones_equal (λ y e. e))
