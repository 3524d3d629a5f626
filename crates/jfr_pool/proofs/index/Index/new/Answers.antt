use Rattle.std.proofs.Common.{rules}
use Rattle.jfr_pool.proofs.IndexLaws.{indexes_none}
use Rattle.jfr_pool.proofs.index.Index.new.Goals as goal

pub returns : goal.returns
returns c = λ by_class. indexes_none by_class _ c.saturating_add.result (c.in_ok-slots.ensures.items_if_clones_equal (λ y q. search rules)) c.new.ensures.empty
