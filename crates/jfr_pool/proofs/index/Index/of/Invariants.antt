use Rattle.std.proofs.Common.{take}
use Rattle.jfr_pool.specs.Index.{Indexes}
use Rattle.jfr_pool.proofs.index.Index.of.Given as goal

abbrev pub invariant-loop-number : goal.invariant-loop-number
invariant-loop-number l = Indexes l.tables.by_class.items l.index (take l.number l.entries)
