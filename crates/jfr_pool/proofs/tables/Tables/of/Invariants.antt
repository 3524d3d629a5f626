use Rattle.std.proofs.Common.{take}
use Rattle.jfr_pool.specs.Tables.{AreTables}
use Rattle.jfr_pool.proofs.tables.Tables.of.Given as goal

abbrev pub invariant-loop-number : goal.invariant-loop-number
invariant-loop-number l = AreTables l.tables (take l.number l.entries)
