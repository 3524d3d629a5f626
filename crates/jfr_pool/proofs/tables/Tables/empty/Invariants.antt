use Rattle.jfr_pool.proofs.TableLaws.{AreZero}
use Rattle.jfr_pool.proofs.tables.Tables.empty.Given as goal

abbrev pub invariant-loop-range : goal.invariant-loop-range
invariant-loop-range l = AreZero l.by_class.items
