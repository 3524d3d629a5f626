use Rattle.std.proofs.Common.{subst, sym}
use Rattle.jfr_pool.proofs.TableLaws.{AreZero, zero_tables, zero_push, zero_table}
use Rattle.jfr_pool.proofs.tables.Tables.empty.Goals as goal

pub loop-range-preserved : goal.loop-range-preserved
loop-range-preserved c =
    let table = c.in_ok-of.field-0 in
    let made = c.in_ok-of.ensures in
    subst AreZero (sym c.in_ok-push.ensures.items) (zero_push c.loop-range.by_class.items table (zero_table table c.places-taken.result made.1 made.2) c.loop-range.invariant)

pub returns : goal.returns
returns c = zero_tables _ c.loop-range.invariant
