use Rattle.jfr_scrub.proofs.MeasureLaws.{adding_none, adding_next, adding_all, range_order}
use Rattle.jfr_scrub.proofs.measure.entries_len.Goals as goal

pub loop-entry-init : goal.loop-entry-init
loop-entry-init c = adding_none c.args.entries.now

pub overflow_sub-entry : goal.overflow_sub-entry
overflow_sub-entry c = range_order c.requires.0 c.args.entries.now c.loop-entry.entry-index _ c.requires.1 c.loop-entry-test.true

pub loop-entry-preserved : goal.loop-entry-preserved
loop-entry-preserved c = adding_next _ _ _ _ _ c.loop-entry-test.true c.loop-entry.invariant c.saturating_add-len.ensures

pub returns : goal.returns
returns c = adding_all c.args.entries.now c.loop-entry.entry-index c.loop-entry.len c.loop-entry-test.false c.loop-entry.invariant
