use Rattle.jfr_scrub.proofs.PieceLaws.{writing_none, writing_room, writing_next, writing_all, lies_get}
use Rattle.jfr_scrub.proofs.pieces.write_ranges.Goals as goal

pub loop-range-init : goal.loop-range-init
loop-range-init c = writing_none _ _ _ _ c.requires.room

pub write_range-requires-clause-lies : goal.write_range-requires-clause-lies
write_range-requires-clause-lies c = lies_get _ _ _ _ _ c.requires.lie c.loop-range-test.true

pub write_range-requires-clause-room : goal.write_range-requires-clause-room
write_range-requires-clause-room c = writing_room _ _ _ _ _ _ _ c.loop-range.invariant c.loop-range-test.true

pub loop-range-preserved : goal.loop-range-preserved
loop-range-preserved c = writing_next _ _ _ _ _ _ _ _ c.loop-range.invariant c.loop-range-test.true c.write_range.ensures.items c.write_range.ensures.len c.write_range.ensures.capacity

pub returns : goal.returns
returns c = writing_all _ _ _ _ c.loop-range.range-index c.loop-range.out c.loop-range.invariant c.loop-range-test.false
