use Rattle.std.proofs.Common.{◌≡◌, ◌+◌, length}
use Rattle.jfr_value.specs.Values.{Values}
use Rattle.jfr_value.specs.Walks.{AreFrames, AreRemaining, leaves_held, remaining_holders, remaining_values, size_of_all}
use Rattle.jfr_value.proofs.cursor.next_in.Given as goal

abbrev pub decreases-loop-leaf : goal.decreases-loop-leaf
decreases-loop-leaf l = size_of_all (remaining_values l.walk.classes.now l.walk.bytes.now l.walk.end l.cursor) + length l.cursor.stack

abbrev pub invariant-loop-leaf : goal.invariant-loop-leaf
invariant-loop-leaf l = record {
  frames : AreFrames l.walk.classes.now 0 l.cursor.stack;
  here : (vs : Values) × AreRemaining l.walk.classes.now l.walk.bytes.now l.walk.end l.cursor vs;
  same : (vs : Values) → AreRemaining l.walk.classes.now l.walk.bytes.now l.walk.end l.initial.cursor vs
      → (ws : Values) × AreRemaining l.walk.classes.now l.walk.bytes.now l.walk.end l.cursor ws × (leaves_held (remaining_holders l.walk.classes.now l.initial.cursor.stack) l.initial.cursor.at vs ≡ leaves_held (remaining_holders l.walk.classes.now l.cursor.stack) l.cursor.at ws);
}
