use Rattle.std.specs.Prelude.{take}
use Rattle.jfr_show.specs.Counting.{AreTallies}
use Rattle.jfr_show.proofs.counting.class_tallies.Given as goal

abbrev pub invariant-loop-number : goal.invariant-loop-number
invariant-loop-number l = AreTallies l.classes l.leaders.items (take l.number l.frames) l.counted.items
