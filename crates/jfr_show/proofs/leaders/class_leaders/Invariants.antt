use Rattle.std.specs.Prelude.{take}
use Rattle.std.specs.List.{AllZip}
use Rattle.jfr_show.specs.Counting.{AreNamed, IsLed}
use Rattle.jfr_show.proofs.leaders.class_leaders.Given as goal

-- The classes so far have their leaders, and what is kept names classes.
abbrev pub invariant-loop-index : goal.invariant-loop-index
invariant-loop-index l = AreNamed l.chunk.classes l.chunk.body.strings l.named × AllZip (IsLed l.chunk.classes) (take l.index l.chunk.classes) l.leaders.items
