use Rattle.std.proofs.Common.{take}
use Rattle.jfr_layout.specs.Names.{AreAllNumbered}
use Rattle.jfr_layout.proofs.numbers.number_fields.Given as goal

-- The classes so far have their numbers.
abbrev pub invariant-loop-class : goal.invariant-loop-class
invariant-loop-class l = AreAllNumbered (take l.class-index l.class-items) l.numbers.items
