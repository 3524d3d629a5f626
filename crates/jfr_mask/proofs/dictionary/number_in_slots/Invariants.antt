use Rattle.std.specs.Str.{chars}
use Rattle.jfr_mask.proofs.FindLaws.{LacksTo}
use Rattle.jfr_mask.proofs.dictionary.number_in_slots.Given as goal

abbrev pub invariant-loop-slot : goal.invariant-loop-slot
invariant-loop-slot l = LacksTo l.texts (chars l.text) l.slot-items l.tag l.slot-index
