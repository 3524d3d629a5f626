use Rattle.std.proofs.Common.{◌≡◌, map, take}
use Rattle.jfr_layout.specs.Names.{value_under}
use Rattle.jfr_verify.proofs.strings.numbers_of.Given as goal

abbrev pub invariant-loop-text : goal.invariant-loop-text
invariant-loop-text l = l.numbers.items ≡ map (value_under l.fn.firsts) (take l.text-index l.strings)
