use Rattle.jfr_mask.proofs.StringTexts.{StringsRest}
use Rattle.jfr_mask.proofs.numbering.Numbering.add_strings.Given as goal

abbrev pub invariant-loop-number : goal.invariant-loop-number
invariant-loop-number l = StringsRest l.self l.fn.numbers.start l.fn.numbers.end l.number l.fn.growing l.growing
