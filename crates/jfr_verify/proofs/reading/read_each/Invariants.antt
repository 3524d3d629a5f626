use Rattle.jfr_verify.proofs.ReadingLaws.{InEach}
use Rattle.jfr_verify.proofs.reading.read_each.Given as goal

abbrev pub invariant-loop : goal.invariant-loop
invariant-loop l = InEach l.receipt l.at l.count l.counter l.end l.lines.items
