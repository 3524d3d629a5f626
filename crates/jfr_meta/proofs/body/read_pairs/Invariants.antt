use Rattle.jfr_meta.specs.Body.{pair}
use Rattle.jfr_meta.proofs.Runs.{Reading}
use Rattle.jfr_meta.proofs.body.read_pairs.Given as goal

abbrev pub invariant-loop : goal.invariant-loop
invariant-loop l = Reading (pair l.reader.strings) l.reader.bytes.now l.reader.end l.at l.count l.counter l.place l.pairs
