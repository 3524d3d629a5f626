use Rattle.jfr_meta.specs.Body.{table_string}
use Rattle.jfr_meta.proofs.Runs.{Reading}
use Rattle.jfr_meta.proofs.strings.read_strings.Given as goal

abbrev pub invariant-loop : goal.invariant-loop
invariant-loop l = Reading table_string l.bytes l.end l.at l.count l.counter l.place l.strings
