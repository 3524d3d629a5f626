use Rattle.std.proofs.Common.{◌*◌, ◌+◌}
use Rattle.jfr_meta.specs.Body.{element_format}
use Rattle.jfr_meta.proofs.Runs.{Reading}
use Rattle.jfr_meta.proofs.body.+elements.Given as goal

abbrev pub decreases-read_element : goal.decreases-read_element
decreases-read_element l = 2 * l.levels

abbrev pub decreases-read_elements : goal.decreases-read_elements
decreases-read_elements l = 2 * l.levels + 1

abbrev pub invariant-read_elements-loop : goal.invariant-read_elements-loop
invariant-read_elements-loop l = Reading (element_format l.levels l.reader.strings) l.reader.bytes.now l.reader.end l.at l.count l.counter l.place l.elements
