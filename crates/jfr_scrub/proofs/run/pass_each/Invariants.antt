use Rattle.std.proofs.Common.{◌-◌, length}
use Rattle.jfr_scrub.specs.Runs.{Passes}
use Rattle.jfr_scrub.proofs.run.pass_each.Given as goal

abbrev pub invariant-run : goal.invariant-run
invariant-run l = Passes l.chunk l.kept l.fn.cursor l.cursor

abbrev pub decreases-run : goal.decreases-run
decreases-run l = length l.chunk.records - l.cursor.frame
