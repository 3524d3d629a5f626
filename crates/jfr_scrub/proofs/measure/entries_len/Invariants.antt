use Rattle.jfr_scrub.proofs.MeasureLaws.{Adding}
use Rattle.jfr_scrub.proofs.measure.entries_len.Given as goal

abbrev pub invariant-loop-entry : goal.invariant-loop-entry
invariant-loop-entry l = Adding l.entries l.entry-index l.len
