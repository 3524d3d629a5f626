use Rattle.std.specs.Prelude.{◌≡◌}
use Rattle.jfr_sample.specs.Sample.{entries_to}
use Rattle.jfr_sample.proofs.checkpoint.entries_of.Given as goal

abbrev pub invariant-loop-count : goal.invariant-loop-count
invariant-loop-count l = l.entries.items ≡ entries_to l.count
