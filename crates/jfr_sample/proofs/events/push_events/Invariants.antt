use Rattle.std.specs.Prelude.{◌≡◌, ◌++◌}
use Rattle.jfr_sample.specs.Sample.{draw, events_to}
use Rattle.jfr_sample.proofs.events.push_events.Given as goal

abbrev pub invariant-loop-count : goal.invariant-loop-count
invariant-loop-count l = record {
  drawn : l.draw ≡ draw l.seed l.count;
  done : l.into.items ≡ l.initial.into.items ++ events_to l.seed l.events l.count;
}
