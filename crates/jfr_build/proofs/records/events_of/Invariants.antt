use Rattle.std.proofs.Common.{◌≡◌, ◌++◌, None, drop}
use Rattle.jfr_build.specs.Built.{events_of}
use Rattle.jfr_build.specs.LineValues.{first_bad_value}
use Rattle.jfr_build.proofs.records.events_of.Given as goal

abbrev pub invariant-loop-line : goal.invariant-loop-line
invariant-loop-line l = record {
  written : events_of l.classes l.lines ≡ l.events.items ++ events_of l.classes (drop l.line-index l.lines);
  good : first_bad_value l.classes (drop l.line-index l.lines) ≡ None;
}
