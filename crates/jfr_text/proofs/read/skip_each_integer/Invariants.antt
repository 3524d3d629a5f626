use Rattle.std.proofs.Common.{◌≡◌, ◌-◌, ◌≤◌}
use Rattle.jfr_base.specs.Formats.{times, integer, run, end_or_flaw}
use Rattle.jfr_text.proofs.read.skip_each_integer.Given as goal

abbrev pub invariant-loop : goal.invariant-loop
invariant-loop l = record {
  from : l.at ≤ l.place;
  to : l.place ≤ l.end;
  same : end_or_flaw (run (times (l.count - l.counter) integer) l.bytes l.end l.place) ≡ end_or_flaw (run (times l.count integer) l.bytes l.end l.at);
}
