use Rattle.std.proofs.Common.{◌≡◌, ◌-◌, ◌≤◌}
use Rattle.jfr_base.specs.Formats.{integer, run, end_or_flaw, times}
use Rattle.jfr_value.proofs.integers.each_integer_end.Given as goal

abbrev pub invariant-loop : goal.invariant-loop
invariant-loop l = record {
  from : l.at ≤ l.to;
  upto : l.to ≤ l.end;
  same : end_or_flaw (run (times (l.count - l.counter) integer) l.bytes l.end l.to) ≡ end_or_flaw (run (times l.count integer) l.bytes l.end l.at);
}
