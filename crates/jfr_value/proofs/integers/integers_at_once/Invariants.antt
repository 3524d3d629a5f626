use Rattle.std.proofs.Common.{◌≡◌, ◌+◌, ◌-◌, ◌*◌, ◌≤◌}
use Rattle.jfr_base.specs.Formats.{integer, run, end_or_flaw, times}
use Rattle.jfr_value.proofs.integers.integers_at_once.Given as goal

abbrev pub invariant-loop : goal.invariant-loop
invariant-loop l = record {
  upto : l.passed ≤ 9 * l.counter;
  same : l.passed ≤ 16 → l.at + l.passed ≤ l.end
      → end_or_flaw (run (times (l.count - l.counter) integer) l.bytes l.end (l.at + l.passed)) ≡ end_or_flaw (run (times l.count integer) l.bytes l.end l.at);
}
