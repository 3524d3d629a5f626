use Rattle.std.proofs.Common.{◌≤◌, ◌-◌}
use Rattle.jfr_text.specs.Spans.{AreShort}
use Rattle.jfr_text.proofs.read.skip_short_eights.Given as goal

abbrev pub invariant-loop-place : goal.invariant-loop-place
invariant-loop-place l = record {
  from : l.at ≤ l.place;
  to : l.place ≤ l.end;
  short : AreShort l.bytes l.at l.place;
}

abbrev pub decreases-loop-place : goal.decreases-loop-place
decreases-loop-place l = l.end - l.place
