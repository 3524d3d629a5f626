use Rattle.std.proofs.Common.{◌≡◌, ◌+◌, ◌*◌}
use Rattle.jfr_base.proofs.Groups.{Reading}
use Rattle.jfr_base.proofs.integer.read_last.Given as goal

abbrev pub invariant-loop-place : goal.invariant-loop-place
invariant-loop-place l = record {
  reading : Reading l.bytes l.fn.at l.fn.end l.place l.value l.shift;
  passed : l.shift + 7 * l.fn.at ≡ 7 * l.place;
}
