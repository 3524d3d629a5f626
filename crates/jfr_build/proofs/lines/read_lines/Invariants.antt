use Rattle.std.proofs.Common.{◌≡◌, ◌+◌, ◌≤◌, ◌^◌, length}
use Rattle.jfr_build.specs.Lines.{any_class, any_region, any_value, read_from, read_lines}
use Rattle.jfr_build.proofs.lines.read_lines.Given as goal

abbrev pub invariant-lines : goal.invariant-lines
invariant-lines l = record {
  same : read_from (l.number + 1) l.lines.items l.unread ≡ read_lines l.text;
  class : any_class l.lines.items ≡ l.before.class;
  value : any_value l.lines.items ≡ l.before.value;
  region : any_region l.lines.items ≡ l.before.region;
  few : l.number + length l.unread ≤ 2 ^ 30;
}

abbrev pub decreases-lines : goal.decreases-lines
decreases-lines l = length l.unread
