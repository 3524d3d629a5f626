use Rattle.std.proofs.Common.{◌≡◌, length, take}
use Rattle.jfr_verify.specs.Added.{Adds}
use Rattle.jfr_verify.proofs.walk.add_each.Given as goal

abbrev pub invariant-loop-number : goal.invariant-loop-number
invariant-loop-number l = record {
  adds : Adds (take l.number-index l.entries) l.initial.lines l.lines;
  size : length l.lines.flags.items ≡ length l.initial.lines.flags.items;
}
