use Rattle.std.proofs.Common.{◌≡◌, ◌+◌, length, take}
use Rattle.jfr_worklist.specs.Putting.{Puts}
use Rattle.jfr_reach.proofs.roots.put_each.Given as goal

abbrev pub invariant-loop-number : goal.invariant-loop-number
invariant-loop-number g l = record {
  puts : Puts (take l.number-index l.entries) l.initial.list l.list;
  size : length l.list.flags.items ≡ length l.initial.list.flags.items;
  cost : l.steps ≡ l.initial.steps + l.number-index;
}
