use Rattle.std.proofs.Common.{◌+◌, ◌*◌, length}
use Rattle.jfr_base.proofs.Groups.{Reading}
use Rattle.jfr_base.proofs.integer.read_groups.Given as goal

abbrev pub invariant-loop-group : goal.invariant-loop-group
invariant-loop-group l = Reading l.bytes l.fn.at (length l.bytes) (l.fn.at + l.group) l.value (7 * l.group)
