use Rattle.std.proofs.Common.{length, map, ◌-◌}
use Rattle.jfr_meta.specs.Stays.{is_in}
use Rattle.jfr_meta.proofs.PutsLaws.{Going}
use Rattle.jfr_meta.proofs.stay.put_staying.Given as goal

abbrev pub invariant-loop-next : goal.invariant-loop-next
invariant-loop-next l = Going l.strings (map (λ e. e.now) l.elements) l.classes (is_in l.used) l.list.flags.items l.list.order.items l.next

abbrev pub decreases-loop-next : goal.decreases-loop-next
decreases-loop-next l = length l.classes - l.next
