use Rattle.std.proofs.Common.{◌≡◌, length, take}
use Rattle.std.specs.List.{flat_map}
use Rattle.jfr_layout.specs.Classes.{class_index}
use Rattle.jfr_worklist.specs.Marks.{those}
use Rattle.jfr_meta.specs.Stays.{ids_with}
use Rattle.jfr_worklist.specs.Putting.{Puts}
use Rattle.jfr_meta.proofs.stay.+below.Given as goal

abbrev pub decreases-put_below : goal.decreases-put_below
decreases-put_below l = goal.size-put_below l

abbrev pub decreases-put_each : goal.decreases-put_each
decreases-put_each l = goal.size-put_each l

abbrev pub invariant-put_each-loop-element : goal.invariant-put_each-loop-element
invariant-put_each-loop-element l = Puts (those (class_index l.classes) (flat_map (ids_with l.strings) (take l.element-index l.elements))) l.initial.list
    l.list × (length l.list.flags.items ≡ length l.classes)
