use Rattle.std.proofs.Common.{◌≡◌, length, take}
use Rattle.jfr_layout.specs.Classes.{class_index}
use Rattle.jfr_worklist.specs.Marks.{those}
use Rattle.jfr_meta.specs.Stays.{is_in}
use Rattle.jfr_worklist.specs.Putting.{Puts}
use Rattle.jfr_meta.proofs.PutsLaws.{first_of}
use Rattle.jfr_meta.proofs.stay.put_first.Given as goal

abbrev pub invariant-loop-class : goal.invariant-loop-class
invariant-loop-class l = Puts (those (class_index l.classes) (first_of l.classes (is_in l.used) (take l.class-index l.classes))) l.initial.list l.list × (length l.list.flags.items ≡ length l.classes)
