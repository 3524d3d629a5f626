use Rattle.std.proofs.Common.{map}
use Rattle.jfr_layout.specs.Names.{AreAllNumbered}
use Rattle.jfr_meta.specs.Described.{class_of, class_flaws, heads}
use Rattle.jfr_meta.specs.Names.{AreNumbers}
use Rattle.jfr_meta.proofs.Judging.{Judging}
use Rattle.jfr_meta.proofs.class.read_classes.Given as goal

-- The classes so far are good, and their fields are numbered.
abbrev pub invariant-loop-element : goal.invariant-loop-element
invariant-loop-element l =
    Judging (class_flaws l.strings) (class_of l.strings (heads l.strings (map (λ e. e.now) l.elements))) (map (λ e. e.now) l.elements) l.element-index l.classes
    × AreNumbers l.strings l.names × AreAllNumbered l.classes l.numbers.items
