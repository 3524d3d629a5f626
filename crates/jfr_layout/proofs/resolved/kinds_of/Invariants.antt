use Rattle.std.proofs.Common.{◌≡◌, map, take}
use Rattle.jfr_layout.specs.Classes.{kind_of}
use Rattle.jfr_layout.proofs.resolved.kinds_of.Given as goal

abbrev pub invariant-loop-class : goal.invariant-loop-class
invariant-loop-class l = l.kinds.items ≡ map (λ c. kind_of c.name) (take l.class-index l.class-items)
