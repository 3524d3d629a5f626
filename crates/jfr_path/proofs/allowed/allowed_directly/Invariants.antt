use Rattle.std.proofs.Common.{◌≡◌, map, take}
use Rattle.jfr_path.specs.Strings.{is_allowed}
use Rattle.jfr_path.proofs.allowed.allowed_directly.Given as goal

abbrev pub invariant-loop-class : goal.invariant-loop-class
invariant-loop-class l = l.allowed.items ≡ map (is_allowed l.filter) (take l.class-index l.class-items)
