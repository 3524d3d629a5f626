use Rattle.std.proofs.Common.{◌≡◌, map}
use Rattle.jfr_layout.specs.Classes.{begins_chain}
use Rattle.jfr_layout.proofs.inline.too_deep.Given as goal

abbrev pub invariant-loop-step : goal.invariant-loop-step
invariant-loop-step l = l.goes.items ≡ map (begins_chain l.step l.classes) l.classes
