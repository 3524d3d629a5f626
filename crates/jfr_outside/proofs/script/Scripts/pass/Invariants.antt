use Rattle.std.proofs.Common.{◌≡◌, ◌++◌, take, drop}
use Rattle.jfr_outside.specs.Scripts.{after_call}
use Rattle.jfr_outside.proofs.script.Scripts.pass.Given as goal

abbrev pub invariant-loop-script : goal.invariant-loop-script
invariant-loop-script l = l.script-items ≡ after_call l.call (take l.script-index l.initial.script-items) ++ drop l.script-index l.initial.script-items
