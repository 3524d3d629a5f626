use Rattle.std.specs.Prelude.{take}
use Rattle.std.specs.List.{AllZip}
use Rattle.jfr_path.specs.Verdicts.{IsVerdict}
use Rattle.jfr_path.proofs.verdict.verdicts_on.Given as goal

-- The classes so far have their verdicts.
abbrev pub invariant-loop-index : goal.invariant-loop-index
invariant-loop-index l = AllZip (IsVerdict l.filter) (take l.index l.chunk.classes) l.verdicts.items
