use Rattle.std.proofs.Common.{◌≡◌}
use Rattle.jfr_path.proofs.StringLaws.{IsAsked}
use Rattle.jfr_path.proofs.strings.StringVerdicts.allow.Given as goal

-- The indices so far are asked, and the options stay.
abbrev pub invariant-loop-index : goal.invariant-loop-index
invariant-loop-index l = (l.self ≡ l.fn.self) × IsAsked l.fn.self l.indices l.index-index l.included
