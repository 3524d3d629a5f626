-- Recordings that a command accepts.
use Rattle.std.specs.Prelude.{◌≡◌, ℕ, List, Option, None, true}
use Rattle.std.specs.List.{AllByRecursion}
use Rattle.jfr_base.specs.declared.flaw.Flaw.{Flaw}
use Rattle.jfr_header.specs.Cuts.{cut}

-- The recording is cut into chunks without a flaw, and each of them is good.
pub record AllGood (Good : List ℕ → Type 0) (x : List ℕ) : Type 0 where
  pub flawless : (cut x 0 true).flaw ≡ None
  pub each : AllByRecursion Good (cut x 0 true).chunks

-- The recording is cut into chunks without a flaw, and none of them is refused.
abbrev pub AllAccepted : (List ℕ → Option Flaw) → List ℕ → Type 0
AllAccepted refusal x = AllGood (λ c. refusal c ≡ None) x
