-- A command that makes one output chunk of each chunk of its input.
use Rattle.std.specs.Prelude.{◌≡◌, ℕ, ◌+◌, List, [], ◌∷◌, length, Option, None, Some}
use Rattle.jfr_base.specs.declared.flaw.Flaw.{Flaw}
use Rattle.jfr_base.specs.declared.flaw.ReadFault.{ReadFault}
use Rattle.jfr_base.specs.declared.flaw.ReadFault.TheVariants.{Flawed, Memory}
use Rattle.jfr_plan.specs.Ends.{refused}
use Rattle.jfr_plan.specs.Effects.{Create, Append, Finish}
use Rattle.jfr_plan.specs.Rules.{Rule, Asked, Stops, Goes, File}

-- The fault is this flaw, or memory ran out.
abbrev pub IsFlawOf : Option Flaw → ReadFault → Type 0
IsFlawOf o (Flawed f) = o ≡ Some f
IsFlawOf o Memory = Unit {0}

-- Chunk number n is refused with its flaw, or its output chunk is appended.
abbrev pub asks_made : Option Flaw → ℕ → List ℕ → Asked
asks_made None n out = Goes (Append out ∷ [])
asks_made (Some f) n out = Stops (refused n f)

-- The rule of the command: the output is created, each chunk's output chunk is appended, and the output is
-- finished.
abbrev pub making : List ℕ → (List ℕ → Option Flaw) → (List ℕ → List ℕ) → Rule
making output refusal becomes = record {
  opens = Create output ∷ [];
  asks = λ before c. asks_made (refusal c) (length before + 1) (becomes c);
  ends = λ before. Finish ∷ [];
  target = File;
}
