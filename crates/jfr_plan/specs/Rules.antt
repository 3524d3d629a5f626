-- What a command does for the chunks of an input.
use Rattle.std.specs.Prelude.{◌≡◌, ℕ, ◌+◌, List, [], ◌∷◌, ◌++◌, length, Option, None, Some, true}
use Rattle.jfr_base.specs.declared.flaw.Flaw.{Flaw}
use Rattle.jfr_outside.specs.World.{World, file}
use Rattle.jfr_header.specs.Cuts.{Cuts, cut, joined}
use Rattle.jfr_plan.specs.Ends.{End, Fine, refused}
use Rattle.jfr_plan.specs.Effects.{Effect, Step, needing, Opened, Chunks, AtEnd, Plan}

-- What a part of a command (its opening, a chunk or its end) has to do: end the command, or carry out these
-- effects.
pub data Asked : Type 0 where
  Stops : End → Asked
  Goes : List Effect → Asked

-- The target of a command: one file; parts, of which there may be too many; a masked recording, of which a chunk
-- may be too long; or text.
pub data Target : Type 0 where
  File : Target
  Parts : Target
  Masked : Target
  Text : Target

-- The rule of a command over an input: what it does when the input is open, for a chunk, given the chunks
-- before it, and at the input's end, given all chunks.
pub record Rule : Type 0 where
  pub opens : List Effect
  pub asks : List (List ℕ) → List ℕ → Asked
  pub ends : List (List ℕ) → List Effect
  pub target : Target

-- The steps and the end for a list of chunks.
pub record Walk : Type 0 where
  pub steps : List Step
  pub end : End

-- The walk from chunk number n on, given what is done for this chunk and the walk after it.
abbrev pub walk_on : Asked → ℕ → Walk → Walk
walk_on (Stops e) n later = record { steps = []; end = e }
walk_on (Goes es) n later = record { steps = needing (Chunks n) es ++ later.steps; end = later.end }

-- The walk after all chunks: what is done at the input's end, or the refusal of the next chunk.
abbrev pub walk_end : Rule → List (List ℕ) → Option Flaw → Walk
walk_end r before None = record { steps = needing AtEnd (r.ends before); end = Fine }
walk_end r before (Some f) = record { steps = []; end = refused (length before + 1) f }

-- The walk over chunks that come after others, up to their end or the flaw of the next chunk.
abbrev pub walk : Rule → List (List ℕ) → List (List ℕ) → Option Flaw → Walk
walk r before [] flaw = walk_end r before flaw
walk r before (c ∷ cs) flaw = walk_on (r.asks before c) (length before + 1) (walk r (before ++ c ∷ []) cs flaw)

-- The chunks of a file, if they come after those of earlier files.
abbrev pub cut_after : List (List ℕ) → List ℕ → Cuts
cut_after earlier x = cut x (length (joined earlier)) true

-- The plan of a rule with this walk: first what is done when the input is open.
abbrev pub plan_by : Rule → Walk → Plan
plan_by r v = record { steps = needing Opened r.opens ++ v.steps; end = Some v.end }

-- The plan over a file, if it exists, whose chunks come after those of earlier files.
abbrev pub plan_after : Rule → List (List ℕ) → Option (List ℕ) → Plan
plan_after r earlier None = record { steps = []; end = None }
plan_after r earlier (Some x) = plan_by r (walk r earlier (cut_after earlier x).chunks (cut_after earlier x).flaw)

-- The plan of a command over one input with this name.
abbrev pub plan_in : Rule → List ℕ → World → Plan
plan_in r input w = plan_after r [] (file w input)

-- The effects that a part has to do.
abbrev pub asked : Asked → List Effect
asked (Stops e) = []
asked (Goes es) = es

-- The effects for chunks that come after others.
abbrev pub gone : Rule → List (List ℕ) → List (List ℕ) → List Effect
gone r before [] = []
gone r before (c ∷ cs) = asked (r.asks before c) ++ gone r (before ++ c ∷ []) cs

-- The command doesn't end at this part.
abbrev pub IsGoing : Asked → Type 0
IsGoing a = a ≡ Goes (asked a)

-- The command doesn't end at any of these chunks, which come after others.
abbrev pub AllGo : Rule → List (List ℕ) → List (List ℕ) → Type 0
AllGo r before [] = Unit {0}
AllGo r before (c ∷ cs) = IsGoing (r.asks before c) × AllGo r (before ++ c ∷ []) cs
