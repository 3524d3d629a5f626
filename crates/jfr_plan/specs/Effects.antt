-- What a command does to files and to the output sink, step by step.
use Rattle.std.specs.Prelude.{◌≡◌, ℕ, Bool, true, false, nat_le, List, [], ◌∷◌, take, map, Option, None, Some, option_map, IsSome, is_some, not, ◌&&◌}
use Rattle.jfr_outside.specs.World.{World, State, SinkState, Files, added, grown}
use Rattle.jfr_plan.specs.Ends.{End}
use Rattle.std.specs.FinMap as fin

-- The state of a place and of the output sink.
pub record Outside : Type 0 where
  pub place : State
  pub sink : SinkState

-- The two states as one.
abbrev pub outside : State → SinkState → Outside
outside place sink = record { place = place; sink = sink }

-- The state of a sink of which nothing is known.
abbrev pub no_sink : SinkState
no_sink = record { written = None; faults = 0 }

-- The state of a place, with a sink of which nothing is known.
abbrev pub without_sink : State → Outside
without_sink place = outside place no_sink

-- The state that effects change: the files, the name of the open output, the text on the output sink if it is
-- known, and whether each effect so far could be done.
pub record Snapshot : Type 0 where
  pub files : Files
  pub output : Option (List ℕ)
  pub text : Option (List ℕ)
  pub sound : Bool

-- The state before any effect, given those of a place and a sink.
abbrev pub snapshot : World → Option (List ℕ) → Snapshot
snapshot w text = record { files = w.files; output = w.output; text = text; sound = true }

-- An effect: a file is created as the output, bytes are appended to the output, the output is finished, or
-- text is written.
pub data Effect : Type 0 where
  Create : List ℕ → Effect
  Append : List ℕ → Effect
  Finish : Effect
  Write : List ℕ → Effect

-- The state after an effect.
abbrev pub apply : Effect → Snapshot → Snapshot
apply (Create name) s = record s { files = fin.insert s.files name []; output = Some name; sound = s.sound && not (is_some (fin.get s.files name)) && not (is_some s.output) }
apply (Append bytes) s = record s { files = grown s.output bytes s.files; sound = s.sound && is_some s.output }
apply Finish s = record s { output = None; sound = s.sound && is_some s.output }
apply (Write bytes) s = record s { text = option_map (added bytes) s.text }

-- The state after these effects, one after another.
abbrev pub done : List Effect → Snapshot → Snapshot
done [] s = s
done (e ∷ es) s = done es (apply e s)

-- The effects that write a file.
abbrev pub writes : List ℕ → List ℕ → List Effect
writes name bytes = Create name ∷ Append bytes ∷ Finish ∷ []

-- The state after an effect that failed: no output is open, or only the first k of the bytes were written.
abbrev pub broken : ℕ → Effect → Snapshot → Snapshot
broken k (Create name) s = record s { output = None }
broken k (Append bytes) s = record s { files = grown s.output (take k bytes) s.files }
broken k Finish s = record s { output = None }
broken k (Write bytes) s = apply (Write (take k bytes)) s

-- When a steady place may fail at an effect. A sink may fail at any text.
abbrev pub Cannot : Effect → Snapshot → Type 0
Cannot (Create name) s = (fin.get s.files name ≡ None) → IsSome s.output
Cannot (Append bytes) s = s.output ≡ None
Cannot Finish s = s.output ≡ None
Cannot (Write bytes) s = Unit {0}

-- What must have happened before an effect: nothing, the opening of the input, the reading of the first n
-- chunks, those of earlier files included, or the reading of the input to its end.
pub data Need : Type 0 where
  Nothing : Need
  Opened : Need
  Chunks : ℕ → Need
  AtEnd : Need

-- An effect, and what must have happened before it.
pub record Step : Type 0 where
  pub need : Need
  pub effect : Effect

-- These effects as steps with this need.
abbrev pub needing : Need → List Effect → List Step
needing n es = map (λ e. record { need = n; effect = e }) es

-- The effects of steps.
abbrev pub effects : List Step → List Effect
effects ss = map (λ s. s.effect) ss

-- Whether a need is met after this number of whole chunks was read; `None` means that no input is open.
abbrev pub is_met : Option ℕ → Need → Bool
is_met o Nothing = true
is_met (Some n) (Chunks k) = nat_le k n
is_met (Some n) Opened = true
is_met o _ = false

-- The steps whose need is met.
abbrev pub keep_met : Option ℕ → List Step → List Step
keep_met o [] = []
keep_met o (s ∷ ss) = keep_one (is_met o s.need) s (keep_met o ss)
  where
    keep_one : Bool → Step → List Step → List Step
    keep_one true s ss = s ∷ ss
    keep_one false s ss = ss

-- The steps of a command, and its end; no end if the file to open doesn't exist.
pub record Plan : Type 0 where
  pub steps : List Step
  pub end : Option End
