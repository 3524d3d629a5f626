-- The state after a part of a command: what it does when its input is open, for a chunk, or at the input's
-- end.
use Rattle.std.specs.Prelude.{◌≡◌, ℕ, Bool, List, Option, Result, Ok, Err}
use Rattle.jfr_outside.specs.World.{World, State, SinkState, IfKnown}
use Rattle.jfr_header.specs.declared.ending.Ending.{Ending}
use Rattle.jfr_header.specs.declared.ending.Ending.TheVariants.{WriteFault, Memory}
use Rattle.jfr_plan.specs.Ends.{Fine, CommandEnd, Ends, NotRead, NotWritten, RanOut, command_end}
use Rattle.jfr_plan.specs.Effects.{Outside, Effect, Snapshot, outside, snapshot, done}
use Rattle.jfr_plan.specs.Rules.{Asked, Stops, Goes, Target, asked, IsGoing}
use Rattle.jfr_plan.specs.Outcomes.{SomeDone, Breaks, Unchanged, Rises, Counted, Tallied}

-- The state after a part at which the command ended, as it had to, or because something failed. A part reads
-- nothing.
abbrev pub PartEnded : Bool → Asked → CommandEnd → Snapshot → Snapshot → Type 0
PartEnded steady a (Ends Fine) s t = ⊥
PartEnded steady a (Ends e) s t = (a ≡ Stops e) × (t ≡ s)
PartEnded steady a NotRead s t = ⊥
PartEnded steady a NotWritten s t = Breaks steady (asked a) s t
PartEnded steady a RanOut s t = SomeDone (asked a) s t

-- The state after a part that has to do this, for each result.
abbrev pub PartOutcome : Bool → Asked → Result (Unit {0}) Ending → Snapshot → Snapshot → Type 0
PartOutcome steady a (Ok x) s t = IsGoing a × (t ≡ done (asked a) s)
PartOutcome steady a (Err e) s t = PartEnded steady a (command_end e) s t

-- The world after a part that has to do this. A part reads nothing from the input.
abbrev pub PartWorld : Bool → Asked → Result (Unit {0}) Ending → Option (List ℕ) → Option (List ℕ) → World → World → Type 0
PartWorld steady a result text text' w v = (v.input ≡ w.input) × PartOutcome steady a result (snapshot w text) (snapshot v text')

-- The state after a part that has to do this, if the files of the place are known.
abbrev pub IsAfterPart : Asked → Result (Unit {0}) Ending → Outside → Outside → Type 0
IsAfterPart a result before now = IfKnown before.place.contents now.place.contents (PartWorld before.place.steady a result before.sink.written now.sink.written)

-- The counts that rose in a part, for each result.
abbrev pub PartTallied : Target → Result (Unit {0}) Ending → Outside → Outside → Type 0
PartTallied target (Ok x) a b = Counted Unchanged Unchanged Unchanged a b
PartTallied target (Err e) a b = Tallied target (command_end e) a b

-- The state of a place after these effects on it, with any sink.
abbrev pub IsPlaceAfter : List Effect → Result (Unit {0}) Ending → State → State → Type 0
IsPlaceAfter es result a b = (sink : SinkState) → IsAfterPart (Goes es) result (outside a sink) (outside b sink)

-- The count of write faults, for each result of effects on a place: it rises with a write fault. The only
-- other failure is that memory runs out.
abbrev pub WriteRises : Result (Unit {0}) Ending → ℕ → ℕ → Type 0
WriteRises (Ok x) before now = Unchanged before now
WriteRises (Err WriteFault) before now = Rises before now
WriteRises (Err Memory) before now = Unchanged before now
WriteRises (Err _) before now = ⊥

-- The counts after effects on a place, with any sink: only that of write faults can rise.
abbrev pub PlaceCounts : Result (Unit {0}) Ending → State → State → Type 0
PlaceCounts result a b = (sink : SinkState) → Counted Unchanged (WriteRises result) Unchanged (outside a sink) (outside b sink)
