-- A text that is written by one call.
use Rattle.std.specs.Prelude.{◌≡◌, ℕ, ◌≤◌, List, take, option_map}
use Rattle.jfr_outside.specs.World.{SinkState, added}
use Rattle.jfr_outside.specs.Counts.{Rose}
use Rattle.jfr_header.specs.declared.ending.Ending.{Ending}
use Rattle.jfr_header.specs.declared.ending.Ending.TheVariants.{Done, WriteFault, Memory}

-- The sink after these bytes were written, by the ending: all of them, a prefix of them, or none.
abbrev pub IsWritten : List ℕ → Ending → SinkState → SinkState → Type 0
IsWritten bytes Done s z = (z.written ≡ option_map (added bytes) s.written) × (z.faults ≡ s.faults)
IsWritten bytes WriteFault s z = ((k : ℕ) × (z.written ≡ option_map (added (take k bytes)) s.written)) × ((s.faults ≤ z.faults) × Rose s.faults z.faults)
IsWritten bytes Memory s z = (z.written ≡ s.written) × (z.faults ≡ s.faults)
IsWritten bytes _ s z = ⊥
