-- What contracts see of a place in memory.
use Rattle.std.specs.Prelude.{ℕ, List, length, ◌==◌}
use Rattle.jfr_outside.specs.World.{State}
use Rattle.jfr_outside.specs.SteadyPlace as steady
use Rattle.jfr_outside.specs.declared.memory_place.MemoryPlace.{MemoryPlace}
use Rattle.jfr_outside.specs.declared.script.Script.{Script}

-- Its calls that have to fail.
abbrev pub scripts_of : MemoryPlace → List Script
scripts_of p = p.scripts

-- Its state is that of a steady place, but it is steady only if it has no scripts.
abbrev pub state_of : MemoryPlace → State
state_of p = record (steady.state_of p.place) { steady = length (scripts_of p) == 0 }

-- The most bytes that a read gives.
abbrev pub most_of : MemoryPlace → ℕ
most_of p = steady.most_of p.place
