-- What contracts see of a steady place in memory.
use Rattle.std.specs.Prelude.{ℕ, Some, true, option_map, string_bytes}
use Rattle.jfr_outside.specs.World.{World, State}
use Rattle.jfr_outside.specs.Held.{files_of}
use Rattle.jfr_outside.specs.Source.{unread_bytes}
use Rattle.jfr_outside.specs.declared.steady_place.SteadyPlace.{SteadyPlace}

-- Its files, what is left of its input, and the name of its output.
abbrev pub world_of : SteadyPlace → World
world_of p = record { files = files_of p.files; input = option_map unread_bytes p.input; output = option_map string_bytes p.output }

-- Its contents, its counts of faults, and that it is steady.
abbrev pub state_of : SteadyPlace → State
state_of p = record { contents = Some (world_of p); read_faults = p.read_faults; write_faults = p.write_faults; steady = true }

-- The most bytes that a read gives.
abbrev pub most_of : SteadyPlace → ℕ
most_of p = p.most
