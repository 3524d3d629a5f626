-- What contracts see of a sink in memory.
use Rattle.std.specs.Prelude.{List}
use Rattle.jfr_outside.specs.World.{SinkState}
use Rattle.jfr_outside.specs.SteadySink as steady
use Rattle.jfr_outside.specs.declared.memory_sink.MemorySink.{MemorySink}
use Rattle.jfr_outside.specs.declared.script.Script.{Script}

-- Its writes that have to fail.
abbrev pub scripts_of : MemorySink → List Script
scripts_of s = s.scripts

-- Its bytes, and how often a write failed.
abbrev pub state_of : MemorySink → SinkState
state_of s = record (steady.state_of s.sink) { faults = s.faults }
