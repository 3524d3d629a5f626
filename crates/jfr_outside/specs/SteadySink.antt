-- What contracts see of a steady sink.
use Rattle.std.specs.Prelude.{Some}
use Rattle.jfr_outside.specs.World.{SinkState}
use Rattle.jfr_outside.specs.declared.steady_sink.SteadySink.{SteadySink}

-- Its bytes; no write ever failed.
abbrev pub state_of : SteadySink → SinkState
state_of s = record { written = Some s.bytes.items; faults = 0 }
