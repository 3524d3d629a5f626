-- How a command ends after a failure.
use Rattle.std.specs.Prelude.{ℕ}
use Rattle.jfr_base.specs.declared.flaw.ReadFault.{ReadFault}
use Rattle.jfr_base.specs.declared.flaw.ReadFault.TheVariants as readings
use Rattle.jfr_outside.specs.declared.fault.Fault.{Fault}
use Rattle.jfr_outside.specs.declared.fault.Fault.TheVariants as faults
use Rattle.jfr_header.specs.Nexts.{at_chunk}
use Rattle.jfr_header.specs.declared.ending.Ending.{Ending}
use Rattle.jfr_header.specs.declared.ending.Ending.TheVariants as endings

-- The ending after a read that failed.
abbrev pub after_read : Fault → Ending
after_read faults.Failed = endings.ReadFault
after_read faults.Memory = endings.Memory

-- The ending after a write that failed.
abbrev pub after_write : Fault → Ending
after_write faults.Failed = endings.WriteFault
after_write faults.Memory = endings.Memory

-- The ending after a chunk with this number that could not be read.
abbrev pub after_chunk : ℕ → ReadFault → Ending
after_chunk number (readings.Flawed f) = endings.Refused (at_chunk number f)
after_chunk number readings.Memory = endings.Memory
