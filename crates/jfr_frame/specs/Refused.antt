-- How the records of a chunk are refused.
use Rattle.std.specs.Prelude.{◌≡◌, ℕ, List, Err}
use Rattle.jfr_base.specs.declared.flaw.ReadFault.{ReadFault}
use Rattle.jfr_base.specs.declared.flaw.ReadFault.TheVariants.{Flawed, Memory}
use Rattle.jfr_base.specs.declared.reason.Reason.TheVariants.{RecordSize}
use Rattle.jfr_frame.specs.Records.{FrameFlaw, records_of}

-- No record starts at the offset of the flaw, and records cover the bytes before it. Running out of memory
-- says nothing about the chunk.
abbrev pub RefusedAt : List ℕ → ReadFault → Type 0
RefusedAt c (Flawed flaw) = (flaw.reason ≡ RecordSize) × FrameFlaw c flaw.offset × (records_of c ≡ Err flaw)
RefusedAt c Memory = Unit {0}
