-- The ends of plans and of commands.
use Rattle.std.specs.Prelude.{ℕ}
use Rattle.jfr_base.specs.declared.flaw.Flaw.{Flaw}
use Rattle.jfr_base.specs.declared.flaw.Refusal.{Refusal}
use Rattle.jfr_header.specs.Nexts.{at_chunk}
use Rattle.jfr_header.specs.declared.ending.Ending.{Ending}
use Rattle.jfr_header.specs.declared.ending.Ending.TheVariants as ending

-- The end of a plan: the input is read to its end, a chunk is refused, there would be too many parts, or the
-- masked chunk with this number would be too long (for 0, the file of known texts is).
pub data End : Type 0 where
  Fine : End
  Refused : Refusal → End
  TooMany : End
  TooLong : ℕ → End

-- The end of a command: that of its plan, or an earlier one because a read failed, a write failed, or memory
-- ran out.
pub data CommandEnd : Type 0 where
  Ends : End → CommandEnd
  NotRead : CommandEnd
  NotWritten : CommandEnd
  RanOut : CommandEnd

-- The code's `Ending`, as the end of a command.
abbrev pub command_end : Ending → CommandEnd
command_end ending.Done = Ends Fine
command_end (ending.Refused r) = Ends (Refused r)
command_end ending.ReadFault = NotRead
command_end ending.WriteFault = NotWritten
command_end ending.TooManyParts = Ends TooMany
command_end (ending.MaskTooLong n) = Ends (TooLong n)
command_end ending.Memory = RanOut

-- Chunk number n is refused for this flaw.
abbrev pub refused : ℕ → Flaw → End
refused n f = Refused (at_chunk n f)
