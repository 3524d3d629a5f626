-- The result of the program: the exit status, and the line on the error sink.
use Rattle.std.specs.Prelude.{◌≡◌, ℕ, List, ◌++◌, take, Option, None, Some, option_map, codes}
use Rattle.std.specs.Fmt.{decimal}
use Rattle.jfr_base.specs.declared.flaw.Refusal.{Refusal}
use Rattle.jfr_base.specs.Reasons.{reason_name}
use Rattle.jfr_outside.specs.World.{SinkState, added}
use Rattle.jfr_outside.specs.Counts.{Rose}
use Rattle.jfr_header.specs.declared.ending.Ending.{Ending}
use Rattle.jfr_header.specs.declared.ending.Ending.TheVariants.{Done, Refused, ReadFault, WriteFault, TooManyParts, MaskTooLong, Memory}
use Rattle.jfr_show.specs.Texts.{newline}
use Rattle.jfr_verify.specs.declared.doubt.Doubt.{Doubt}
use Rattle.jfr_verify.specs.Doubts.{doubt_name}
use Rattle.jfr_build.specs.declared.reason.BuildReason.{BuildReason}
use Rattle.jfr_build.specs.Reasons.{build_name}
use Rattle.jfr_cli.specs.declared.answer.Answer.{Answer}
use Rattle.jfr_cli.specs.declared.answer.Answer.TheVariants as answers

-- The status of a command's ending.
abbrev pub status_of : Ending → ℕ
status_of Done = 0
status_of (Refused r) = 2
status_of ReadFault = 3
status_of WriteFault = 4
status_of Memory = 5
status_of TooManyParts = 6
status_of (MaskTooLong n) = 9

-- The line if the words aren't an order.
abbrev pub usage_line : List ℕ
usage_line = codes "usage: jfr print|summary|metadata|scrub|disassemble|assemble|sample|receipt|verify|build|stacks|mask" ++ newline

-- The line of a refused recording: the number of the chunk, the offset in it, and the name of the reason.
abbrev pub refusal_line : Refusal → List ℕ
refusal_line r = codes "chunk " ++ (decimal r.chunk ++ (codes " offset " ++ (decimal r.offset ++ (codes ": " ++ (reason_name r.reason ++ newline)))))

-- The line of a doubt: the number of the chunk, and the name of the doubt.
abbrev pub doubt_line : ℕ → Doubt → List ℕ
doubt_line chunk doubt = codes "chunk " ++ (decimal chunk ++ (codes ": " ++ (doubt_name doubt ++ newline)))

-- The line of a text that is refused: the number of its line, and the name of the reason.
abbrev pub unbuilt_line : ℕ → BuildReason → List ℕ
unbuilt_line line reason = codes "line " ++ (decimal line ++ (codes ": " ++ (build_name reason ++ newline)))

-- The line of a read fault.
abbrev pub read_line : List ℕ
read_line = codes "read fault" ++ newline

-- The line of a write fault.
abbrev pub write_line : List ℕ
write_line = codes "write fault" ++ newline

-- The line if memory ran out.
abbrev pub memory_line : List ℕ
memory_line = codes "out of memory" ++ newline

-- The line if there would be too many parts.
abbrev pub parts_line : List ℕ
parts_line = codes "too many parts" ++ newline

-- The line if the masked chunk with this number would be too long.
abbrev pub long_line : ℕ → List ℕ
long_line n = codes "chunk " ++ (decimal n ++ (codes ": MaskTooLong" ++ newline))

-- The line of an ending, if it has one.
abbrev pub line_of : Ending → Option (List ℕ)
line_of Done = None
line_of (Refused r) = Some (refusal_line r)
line_of ReadFault = Some read_line
line_of WriteFault = Some write_line
line_of Memory = Some memory_line
line_of TooManyParts = Some parts_line
line_of (MaskTooLong n) = Some (long_line n)

-- The status and the line of an answer.
abbrev pub answer_status : Answer → ℕ
answer_status answers.Usage = 1
answer_status (answers.Ended e) = status_of e
answer_status (answers.Doubted chunk doubt) = 7
answer_status (answers.Unbuilt line reason) = 8

abbrev pub answer_line : Answer → Option (List ℕ)
answer_line answers.Usage = Some usage_line
answer_line (answers.Ended e) = line_of e
answer_line (answers.Doubted chunk doubt) = Some (doubt_line chunk doubt)
answer_line (answers.Unbuilt line reason) = Some (unbuilt_line line reason)

-- The line was written to the sink. If the sink's count of faults rose, perhaps only a prefix of it was.
pub data IsLineWritten (line : List ℕ) (a b : SinkState) : Type 0 where
  Whole : b ≡ record { written = option_map (added line) a.written; faults = a.faults } → IsLineWritten line a b
  Part : Rose a.faults b.faults → (k : ℕ) → b.written ≡ option_map (added (take k line)) a.written → IsLineWritten line a b

-- The line for running out of memory was written, or no line and the sink is unchanged, since memory can also
-- run out while a line is written.
pub data IsMemoryLineWritten (a b : SinkState) : Type 0 where
  Line : IsLineWritten memory_line a b → IsMemoryLineWritten a b
  Silent : b ≡ a → IsMemoryLineWritten a b

-- The line of an ending was written, if it has one; else the sink is unchanged.
abbrev pub IsAnyLineWritten : Option (List ℕ) → SinkState → SinkState → Type 0
IsAnyLineWritten None a b = b ≡ a
IsAnyLineWritten (Some line) a b = IsLineWritten line a b

-- The status with its line, or status 5, as after running out of memory.
pub data IsAnswered (status : ℕ) (line : Option (List ℕ)) (answer : ℕ) (a b : SinkState) : Type 0 where
  Fully : answer ≡ status → IsAnyLineWritten line a b → IsAnswered status line answer a b
  ForMemory : answer ≡ 5 → IsMemoryLineWritten a b → IsAnswered status line answer a b
