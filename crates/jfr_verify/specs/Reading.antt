-- How the lines of a receipt are read.
use Rattle.std.specs.Prelude.{ℕ, List, length, Option, Some, None, Ok, Err, ◌==◌, if◌then◌else◌}
use Rattle.jfr_base.specs.Formats.{Got, Answer, run, times}
use Rattle.jfr_verify.specs.declared.line.Line.{Line}
use Rattle.jfr_verify.specs.Receipts.{line_format, receipt_format}

-- What was read, and the offset after it, if nothing was refused.
abbrev pub got_in : {A : Type 0} → Answer A → Option (Got A)
got_in (Ok g) = Some g
got_in (Err flaw) = None

-- The line at this offset.
abbrev pub line_in : List ℕ → ℕ → Option (Got Line)
line_in r at = got_in (run line_format r (length r) at)

-- This many lines from this offset on.
abbrev pub each_in : List ℕ → ℕ → ℕ → Option (Got (List Line))
each_in r at n = got_in (run (times n line_format) r (length r) at)

-- The lines that were read, if their number is this.
abbrev pub if_count : ℕ → Option (Got (List Line)) → Option (Got (List Line))
if_count n None = None
if_count n (Some g) = if length g.value == n then Some g else None

-- The lines of the receipt at the start of these bytes, if their number is this.
abbrev pub lines_of_count : List ℕ → ℕ → Option (Got (List Line))
lines_of_count r n = if_count n (got_in (run receipt_format r (length r) 0))
