-- The verdict after a failure, and the counts of faults.
use Rattle.std.specs.Prelude.{◌≡◌, ◌≤◌, ℕ, Result, Ok, Err}
use Rattle.jfr_base.specs.declared.flaw.ReadFault as readings
use Rattle.jfr_base.specs.declared.flaw.ReadFault.TheVariants as readings_variants
use Rattle.jfr_outside.specs.Counts.{Rose}
use Rattle.jfr_outside.specs.World.{State}
use Rattle.jfr_outside.specs.declared.fault.Fault.{Fault}
use Rattle.jfr_outside.specs.declared.fault.Fault.TheVariants as faults
use Rattle.jfr_header.specs.Nexts.{at_chunk}
use Rattle.jfr_file.specs.declared.file.FileFault.{FileFault}
use Rattle.jfr_file.specs.declared.file.FileFault.TheVariants as files
use Rattle.jfr_verify.specs.declared.doubt.CheckFault.{CheckFault}
use Rattle.jfr_verify.specs.declared.doubt.CheckFault.TheVariants as checks
use Rattle.jfr_verify.specs.declared.doubt.Doubt.TheVariants.{ReceiptLong, OutRefused}
use Rattle.jfr_verify.specs.declared.verdict.Verdict.{Verdict}
use Rattle.jfr_verify.specs.declared.verdict.Verdict.TheVariants.{Doubted, Refused, ReadFault, Memory}

-- The verdict if a call of the place failed.
abbrev pub after_read : Fault → Verdict
after_read faults.Failed = ReadFault
after_read faults.Memory = Memory

-- The verdict if the receipts could not be read.
abbrev pub after_receipts : FileFault → Verdict
after_receipts files.TooLong = Doubted 0 ReceiptLong
after_receipts files.Failed = ReadFault
after_receipts files.Memory = Memory

-- The verdict if chunk `number` of the output could not be read.
abbrev pub after_output : ℕ → readings.ReadFault → Verdict
after_output number (readings_variants.Flawed flaw) = Doubted number OutRefused
after_output number readings_variants.Memory = Memory

-- The verdict if chunk `number` of the input could not be read.
abbrev pub after_chunk : ℕ → readings.ReadFault → Verdict
after_chunk number (readings_variants.Flawed flaw) = Refused (at_chunk number flaw)
after_chunk number readings_variants.Memory = Memory

-- The verdict if the chunks with this number aren't accepted.
abbrev pub after_check : ℕ → CheckFault → Verdict
after_check number (checks.Doubt doubt) = Doubted number doubt
after_check number checks.Memory = Memory

-- The count of read faults rises if the verdict is a read fault, and is unchanged otherwise.
abbrev pub Counted : Verdict → ℕ → ℕ → Type 0
Counted ReadFault before now = (before ≤ now) × Rose before now
Counted _ before now = now ≡ before

-- The counts after a call that reads, by its verdict. The place is steady or not as before.
pub record Counts (x : Verdict) (before after : State) : Type 0 where
  pub reads : Counted x before.read_faults after.read_faults
  pub writes : after.write_faults ≡ before.write_faults
  pub same : after.steady ≡ before.steady

-- The counts didn't change.
pub record AreSame (before after : State) : Type 0 where
  pub reads : after.read_faults ≡ before.read_faults
  pub writes : after.write_faults ≡ before.write_faults
  pub same : after.steady ≡ before.steady

-- The counts after a call that reads, if it succeeds or ends with a verdict.
abbrev pub CountsOf : {T : Type 0} → Result T Verdict → State → State → Type 0
CountsOf (Ok x) before after = AreSame before after
CountsOf (Err v) before after = Counts v before after
