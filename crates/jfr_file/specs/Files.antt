-- What an answer says about a file that is read whole, up to a limit of its length.
use Rattle.std.specs.Prelude.{◌≡◌, ◌<◌, ◌≤◌, ℕ, List, [], ◌++◌, length, Vec, Option, Some, None, Result, Ok, Err, IfSome, IsSomeAnd}
use Rattle.std.specs.declared.alloc.Global.{Global}
use Rattle.jfr_outside.specs.World.{World, file, shut}
use Rattle.jfr_outside.specs.Counts.{Rose}
use Rattle.jfr_outside.specs.declared.fault.Fault.{Fault}
use Rattle.jfr_outside.specs.declared.fault.Fault.TheVariants as faults
use Rattle.jfr_header.specs.Taking.{Took, IsKept}
use Rattle.jfr_file.specs.declared.file.FileFault.{FileFault}
use Rattle.jfr_file.specs.declared.file.FileFault.TheVariants.{TooLong, Failed, Memory}

-- The answer after a call of the place that failed.
abbrev pub after_read : Fault → FileFault
after_read faults.Failed = Failed
after_read faults.Memory = Memory

-- The file exists, and has this many bytes or more.
abbrev pub IsLong : ℕ → Option (List ℕ) → Type 0
IsLong limit file = IsSomeAnd file (λ bytes. limit ≤ length bytes)

-- Fewer bytes of the file than the limit were read, and the others are left of the input; or no input is open.
abbrev pub Stopped : ℕ → Option (List ℕ) → Option (List ℕ) → Type 0
Stopped limit file input = IfSome input (λ left. (bytes : List ℕ) × (file ≡ Some (bytes ++ left)) × (length bytes < limit))

-- The world after the file was read: its bytes, or that it is too long, and no input is open; or reading
-- stopped.
abbrev pub FileRead : List ℕ → ℕ → Result (Vec ℕ Global) FileFault → World → World → Type 0
FileRead name limit (Ok bytes) w v = (file w name ≡ Some bytes.items) × (v ≡ shut w)
FileRead name limit (Err TooLong) w v = IsLong limit (file w name) × (v ≡ shut w)
FileRead name limit (Err Failed) w v = Stopped limit (file w name) v.input × IsKept w v
FileRead name limit (Err Memory) w v = IsKept w v

-- The world after the open input was read to its end, or up to the limit.
abbrev pub RestRead : ℕ → Result (Option (Vec ℕ Global)) Fault → World → World → Type 0
RestRead limit (Ok (Some bytes)) w v = Took bytes.items w v × (v.input ≡ Some [])
RestRead limit (Ok None) w v = (bytes : List ℕ) × Took bytes w v × (limit ≤ length bytes)
RestRead limit (Err faults.Failed) w v = (bytes : List ℕ) × Took bytes w v × (length bytes < limit)
RestRead limit (Err faults.Memory) w v = IsKept w v

-- The count of read faults rises if a read failed, and is unchanged otherwise.
abbrev pub Counted : {T : Type 0} → Result T FileFault → ℕ → ℕ → Type 0
Counted (Ok x) before now = now ≡ before
Counted (Err TooLong) before now = now ≡ before
Counted (Err Failed) before now = (before ≤ now) × Rose before now
Counted (Err Memory) before now = now ≡ before
