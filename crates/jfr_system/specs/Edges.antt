-- What is known of real files and streams: their counts of faults, but not the contents of any name; and what
-- a call does to the open file.
use Rattle.std.specs.Prelude.{ℕ, List, Option, Some, None, Result, IsErr, false}
use Rattle.std.specs.Io.KnownBytes.{Appends, ReadConsumes}
use Rattle.jfr_outside.specs.declared.fault.Fault.{Fault}
use Rattle.jfr_outside.specs.World.{State, SinkState}

-- The state of a place of whose files nothing is known, and that isn't steady.
abbrev pub untold : ℕ → ℕ → State
untold reads writes = record { contents = None; read_faults = reads; write_faults = writes; steady = false }

-- The state of a sink whose bytes aren't known.
abbrev pub unseen : ℕ → SinkState
unseen faults = record { written = None; faults = faults }

-- A file is open, and these bytes were added to its contents, if they are known.
abbrev pub Grew : {W : Type 0} → (W → Option (List ℕ)) → Option W → Option W → List ℕ → Type 0
Grew contents None new bytes = ⊥
Grew contents (Some old) None bytes = ⊥
Grew contents (Some old) (Some new) bytes = Appends (contents old) (contents new) bytes

-- A file is open, and a read took the bytes that it returned from the start of what was left, if that is
-- known. It returned none only at the end.
abbrev pub Took : {R : Type 0} → (R → Option (List ℕ)) → Option R → Option R → Result ℕ Fault → List ℕ → Type 0
Took remaining None new result into = IsErr result
Took remaining (Some old) None result into = ⊥
Took remaining (Some old) (Some new) result into = ReadConsumes (remaining old) (remaining new) result into
