-- How a call changes the counts of faults, and what a failed append keeps.
use Rattle.std.specs.Prelude.{◌≡◌, ◌≤◌, ℕ, List, take, Option, option_map, Result}
use Rattle.jfr_outside.specs.Counts.{Counts}
use Rattle.jfr_outside.specs.World.{State}
use Rattle.jfr_outside.specs.declared.fault.Fault.{Fault}

-- A call that reads counts a read fault if it fails; the count of write faults doesn't change.
pub record CountsRead {T : Type 0} (result : Result T Fault) (before after : State) : Type 0 where
  pub reads : Counts result before.read_faults after.read_faults
  pub writes : after.write_faults ≡ before.write_faults
  pub same : after.steady ≡ before.steady

-- A call that writes counts a write fault if it fails; the count of read faults doesn't change.
pub record CountsWrite {T : Type 0} (result : Result T Fault) (before after : State) : Type 0 where
  pub reads : after.read_faults ≡ before.read_faults
  pub writes : Counts result before.write_faults after.write_faults
  pub same : after.steady ≡ before.steady

-- A prefix of the bytes was added, of at most `keep` bytes.
abbrev pub KeepsPrefix : {W : Type 0} → ℕ → Option W → Option W → List ℕ → (List ℕ → W → W) → Type 0
KeepsPrefix keep before after bytes add = (k : ℕ) × (k ≤ keep) × (after ≡ option_map (add (take k bytes)) before)
