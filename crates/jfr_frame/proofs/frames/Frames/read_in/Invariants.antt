use Rattle.std.proofs.Common.{length, ◌-◌}
use Rattle.jfr_frame.proofs.Reading.{Read}
use Rattle.jfr_frame.proofs.frames.Frames.read_in.Given as goal

abbrev pub invariant-records : goal.invariant-records
invariant-records l = Read l.chunk l.starts.items l.at

abbrev pub decreases-records : goal.decreases-records
decreases-records l = length l.chunk - l.at
